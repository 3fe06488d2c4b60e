use Rattle.edits.proofs.BoxVoids.VoidPoints.{void_is_found}
use Rattle.edits.proofs.laws.boxes_have_void_points.Goals as goal

pub returns : goal.returns
returns c = void_is_found
