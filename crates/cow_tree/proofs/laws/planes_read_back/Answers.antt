use Rattle.cow_tree.proofs.Writes.Planes.{plane_read_back}
use Rattle.cow_tree.proofs.laws.planes_read_back.Goals as goal

pub returns : goal.returns
returns c = plane_read_back
