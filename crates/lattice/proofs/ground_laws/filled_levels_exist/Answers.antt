use Rattle.lattice.proofs.FilledLevels.{filled_level_exists}
use Rattle.lattice.proofs.ground_laws.filled_levels_exist.Goals as goal

pub returns : goal.returns
returns c = filled_level_exists
