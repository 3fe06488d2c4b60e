use Rattle.lattice.proofs.RimNumbers.{rim_index_is}
use Rattle.lattice.proofs.laws.rim_points_are_numbered.Goals as goal

pub returns-clause-rim_point : goal.returns-clause-rim_point
returns-clause-rim_point c = rim_index_is
