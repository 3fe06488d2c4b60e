use Rattle.lattice.proofs.Kept.{at_most_four}
use Rattle.lattice.proofs.laws.at_most_four_hold_a_point.Goals as goal

pub returns : goal.returns
returns c = at_most_four
