use Rattle.lattice.proofs.Squares.{no_double_square}
use Rattle.lattice.proofs.laws.no_double_square.Goals as goal

pub returns : goal.returns
returns c = no_double_square
