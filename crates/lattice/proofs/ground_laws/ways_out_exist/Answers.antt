use Rattle.lattice.proofs.WaysOut.{way_out}
use Rattle.lattice.proofs.ground_laws.ways_out_exist.Goals as goal

pub returns : goal.returns
returns c = way_out
