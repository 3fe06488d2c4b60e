use Rattle.lattice.proofs.Samples.{holds_is}
use Rattle.lattice.proofs.laws.edges_tell_holders.Goals as goal

pub returns : goal.returns
returns c = holds_is
