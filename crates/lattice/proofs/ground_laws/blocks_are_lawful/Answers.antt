use Rattle.lattice.proofs.Lawful.{block_is_lawful}
use Rattle.lattice.proofs.ground_laws.blocks_are_lawful.Goals as goal

pub returns : goal.returns
returns c = block_is_lawful
