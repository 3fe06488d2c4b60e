use Rattle.lattice.proofs.SinkIndices.{block_from}
use Rattle.lattice.proofs.ground_laws.heights_make_a_block.Goals as goal

pub returns : goal.returns
returns c = block_from
