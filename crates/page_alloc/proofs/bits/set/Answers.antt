use Rattle.page_alloc.proofs.BitLemmas.{has_bit-set}
use Rattle.page_alloc.proofs.bits.set.Goals as goal

pub returns : goal.returns
returns c = has_bit-set c.args.words.now c.args.bit c.requires
