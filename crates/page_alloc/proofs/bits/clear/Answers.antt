use Rattle.page_alloc.proofs.BitLemmas.{has_bit-cleared}
use Rattle.page_alloc.proofs.bits.clear.Goals as goal

pub returns : goal.returns
returns c = has_bit-cleared c.args.words.now c.args.bit c.requires
