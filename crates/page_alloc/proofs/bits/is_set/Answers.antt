use Rattle.page_alloc.proofs.BitLemmas.{has_bit_tested}
use Rattle.page_alloc.proofs.bits.is_set.Goals as goal

pub returns : goal.returns
returns c = has_bit_tested c.args.words.now c.args.bit
