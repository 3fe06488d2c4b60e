use Rattle.std.proofs.Common.{arith, sym}
use Rattle.page_codec.specs.Numbers.{zeros}
use Rattle.page_codec.proofs.Padding.{padded_nothing}
use Rattle.page_codec.proofs.writer.Writer.new.Goals as goal

pub invariant_of-result : goal.invariant_of-result
unfolding zeros
invariant_of-result g c = (omega arith, sym (padded_nothing g.row.N))
