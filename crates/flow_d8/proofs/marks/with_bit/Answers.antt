use Rattle.std.proofs.Common.{w64, sym, ◌∙◌, arith}
use Rattle.std.proofs.lemmas.Nat.Bits.{bit_at_set_same, bit_at_set_other, bit_at_clear_same, bit_at_clear_other}
use Rattle.flow_d8.proofs.marks.with_bit.Goals as goal

pub returns-then-value-eq1 : goal.returns-then-value-eq1
returns-then-value-eq1 c = record { here = bit_at_set_same w64 c.args.word c.args.bit c.requires.bit ∙ sym c.if-value-eq1.true; others = λ i _ other. bit_at_set_other w64 c.args.word c.args.bit c.requires.bit i other }

pub returns-else-value-eq1 : goal.returns-else-value-eq1
returns-else-value-eq1 c = record { here = bit_at_clear_same w64 c.args.word c.args.bit c.requires.bit ∙ omega (arith, c.requires.value, c.if-value-eq1.false); others = bit_at_clear_other w64 c.args.word c.args.bit c.requires.bit }
