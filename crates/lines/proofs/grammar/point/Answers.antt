use Rattle.std.proofs.Common.{arith, length, ap}
use Rattle.lines.proofs.NumberLemmas.{length-AreInts}
use Rattle.lines.proofs.grammar.point.Goals as goal

pub returns-then-numbers-ne2 : goal.returns-then-numbers-ne2
returns-then-numbers-ne2 c = λ p h.
    let a = length-AreInts _ _ h in let b = length-AreInts _ _ c.in_ok-numbers.ensures in
    let d = ap length c.as_slice-numbers.ensures.value in
    omega (arith, a, b, d)
