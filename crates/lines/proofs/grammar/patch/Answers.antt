use Rattle.std.proofs.Common.{arith, length, ap}
use Rattle.lines.proofs.NumberLemmas.{length-AreInts}
use Rattle.lines.proofs.grammar.patch.Goals as goal

pub returns-then-numbers-ne5 : goal.returns-then-numbers-ne5
returns-then-numbers-ne5 c = λ from to height h.
    let a = length-AreInts _ _ h in let b = length-AreInts _ _ c.in_ok-numbers.ensures in
    let d = ap length c.as_slice-numbers.ensures.value in
    omega (arith, a, b, d)
