use Rattle.std.proofs.Common.{arith, ◌≡◌, length, ap, ◌-◌, take, drop}
use Rattle.std.proofs.lemmas.Grind.{common_steps}
use Rattle.lines.proofs.NumberLemmas.{length-AreInts, length-coordinates}
use Rattle.lines.proofs.grammar.number_and_points.Goals as goal

pub returns-in_err-numbers : goal.returns-in_err-numbers
returns-in_err-numbers c = rw c.from_residual.ensures (λ z ps h count.
    let long = c.in_err-numbers.ensures _ h in
    let even = length-coordinates ps in
    omega (arith, long, even, count))

pub returns-in_err-points-in-len1-up : goal.returns-in_err-points-in-len1-up
returns-in_err-points-in-len1-up c = rw c.from_residual-in_err-points-in-len1-up.ensures (λ z ps h count.
    let a = length-AreInts _ _ h in let b = length-AreInts _ _ c.in_ok-numbers.ensures in
    let even = length-coordinates ps in
    let d = ap length c.as_slice.ensures.value in
    let ns = c.as_slice.result.now in
    let rest : length (take (length ns - 1) (drop 1 ns)) ≡ length ns - 1 = grind (arith, common_steps) in
    c.in_err-points-in-len1-up.ensures (length ps) count (omega (arith, rest, a, b, d, even)))

pub returns-in-empty : goal.returns-in-empty
returns-in-empty c = λ z ps h count.
    let a = length-AreInts _ _ h in let b = length-AreInts _ _ c.in_ok-numbers.ensures in
    let d = ap length c.as_slice.ensures.value in
    omega (arith, a, b, d)
