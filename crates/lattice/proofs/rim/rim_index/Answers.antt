use Rattle.std.proofs.Common.{◌≡◌, ◌+◌, ◌*◌, ◌-◌, ◌/◌, ◌≤◌, ℕ, refl, subst, arith}
use Rattle.lattice.specs.RimPoints.{IsRimPoint}
use Rattle.lattice.proofs.RimNumbers.{at_cell, Top, West, East}
use Rattle.lattice.proofs.rim.rim_index.Goals as goal

-- A rim point for one side is a rim point for an equal side.
of_side : (n side k e : ℕ) → n ≡ side → IsRimPoint n k e → IsRimPoint side k e
of_side n side k e same is = subst (λ m. IsRimPoint m k e) same is

pub returns-then-number-n : goal.returns-then-number-n
returns-then-number-n c =
    let n = c.samples-n.result in
    let k = c.args.number in
    let same : n ≡ c.args.side = c.samples-n.ensures.value in
    let side : 3 ≤ n = omega (arith, same, c.samples-n.ensures.low) in
    let top = c.if-number-n.true in
    of_side n c.args.side k k same (at_cell n 0 k k k side (omega arith) top (omega arith) (Top refl refl))

pub returns-then-number-n-eq0 : goal.returns-then-number-n-eq0
returns-then-number-n-eq0 c =
    let n = c.samples-n.result in
    let k = c.args.number in
    let same : n ≡ c.args.side = c.samples-n.ensures.value in
    let side : 3 ≤ n = omega (arith, same, c.samples-n.ensures.low) in
    let above = c.if-number-n.false in
    let high = c.if-number-n-2.false in
    let even = c.if-number-n-eq0.true in
    of_side n c.args.side k _ same (at_cell n (1 + (k - n) / 2) 0 k ((1 + (k - n) / 2) * n) side (omega arith) (omega arith) (omega arith) (West (omega arith) (omega arith) refl (omega arith)))

pub returns-else-number-n-eq0 : goal.returns-else-number-n-eq0
returns-else-number-n-eq0 c =
    let n = c.samples-n.result in
    let k = c.args.number in
    let same : n ≡ c.args.side = c.samples-n.ensures.value in
    let side : 3 ≤ n = omega (arith, same, c.samples-n.ensures.low) in
    let above = c.if-number-n.false in
    let high = c.if-number-n-2.false in
    let odd = c.if-number-n-eq0.false in
    of_side n c.args.side k _ same (at_cell n (1 + (k - n) / 2) (n - 1) k ((1 + (k - n) / 2) * n + n - 1) side (omega arith) (omega arith) (omega arith) (East (omega arith) (omega arith) (omega arith) (omega arith)))
