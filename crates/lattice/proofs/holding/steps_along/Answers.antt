use Rattle.lattice.proofs.Prelude.{ap, arith, ints, nat_abs, of_z, pos, subst, sym, to_z, to_z-of_z, w16, w64, ◌*ℤ◌, ◌+ℤ◌, ◌-ℤ◌, ◌∙◌, ◌≡◌, ◌≤ℤ◌, ◌≤◌}
use Rattle.lattice.proofs.IntTests.{le_true}
use Rattle.lattice.proofs.Along.{no_farther, distance, distance_le, outside_below, outside_above}
use Rattle.lattice.proofs.holding.steps_along.Goals as goal
use Rattle.lattice.proofs.holding.steps_along.Goals.{else-steps-ge0-via-then-steps-ge0+else-steps-from, else-steps-ge0-via-else-steps-ge0}

pub returns-then-steps-from : goal.returns-then-steps-from
returns-then-steps-from c =
    let first : c.first_edge.result ≡ c.args.corner *ℤ pos c.args.edge = c.first_edge.ensures.value ∙ ap (λ z. z *ℤ pos c.args.edge) (to_z-of_z w16 c.args.corner c.ranges.corner) in
    let gap : to_z w64 (of_z w64 (to_z w64 (of_z w64 c.from.result) -ℤ to_z w64 (of_z w64 c.first_edge.result))) ≡ c.args.value -ℤ c.args.corner *ℤ pos c.args.edge = omega (arith, ints) in
    let low : (c.args.corner *ℤ pos c.args.edge) ≤ℤ c.args.value = omega (arith, ints) in
    let is = distance (c.args.corner *ℤ pos c.args.edge) c.args.value low in
    let top : to_z w64 (of_z w64 c.from-then-steps-ge0.result) ≡ pos c.args.edge = to_z-of_z w64 c.from-then-steps-ge0.result (record { sfits = c.from-then-steps-ge0.type_inv }) ∙ c.from-then-steps-ge0.ensures in
    let near : to_z w64 (of_z w64 (to_z w64 (of_z w64 c.from.result) -ℤ to_z w64 (of_z w64 c.first_edge.result))) ≤ℤ to_z w64 (of_z w64 c.from-then-steps-ge0.result) = le_true _ _ c.if-steps-from.true in
    let high : nat_abs (c.args.value -ℤ c.args.corner *ℤ pos c.args.edge) ≤ c.args.edge = distance_le (c.args.corner *ℤ pos c.args.edge) c.args.value c.args.edge low (no_farther (c.args.corner *ℤ pos c.args.edge) c.args.value _ c.args.edge gap (subst (λ z. to_z w64 (of_z w64 (to_z w64 (of_z w64 c.from.result) -ℤ to_z w64 (of_z w64 c.first_edge.result))) ≤ℤ z) top near)) in
    subst (λ g. (nat_abs g ≤ c.args.edge) × (c.args.value ≡ c.args.corner *ℤ pos c.args.edge +ℤ pos (nat_abs g))) (sym gap) (high, is)

pub returns-else-steps-ge0 : goal.returns-else-steps-ge0
returns-else-steps-ge0 c =
    let first : c.first_edge.result ≡ c.args.corner *ℤ pos c.args.edge = c.first_edge.ensures.value ∙ ap (λ z. z *ℤ pos c.args.edge) (to_z-of_z w16 c.args.corner c.ranges.corner) in
    let gap : to_z w64 (of_z w64 (to_z w64 (of_z w64 c.from.result) -ℤ to_z w64 (of_z w64 c.first_edge.result))) ≡ c.args.value -ℤ c.args.corner *ℤ pos c.args.edge = omega (arith, ints) in
    elim c.else-steps-ge0.branch [
      | else-steps-ge0-via-then-steps-ge0+else-steps-from w ↦ outside_above c.args.edge c.args.corner c.args.value (omega (arith, ints))
      | else-steps-ge0-via-else-steps-ge0 w ↦ outside_below c.args.edge c.args.corner c.args.value (omega (arith, ints))
    ]
