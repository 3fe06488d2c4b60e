use Rattle.std.proofs.Common.{ℕ, ℤ, ap, ap₂, arith, negsuc, of_z, pos, subst, sym, to_z, ◌*ℤ◌, ◌+ℤ◌, ◌-ℤ◌, ◌-◌, ◌∙◌, ◌≡◌, ◌≤ℤ◌}
use mir.Syntax.{w16, w32, w64}
use mir.Val.{SFits}
use Rattle.edits.proofs.Prelude.{ints, to_z-of_z}
use Rattle.edits.specs.TileRows.{AreStepsWithin}
use Rattle.edits.proofs.StepsWithin.{CountsBelow, steps_are}
use Rattle.edits.proofs.steps.steps_within.Goals as goal

-- Numbers far from the ends of their type stay the same when the code passes them.
plain : (x : ℤ) → negsuc 9999999999 ≤ℤ x → x ≤ℤ pos 9999999999 → to_z w64 (of_z w64 x) ≡ x
plain x low high = omega (arith, ints)

module _ (f s r : ℤ) (fits : SFits w32 f) (is : r ≡ to_z w32 (of_z w32 f)) (low : negsuc 199999999 ≤ℤ s) (high : s ≤ℤ pos 200000000) where
  value : r ≡ f
  value = is ∙ to_z-of_z w32 f fits

  from_low : negsuc 2147483647 ≤ℤ f
  from_low = omega (arith, ints, fits)

  to_high : f ≤ℤ pos 2147483647
  to_high = omega (arith, ints, fits)

  steps : to_z w64 (of_z w64 (to_z w64 (of_z w64 r) -ℤ to_z w64 (of_z w64 s))) ≡ f -ℤ s
  steps =
      ap₂ (λ (a b : ℤ). to_z w64 (of_z w64 (a -ℤ b))) (ap (λ (z : ℤ). to_z w64 (of_z w64 z)) value ∙ plain f (omega (arith, ints, from_low)) (omega (arith, ints, to_high))) (plain s (omega (arith, ints)) (omega (arith, ints)))
      ∙ plain (f -ℤ s) (omega (arith, ints, from_low)) (omega (arith, ints, to_high))

  steps_after : to_z w64 (of_z w64 (to_z w64 (of_z w64 (to_z w64 (of_z w64 r) -ℤ to_z w64 (of_z w64 s))) +ℤ pos 1)) ≡ (f -ℤ s) +ℤ pos 1
  steps_after = ap (λ (z : ℤ). to_z w64 (of_z w64 (z +ℤ pos 1))) steps ∙ plain ((f -ℤ s) +ℤ pos 1) (omega (arith, ints, from_low)) (omega (arith, ints, to_high))

pub returns : goal.returns
returns c =
    let m = c.args.side - 1 in
    let s = c.first_edge-start.result in
    let start : s ≡ c.args.corner *ℤ pos m = c.first_edge-start.ensures.value ∙ ap₂ (λ (z : ℤ) (e : ℕ). z *ℤ pos e) (to_z-of_z w16 c.args.corner c.ranges.corner) c.edge-edge.ensures.value in
    let low = c.first_edge-start.ensures.low in
    let high = c.first_edge-start.ensures.high in
    let first = steps c.args.first s c.from.result c.ranges.first c.from.ensures low high ∙ ap (λ (z : ℤ). c.args.first -ℤ z) start in
    let last = steps_after c.args.last s c.from-2.result c.ranges.last c.from-2.ensures low high ∙ ap (λ (z : ℤ). (c.args.last -ℤ z) +ℤ pos 1) start in
    let before : CountsBelow c.edge-edge.result (to_z w64 (of_z w64 (to_z w64 (of_z w64 c.from.result) -ℤ to_z w64 (of_z w64 s)))) c.count_below-before.result =
    record { most = c.count_below-before.ensures.most; below = c.count_below-before.ensures.below; from = c.count_below-before.ensures.from } in
    let end : CountsBelow c.edge-edge.result (to_z w64 (of_z w64 (to_z w64 (of_z w64 (to_z w64 (of_z w64 c.from-2.result) -ℤ to_z w64 (of_z w64 s))) +ℤ pos 1))) c.count_below-end.result =
    record { most = c.count_below-end.ensures.most; below = c.count_below-end.ensures.below; from = c.count_below-end.ensures.from } in
    subst (λ (k : ℕ). AreStepsWithin m c.args.corner c.args.first c.args.last (record { first = c.count_below-before.result; count = k })) (sym c.saturating_sub.ensures)
    (steps_are m c.args.corner c.args.first c.args.last c.count_below-before.result c.count_below-end.result
    (subst (λ (n : ℕ). CountsBelow n (c.args.first -ℤ c.args.corner *ℤ pos m) c.count_below-before.result) c.edge-edge.ensures.value (subst (λ (z : ℤ). CountsBelow c.edge-edge.result z c.count_below-before.result) first before))
    (subst (λ (n : ℕ). CountsBelow n ((c.args.last -ℤ c.args.corner *ℤ pos m) +ℤ pos 1) c.count_below-end.result) c.edge-edge.ensures.value (subst (λ (z : ℤ). CountsBelow c.edge-edge.result z c.count_below-end.result) last end)))
