use Rattle.tile_flood.proofs.Prelude.{SFits, arith, cases_eq, get_or, inl, inr, labels_of, levels_of, refl, rules, subst, sym, to_z-of_z, w16, ℕ, ◌-◌, ◌<◌, ◌≤◌, ◌≤ℤ◌, ◌⊎◌}
use Rattle.tile_flood.specs.Spans.{InSpans}
use Rattle.tile_flood.proofs.InCells.{none}
use Rattle.tile_flood.proofs.Runs.{run_near}
use Rattle.tile_flood.proofs.Spreading.{spread_on}
use Rattle.tile_flood.proofs.Spans.{taken_next}
use Rattle.tile_flood.proofs.filling.take_west.Goals as goal

pub loop-west-init : goal.loop-west-init
loop-west-init c = record {
  cells = c.requires.cells;
  from = omega arith;
  still = λ e on. on;
  count = refl;
  state = λ queue spans within s. spread_on c.args.block.now.n c.args.block.now.heights.now c.args.block.now.sinks.now (levels_of c.args.cells.now) (labels_of c.args.cells.now) queue (InSpans spans) c.args.popped.level c.args.popped.label s
      (λ e. ((c.args.from ≤ e) × (e < c.args.from)) ⊎ InSpans spans e)
      (λ e front. elim front [ inl one ↦ (let low = one.0 in let high = one.1 in absurd (omega arith)) | inr old ↦ old ])
      (λ e front. inl (inr front));
}

pub loop-west-preserved : goal.loop-west-preserved
loop-west-preserved c =
    let n = c.args.block.now.n in
    let cells = c.loop-west.cells in
    let inv = c.loop-west.invariant in
    let from = c.args.from in
    let low = c.args.popped.level in
    let fits : SFits w16 low = search rules in
    let west = c.loop-west.west in
    let next : ℕ = west - 1 in
    let some = c.loop-west-test.true in
    let t = taken_next n c.args.block.now.heights.now c.args.block.now.sinks.now cells next low c.args.popped.label fits c.args.block.now.whole.whole inv.cells (c.if-is_low.ensures.inside refl) (c.if-is_low.ensures.open refl none)
    (subst (λ l. (get_or cells next none).level ≤ℤ l) (to_z-of_z fits) (c.if-is_low.ensures.low refl none)) c.requires.mark in
    record {
      cells = t.are_cells;
      from = (let before = inv.from in omega arith);
      still = λ e on. t.marking.still e (inv.still e on);
      count = (let less = t.marking.count in let before = inv.count in omega arith);
      state = λ queue spans within s.
          let Old : ℕ → Type 0 = λ e. ((west ≤ e) × (e < from)) ⊎ InSpans spans e in
          let New : ℕ → Type 0 = λ e. ((next ≤ e) × (e < from)) ⊎ InSpans spans e in
          let here : Old west = elim (cases_eq west from) [
            | inl first ↦ inr (subst (InSpans spans) (sym first) within)
            | inr later ↦ (let before = inv.from in inl (omega arith, omega arith))
          ] in
          t.state queue Old New west here (run_near n west 1 0 next c.args.block.now.whole.side.0 (omega arith) (omega arith) (omega arith))
          (λ z front. elim front [ inl one ↦ (let low = one.0 in let high = one.1 in inl (omega arith, high)) | inr old ↦ inr old ])
          (λ z front. elim front [
            | inl one ↦ (let low = one.0 in let high = one.1 in elim (cases_eq z next) [ inl same ↦ inl same | inr other ↦ inr (inl (omega arith, high)) ])
            | inr old ↦ inr (inr old)
          ])
          (inl (omega arith, (let before = inv.from in omega arith)))
          (inv.state queue spans within s);
    }
