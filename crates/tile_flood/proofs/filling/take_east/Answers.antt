use Rattle.tile_flood.proofs.Prelude.{IsNear, SFits, arith, cases_eq, get_or, inl, inr, labels_of, levels_of, refl, rules, subst, sym, to_z-of_z, w16, ℕ, ◌+◌, ◌-◌, ◌<◌, ◌≤◌, ◌≤ℤ◌, ◌⊎◌}
use Rattle.tile_flood.specs.Spans.{InSpans}
use Rattle.tile_flood.proofs.InCells.{none}
use Rattle.tile_flood.proofs.Runs.{run_near}
use Rattle.tile_flood.proofs.Spreading.{spread_on}
use Rattle.tile_flood.proofs.Spans.{taken_next}
use Rattle.tile_flood.proofs.filling.take_east.Goals as goal

pub loop-east-init : goal.loop-east-init
loop-east-init c = record {
  cells = c.requires.cells;
  from = omega arith;
  still = λ e on. on;
  count = refl;
  state = λ queue spans p within near s. spread_on c.args.block.now.n c.args.block.now.heights.now c.args.block.now.sinks.now (levels_of c.args.cells.now) (labels_of c.args.cells.now) queue (InSpans spans) c.args.popped.level c.args.popped.label s
      (λ e. ((c.args.from ≤ e) × (e < c.args.from)) ⊎ InSpans spans e)
      (λ e front. elim front [ inl one ↦ (let low = one.0 in let high = one.1 in absurd (omega arith)) | inr old ↦ old ])
      (λ e front. inl (inr front));
}

pub loop-east-preserved : goal.loop-east-preserved
loop-east-preserved c =
    let n = c.args.block.now.n in
    let cells = c.loop-east.cells in
    let inv = c.loop-east.invariant in
    let from = c.args.from in
    let low = c.args.popped.level in
    let fits : SFits w16 low = search rules in
    let next = c.loop-east.east in
    let t = taken_next n c.args.block.now.heights.now c.args.block.now.sinks.now cells next low c.args.popped.label fits c.args.block.now.whole.whole inv.cells (c.if-is_low.ensures.inside refl) (c.if-is_low.ensures.open refl none)
    (subst (λ l. (get_or cells next none).level ≤ℤ l) (to_z-of_z fits) (c.if-is_low.ensures.low refl none)) c.requires.mark in
    record {
      cells = t.are_cells;
      from = (let before = inv.from in omega arith);
      still = λ e on. t.marking.still e (inv.still e on);
      count = (let less = t.marking.count in let before = inv.count in omega arith);
      state = λ queue spans p within near s.
          let Old : ℕ → Type 0 = λ e. ((from ≤ e) × (e < next)) ⊎ InSpans spans e in
          let New : ℕ → Type 0 = λ e. ((from ≤ e) × (e < next + 1)) ⊎ InSpans spans e in
          let by : (q : ℕ) × (Old q × IsNear n q next) = elim (cases_eq next from) [
            | inl first ↦ (p, (inr within, subst (IsNear n p) (sym first) near))
            | inr later ↦ (let before = inv.from in (next - 1, (inl (omega arith, omega arith), run_near n (next - 1) 1 2 next c.args.block.now.whole.side.0 (omega arith) (omega arith) (omega arith))))
          ] in
          t.state queue Old New by.0 by.1.0 by.1.1
          (λ z front. elim front [ inl one ↦ (let low = one.0 in let high = one.1 in inl (low, omega arith)) | inr old ↦ inr old ])
          (λ z front. elim front [
            | inl one ↦ (let low = one.0 in let high = one.1 in elim (cases_eq z next) [ inl same ↦ inl same | inr other ↦ inr (inl (low, omega arith)) ])
            | inr old ↦ inr (inr old)
          ])
          (inl ((let before = inv.from in omega arith), omega arith))
          (inv.state queue spans p within near s);
    }
