use Rattle.tile_flood.proofs.Prelude.{SFits, ap, arith, inl, inr, int_max, labels_of, le-max_right, length, length-map, level_of, levels_of, of_z, rules, slice_index_or, subst, sym, to_z, void, w16, ℤ, ◌<◌, ◌∙◌, ◌≡◌, ◌≢◌, ◌≤ℤ◌, ≤ℤ_antisym}
use Rattle.tile_flood.specs.Spans.{InSpans}
use Rattle.tile_flood.proofs.InCells.{none, open_if, marked_unless_open}
use Rattle.tile_flood.proofs.Spreading.{marked_now, passed_max, visited_as}
use Rattle.tile_flood.proofs.settling.visit.Goals as goal

above_void : (v h low : ℤ) → v ≡ int_max h low → void ≤ℤ low → low ≢ void → v ≢ void
above_void v h low is above full none = full (≤ℤ_antisym low void (subst (λ t. low ≤ℤ t) (sym is ∙ none) (le-max_right h low)) above)

pub returns-in_ok-mark : goal.returns-in_ok-mark
returns-in_ok-mark c =
    let n = c.args.block.now.n in
    let heights = c.args.block.now.heights.now in
    let sinks = c.args.block.now.sinks.now in
    let cells = c.args.cells.now in
    let cells' = c.mark.new.cells in
    let e = c.args.e in
    let low = c.args.popped.level in
    let label = c.args.popped.label in
    let fits_height : SFits w16 c.cell_at-cell.result.level = search rules in
    let fits_low : SFits w16 low = search rules in
    let fits_new : SFits w16 c.higher.result = search rules in
    let v : ℤ = to_z w16 (of_z w16 c.higher.result) in
    let o = open_if n heights cells e c.args.block.now.whole.whole c.requires.cells c.requires.e c.cell_at-cell.result (c.cell_at-cell.ensures none) (sym c.is_open.ensures ∙ c.if-is_open.true) in
    let is : v ≡ int_max (slice_index_or heights e void) low = passed_max c.higher.result c.cell_at-cell.result.level low (slice_index_or heights e void) fits_new fits_height fits_low c.higher.ensures (ap (λ cell. cell.level) (c.cell_at-cell.ensures none) ∙ o.height none) in
    let above : void ≤ℤ low = search rules in
    let full : v ≢ void = above_void v (slice_index_or heights e void) low is above c.requires.mark.0 in
    let inside : e < length cells = omega arith in
    let m = marked_now (levels_of cells) (levels_of cells') (labels_of cells) e v label (subst (λ k. e < k) (sym (length-map cells level_of)) inside) o.off full c.in_ok-mark.ensures.levels in
    let joined = c.in_ok-mark.ensures.joined in
    record {
      cells = c.in_ok-mark.ensures.cells heights c.requires.cells;
      still = m.still;
      count = (let fewer = m.count in let more = c.in_ok-mark.ensures.count in omega arith);
      fewer = (let fewer = m.count in omega arith);
      state = λ spans p from near s. (
        visited_as n heights sinks (levels_of cells) (labels_of cells) c.args.queue.now c.mark.new.queue (InSpans spans) (InSpans spans) low label p e v s from near o.solid o.off is full joined.others joined.only
            (λ z front. front) (λ z front. inr front) (inl joined.waits) (levels_of cells') (labels_of cells') c.in_ok-mark.ensures.levels c.in_ok-mark.ensures.labels,
        λ _. m.marked,
      );
    }

pub returns-else-is_open-clause-state : goal.returns-else-is_open-clause-state
returns-else-is_open-clause-state c spans p from near s =
    (s, marked_unless_open c.args.block.now.n c.args.block.now.heights.now c.args.cells.now c.args.e c.args.block.now.whole.whole c.requires.cells (s.state.unlabelled c.args.e c.requires.e) c.requires.e c.cell_at-cell.result (c.cell_at-cell.ensures none) (sym c.is_open.ensures ∙ c.if-is_open.false))
