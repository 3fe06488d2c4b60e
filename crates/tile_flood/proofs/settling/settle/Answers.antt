use Rattle.tile_flood.proofs.Prelude.{AreCells, Cell, IsFlooding, IsSpreading, IsTaken, List, Queue, SFits, ℕ, ℤ, ap, arith, block_of, get_or, labels_of, length, levels_of, rules, slice_index, subst, sym, to_z-of_z, w16, ◌*◌, ◌<◌, ◌∙◌, ◌≡◌}
use Rattle.tile_flood.specs.Cells.{IsMark}
use Rattle.tile_flood.specs.Spans.{InSpans, one_point}
use Rattle.tile_flood.proofs.InCells.{none, label_in_cell, marked_mark}
use Rattle.tile_flood.proofs.Spreading.{spread_begin, spreader_below, spreader_solid, flooding_end}
use Rattle.tile_flood.proofs.Spans.{at_point, the_point}
use Rattle.tile_flood.proofs.settling.settle.Goals as goal

record IsBegun (n : ℕ) (heights : List ℤ) (sinks : List ℕ) (cells : List Cell) (queue' : Queue) (point : ℕ) (level : ℤ) : Type 0 where
  inside : point < length cells
  label : slice_index (labels_of cells) point ≡ (get_or cells point none).label
  state : IsSpreading (block_of n heights sinks) (levels_of cells) (labels_of cells) queue' (InSpans (one_point point)) level (slice_index (labels_of cells) point)
  mark : IsMark level (slice_index (labels_of cells) point)

begun : (n : ℕ) (heights : List ℤ) (sinks : List ℕ) (cells : List Cell) (queue queue' : Queue) (point : ℕ) (level : ℤ) → length heights ≡ n * n → AreCells heights cells →
    IsFlooding (block_of n heights sinks) (levels_of cells) (labels_of cells) queue → IsTaken queue queue' level point → IsBegun n heights sinks cells queue' point level
begun n heights sinks cells queue queue' point level whole s flooding taken =
    let spreading = spread_begin n heights sinks (levels_of cells) (labels_of cells) queue queue' (InSpans (one_point point)) point level flooding taken (at_point point) (the_point point) in
    let inside : point < length cells = subst (λ k. point < k) (sym (s.whole ∙ whole)) (spreader_below n heights sinks (levels_of cells) (labels_of cells) queue' (InSpans (one_point point)) level (slice_index (labels_of cells) point) spreading point (at_point point)) in
    let here = spreading.frontier point (at_point point) in
    record {
      inside = inside;
      label = label_in_cell cells point inside here.0;
      state = spreading;
      mark = subst (λ l. IsMark l (slice_index (labels_of cells) point)) here.1.0 (marked_mark n heights cells point whole s (spreader_solid n heights sinks (levels_of cells) (labels_of cells) queue' (InSpans (one_point point)) level (slice_index (labels_of cells) point) spreading point (at_point point)) here.0);
    }

pub cell_at-requires : goal.cell_at-requires
cell_at-requires c = (begun c.args.block.now.n c.args.block.now.heights.now c.args.block.now.sinks.now c.loop-entry.cells c.loop-entry.queue c.pop.new.self c.in-Some.entry.point c.in-Some.entry.level c.args.block.now.whole.whole c.loop-entry.invariant.cells c.loop-entry.invariant.state c.in-Some.ensures.taken).inside

pub returns : goal.returns
returns c = flooding_end c.args.block.now.n c.args.block.now.heights.now c.args.block.now.sinks.now (levels_of c.loop-entry.cells) (labels_of c.loop-entry.cells) c.loop-entry.queue (omega arith) c.loop-entry.invariant.state c.in_default.ensures.taken

pub spread-requires-clause-state : goal.spread-requires-clause-state
spread-requires-clause-state c =
    let cells = c.loop-entry.cells in
    let point = c.in-Some.entry.point in
    let block = block_of c.args.block.now.n c.args.block.now.heights.now c.args.block.now.sinks.now in
    let fits : SFits w16 c.in-Some.entry.level = search rules in
    let start = begun c.args.block.now.n c.args.block.now.heights.now c.args.block.now.sinks.now cells c.loop-entry.queue c.pop.new.self point c.in-Some.entry.level c.args.block.now.whole.whole c.loop-entry.invariant.cells c.loop-entry.invariant.state c.in-Some.ensures.taken in
    subst (λ low. IsSpreading block (levels_of cells) (labels_of cells) c.pop.new.self (InSpans (one_point point)) low c.cell_at.result.label) (sym (to_z-of_z fits))
    (subst (λ l. IsSpreading block (levels_of cells) (labels_of cells) c.pop.new.self (InSpans (one_point point)) c.in-Some.entry.level l) (start.label ∙ sym (ap (λ cell. cell.label) (c.cell_at.ensures none))) start.state)

pub spread-requires-clause-mark : goal.spread-requires-clause-mark
spread-requires-clause-mark c =
    let fits : SFits w16 c.in-Some.entry.level = search rules in
    let start = begun c.args.block.now.n c.args.block.now.heights.now c.args.block.now.sinks.now c.loop-entry.cells c.loop-entry.queue c.pop.new.self c.in-Some.entry.point c.in-Some.entry.level c.args.block.now.whole.whole c.loop-entry.invariant.cells c.loop-entry.invariant.state c.in-Some.ensures.taken in
    subst (λ low. IsMark low c.cell_at.result.label) (sym (to_z-of_z fits)) (subst (IsMark c.in-Some.entry.level) (start.label ∙ sym (ap (λ cell. cell.label) (c.cell_at.ensures none))) start.mark)
