use Rattle.tile_flood.proofs.Prelude.{IsTrue, arith, bare_block, cases_eq, inl, inr, is_linked, is_marked, labels_of, levels_of, subst, ℕ, ◌+◌, ◌/◌}
use Rattle.labelling.proofs.Squares.{linked_apart}
use Rattle.tile_flood.specs.Spans.{InSpans, one_point}
use Rattle.tile_flood.proofs.Spreading.{spread_on, spread_end, spreader_below}
use Rattle.tile_flood.proofs.Spans.{at_point, the_point}
use Rattle.tile_flood.proofs.settling.spread.Goals as goal

pub overflow_add-popped : goal.overflow_add-popped
overflow_add-popped c =
    let point = c.args.popped.point in
    let below = spreader_below c.args.block.now.n c.args.block.now.heights.now c.args.block.now.sinks.now (levels_of c.args.cells.now) (labels_of c.args.cells.now) c.args.queue.now (InSpans (one_point point)) c.args.popped.level c.args.popped.label c.requires.state point (at_point point) in
    let small = c.args.block.now.whole.small in
    omega arith

pub returns-clause-state : goal.returns-clause-state
returns-clause-state c =
    let n = c.args.block.now.n in
    let heights = c.args.block.now.heights.now in
    let sinks = c.args.block.now.sinks.now in
    let point = c.args.popped.point in
    let low = c.args.popped.level in
    let label = c.args.popped.label in
    let cells' = c.visit_row-3.new.cells in
    let queue' = c.visit_row-3.new.queue in
    let all : (z : ℕ) → IsTrue (is_linked (bare_block n heights) point z) → IsTrue (is_marked (levels_of cells') z) = λ z link.
    let apart = linked_apart n heights point z link in
    elim (cases_eq (z / n + 1) (point / n)) [
      | inl above ↦ c.in_ok-visit_row-3.ensures.still z (c.in_ok-visit_row-2.ensures.still z (c.in_ok-visit_row.ensures.marked z link (omega arith)))
      | inr rest ↦ elim (cases_eq (z / n) (point / n)) [
        | inl same ↦ c.in_ok-visit_row-3.ensures.still z (c.in_ok-visit_row-2.ensures.marked z link (omega arith))
        | inr below ↦ c.in_ok-visit_row-3.ensures.marked z link (omega arith)
      ]
    ] in
    spread_end n heights sinks (levels_of cells') (labels_of cells') queue' (λ _. ⊥) low label
    (spread_on n heights sinks (levels_of cells') (labels_of cells') queue' (InSpans (one_point point)) low label c.in_ok-visit_row-3.ensures.state (λ _. ⊥) (λ e no. absurd no)
    (λ e front. inr (λ z link. all z (subst (λ k. IsTrue (is_linked (bare_block n heights) k z)) (the_point point e front) link))))
    (λ e no. no)
