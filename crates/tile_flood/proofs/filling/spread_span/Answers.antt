use Rattle.tile_flood.proofs.Prelude.{IsTrue, arith, bare_block, cases_eq, cases_lt, inl, inr, is_linked, is_marked, labels_of, levels_of, ℕ, ◌+◌, ◌-◌, ◌/◌, ◌<◌, ◌∷◌, ◌≤◌, ◌⊎◌}
use Rattle.labelling.proofs.Squares.{linked_apart}
use Rattle.tile_flood.specs.declared.filling.FilledSpan.{FilledSpan}
use Rattle.tile_flood.specs.Spans.{InSpan, InSpans}
use Rattle.tile_flood.proofs.Runs.{run_near}
use Rattle.tile_flood.proofs.Spreading.{spread_on}
use Rattle.tile_flood.proofs.Spans.{first_or, in_first, in_rest, last_below}
use Rattle.tile_flood.proofs.filling.spread_span.Goals as goal

pub overflow_add-span : goal.overflow_add-span
overflow_add-span c =
    let below = last_below c.args.block.now.n c.args.block.now.heights.now c.args.block.now.sinks.now (levels_of c.args.cells.now) (labels_of c.args.cells.now) c.args.queue.now c.args.span c.args.spans.now.items c.args.popped.level c.args.popped.label c.requires.state in
    let small = c.args.block.now.whole.small in
    omega arith

pub overflow_add-span-2 : goal.overflow_add-span-2
overflow_add-span-2 c =
    let below = last_below c.args.block.now.n c.args.block.now.heights.now c.args.block.now.sinks.now (levels_of c.args.cells.now) (labels_of c.args.cells.now) c.args.queue.now c.args.span c.args.spans.now.items c.args.popped.level c.args.popped.label c.requires.state in
    let small = c.args.block.now.whole.small in
    omega arith

pub fill_row-requires-clause-state : goal.fill_row-requires-clause-state
fill_row-requires-clause-state c =
    let n = c.args.block.now.n in
    let heights = c.args.block.now.heights.now in
    let sinks = c.args.block.now.sinks.now in
    let queue = c.args.queue.now in
    let level = c.args.popped.level in
    let label = c.args.popped.label in
    let span = c.args.span in
    let spans = c.args.spans.now.items in
    let last : ℕ = span.first + span.after in
    let first = c.take_west-first.result in
    let end = c.take_east-end.result in
    let west = c.take_west-first.ensures in
    let east = c.take_east-end.ensures in
    let cells₁ = c.take_west-first.new.cells in
    let cells₂ = c.take_east-end.new.cells in
    let wide : FilledSpan = record { first = first; after = last - first } in
    let grown : FilledSpan = record { first = first; after = end - first - 1 } in
    let low = west.from in
    let high = east.from in
    let one = west.state queue (span ∷ spans) (in_first span spans span.first (omega arith, omega arith)) c.requires.state in
    let two = spread_on n heights sinks (levels_of cells₁) (labels_of cells₁) queue (λ e. ((first ≤ e) × (e < span.first)) ⊎ InSpans (span ∷ spans) e) level label one (InSpans (wide ∷ spans))
    (λ e w. elim (first_or wide spans e w) [
      | inl within ↦ (let from = within.0 in let to = within.1 in elim (cases_lt e span.first) [ inl before ↦ inl (from, before) | inr after ↦ inr (in_first span spans e (after, omega arith)) ])
      | inr old ↦ inr (in_rest span spans e old)
    ])
    (λ e front. inl (elim front [
      | inl new ↦ (let from = new.0 in let to = new.1 in in_first wide spans e (from, omega arith))
      | inr old ↦ elim (first_or span spans e old) [ inl within ↦ (let from = within.0 in let to = within.1 in in_first wide spans e (omega arith, omega arith)) | inr other ↦ in_rest wide spans e other ]
    ])) in
    let three = east.state queue (wide ∷ spans) last (in_first wide spans last (omega arith, omega arith)) (run_near n last 1 2 (last + 1) c.args.block.now.whole.side.0 (omega arith) (omega arith) (omega arith)) two in
    spread_on n heights sinks (levels_of cells₂) (labels_of cells₂) queue (λ e. ((last + 1 ≤ e) × (e < end)) ⊎ InSpans (wide ∷ spans) e) level label three (InSpans (grown ∷ spans))
    (λ e w. elim (first_or grown spans e w) [
      | inl within ↦ (let from = within.0 in let to = within.1 in elim (cases_lt e (last + 1)) [ inl before ↦ inr (in_first wide spans e (from, omega arith)) | inr after ↦ inl (after, omega arith) ])
      | inr old ↦ inr (in_rest wide spans e old)
    ])
    (λ e front. inl (elim front [
      | inl new ↦ (let from = new.0 in let to = new.1 in in_first grown spans e (omega arith, omega arith))
      | inr old ↦ elim (first_or wide spans e old) [ inl within ↦ (let from = within.0 in let to = within.1 in in_first grown spans e (from, omega arith)) | inr other ↦ in_rest grown spans e other ]
    ]))

pub returns-clause-state : goal.returns-clause-state
returns-clause-state c =
    let n = c.args.block.now.n in
    let heights = c.args.block.now.heights.now in
    let cells' = c.fill_row-3.new.cells in
    let spans' = c.fill_row-3.new.spans.items in
    let first = c.take_west-first.result in
    let grown : FilledSpan = record { first = first; after = c.take_east-end.result - first - 1 } in
    let one = c.in_ok-fill_row.ensures in
    let two = c.in_ok-fill_row-2.ensures in
    let three = c.in_ok-fill_row-3.ensures in
    let all : (p z : ℕ) → InSpan grown p → IsTrue (is_linked (bare_block n heights) p z) → IsTrue (is_marked (levels_of cells') z) = λ p z within link.
    let apart = linked_apart n heights p z link in
    elim (cases_eq (z / n + 1) (p / n)) [
      | inl above ↦ three.still z (two.still z (one.marked p z within link (omega arith)))
      | inr rest ↦ elim (cases_eq (z / n) (p / n)) [
        | inl same ↦ three.still z (two.marked p z within link (omega arith))
        | inr below ↦ three.marked p z within link (omega arith)
      ]
    ] in
    spread_on n heights c.args.block.now.sinks.now (levels_of cells') (labels_of cells') c.fill_row-3.new.queue (InSpans (grown ∷ spans')) c.args.popped.level c.args.popped.label three.state (InSpans spans')
    (λ e w. in_rest grown spans' e w)
    (λ e front. elim (first_or grown spans' e front) [ inl within ↦ inr (λ z link. all e z within link) | inr other ↦ inl other ])
