use Rattle.tile_flood.proofs.Prelude.{IsSpreading, [], arith, block_of, inl, inr, labels_of, levels_of, rules, subst, sym, ◌++◌, ◌∷◌, ◌≡◌}
use Rattle.tile_flood.specs.Spans.{InSpans, one_point}
use Rattle.tile_flood.proofs.Spreading.{spread_on, spread_end}
use Rattle.tile_flood.proofs.Spans.{first_or, in_first, in_last, in_rest, last_or, none_wait}
use Rattle.tile_flood.proofs.filling.fill.Goals as goal

pub loop-span-init : goal.loop-span-init
loop-span-init c =
    let block = block_of c.args.block.now.n c.args.block.now.heights.now c.args.block.now.sinks.now in
    let cells = c.args.cells.now in
    let pushed : c.push.new.self.items ≡ one_point c.args.popped.point = search rules in
    record {
      cells = c.requires.cells;
      state = subst (λ spans. IsSpreading block (levels_of cells) (labels_of cells) c.args.queue.now (InSpans spans) c.args.popped.level c.args.popped.label) (sym pushed) c.requires.state;
      count = omega arith;
    }

pub spread_span-requires-clause-state : goal.spread_span-requires-clause-state
spread_span-requires-clause-state c =
    let spans = c.loop-span.spans.items in
    let rest = c.pop.new.self.items in
    let span = c.in-Some.span in
    let popped : spans ≡ rest ++ (span ∷ []) = c.in-Some.ensures.items in
    spread_on c.args.block.now.n c.args.block.now.heights.now c.args.block.now.sinks.now (levels_of c.loop-span.cells) (labels_of c.loop-span.cells) c.loop-span.queue (InSpans spans) c.args.popped.level c.args.popped.label c.loop-span.invariant.state
    (InSpans (span ∷ rest))
    (λ e w. in_last spans rest span popped e (first_or span rest e w))
    (λ e w. inl (elim (last_or spans rest span popped e w) [ inl last ↦ in_first span rest e last | inr old ↦ in_rest span rest e old ]))

pub returns-clause-state : goal.returns-clause-state
returns-clause-state c =
    let spans = c.loop-span.spans.items in
    let none : spans ≡ [] = search rules in
    spread_end c.args.block.now.n c.args.block.now.heights.now c.args.block.now.sinks.now (levels_of c.loop-span.cells) (labels_of c.loop-span.cells) c.loop-span.queue (InSpans spans) c.args.popped.level c.args.popped.label c.loop-span.invariant.state (none_wait spans none)
