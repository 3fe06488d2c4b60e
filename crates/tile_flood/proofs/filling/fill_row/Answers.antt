use Rattle.tile_flood.proofs.Prelude.{IsTrue, [], ap, arith, bare_block, cases_eq, cases_lt, inl, inr, is_marked, is_solid, labels_of, length, length-append, levels_of, mul-le-mul_right, rules, subst, sym, ℕ, ◌*◌, ◌++◌, ◌+◌, ◌-◌, ◌<◌, ◌∙◌, ◌∷◌, ◌≡◌, ◌≤◌, ◌⊎◌}
use Rattle.lattice.specs.Limits.{IsSide}
use Rattle.labelling.proofs.Squares.{linked_parts, solid_below}
use Rattle.tile_flood.specs.declared.filling.FilledSpan.{FilledSpan}
use Rattle.tile_flood.specs.Spans.{InSpans}
use Rattle.tile_flood.proofs.Runs.{run_of}
use Rattle.tile_flood.proofs.Spreading.{spread_on}
use Rattle.tile_flood.proofs.Spans.{first_or, in_first, in_last, in_rest, last_below, last_or, near_span}
use Rattle.tile_flood.proofs.filling.fill_row.Goals as goal

bounded : (n i first after : ℕ) → IsSide n → n * n < 4294967296 → i < 3 → first + after < n * n → first + i * n + after < 4294967296 + 7203
bounded n i first after side small few below = let rows : i * n ≤ 2 * n = mul-le-mul_right n (omega arith) in let wide = side.1 in omega arith

pub overflow_add-first : goal.overflow_add-first
overflow_add-first c =
    let below = last_below c.args.block.now.n c.args.block.now.heights.now c.args.block.now.sinks.now (levels_of c.args.cells.now) (labels_of c.args.cells.now) c.args.queue.now c.args.span c.args.spans.now.items c.args.popped.level c.args.popped.label c.requires.state in
    let far = bounded c.args.block.now.n c.args.i c.args.span.first c.args.span.after c.args.block.now.whole.side c.args.block.now.whole.small c.requires.i below in
    omega arith

pub overflow_add-first-2 : goal.overflow_add-first-2
overflow_add-first-2 c =
    let below = last_below c.args.block.now.n c.args.block.now.heights.now c.args.block.now.sinks.now (levels_of c.args.cells.now) (labels_of c.args.cells.now) c.args.queue.now c.args.span c.args.spans.now.items c.args.popped.level c.args.popped.label c.requires.state in
    let far = bounded c.args.block.now.n c.args.i c.args.span.first c.args.span.after c.args.block.now.whole.side c.args.block.now.whole.small c.requires.i below in
    omega arith

pub overflow_add-first-3 : goal.overflow_add-first-3
overflow_add-first-3 c =
    let below = last_below c.args.block.now.n c.args.block.now.heights.now c.args.block.now.sinks.now (levels_of c.args.cells.now) (labels_of c.args.cells.now) c.args.queue.now c.args.span c.args.spans.now.items c.args.popped.level c.args.popped.label c.requires.state in
    let far = bounded c.args.block.now.n c.args.i c.args.span.first c.args.span.after c.args.block.now.whole.side c.args.block.now.whole.small c.requires.i below in
    omega arith

pub loop-e-preserved-then-past-e : goal.loop-e-preserved-then-past-e
loop-e-preserved-then-past-e c =
    let n = c.args.block.now.n in
    let span = c.args.span in
    let cells' = c.take_east-past.new.cells in
    let inv = c.loop-e.invariant in
    let spans = c.loop-e.spans.items in
    let spans' = c.push.new.self.items in
    let e = c.loop-e.e in
    let past = c.take_east-past.result in
    let taken = c.take_east-past.ensures in
    let some = c.if-past-e.true in
    let new : FilledSpan = record { first = e; after = past - e - 1 } in
    let pushed : spans' ≡ spans ++ (new ∷ []) = search rules in
    let near = (let west = c.saturating_sub-e.ensures in let east = c.saturating_sub.ensures in let end = c.min-end.ensures in let low = inv.from in let high = c.loop-e-test.true in near_span n c.args.i e span c.args.block.now.whole.side.0 c.requires.i (omega arith) (omega arith)) in
    let s = taken.state c.loop-e.queue (span ∷ spans) near.0 (in_first span spans near.0 near.1.0) near.1.1 inv.state in
    record {
      cells = taken.cells;
      from = (let low = inv.from in omega arith);
      state = spread_on n c.args.block.now.heights.now c.args.block.now.sinks.now (levels_of cells') (labels_of cells') c.loop-e.queue (λ z. ((e ≤ z) × (z < past)) ⊎ InSpans (span ∷ spans) z) c.args.popped.level c.args.popped.label s
          (InSpans (span ∷ spans'))
          (λ z w. elim (first_or span spans' z w) [
            | inl one ↦ inr (in_first span spans z one)
            | inr other ↦ elim (last_or spans' spans new pushed z other) [ inl last ↦ inl (last.0, (let high = last.1 in omega arith)) | inr old ↦ inr (in_rest span spans z old) ]
          ])
          (λ z front. inl (elim front [
            | inl one ↦ in_rest span spans' z (in_last spans' spans new pushed z (inl (one.0, (let high = one.1 in omega arith))))
            | inr old ↦ elim (first_or span spans z old) [ inl one ↦ in_first span spans' z one | inr other ↦ in_rest span spans' z (in_last spans' spans new pushed z (inr other)) ]
          ]));
      still = λ z on. taken.still z (inv.still z on);
      count = (let fewer = taken.count in let before = inv.count in omega arith);
      left = (let fewer = taken.count in let before = inv.left in let longer : length spans' ≡ length spans + 1 = ap length pushed ∙ length-append spans (new ∷ []) in omega arith);
      marked = λ z low high solid. elim (cases_lt z e) [
        | inl before ↦ taken.still z (inv.marked z low before solid)
        | inr from ↦ (s.frontier z (inl (from, high))).0
      ];
    }

pub loop-e-preserved : goal.loop-e-preserved
loop-e-preserved c =
    let n = c.args.block.now.n in
    let span = c.args.span in
    let inv = c.loop-e.invariant in
    let spans = c.loop-e.spans.items in
    let e = c.loop-e.e in
    let past = c.take_east-past.result in
    let taken = c.take_east-past.ensures in
    let visited = c.in_ok-visit.ensures in
    let none = c.if-past-e.false in
    let near = (let west = c.saturating_sub-e.ensures in let east = c.saturating_sub.ensures in let end = c.min-end.ensures in let low = inv.from in let high = c.loop-e-test.true in near_span n c.args.i e span c.args.block.now.whole.side.0 c.requires.i (omega arith) (omega arith)) in
    let s = taken.state c.loop-e.queue (span ∷ spans) near.0 (in_first span spans near.0 near.1.0) near.1.1 inv.state in
    let before = spread_on n c.args.block.now.heights.now c.args.block.now.sinks.now (levels_of c.take_east-past.new.cells) (labels_of c.take_east-past.new.cells) c.loop-e.queue (λ z. ((e ≤ z) × (z < past)) ⊎ InSpans (span ∷ spans) z) c.args.popped.level c.args.popped.label s
    (InSpans (span ∷ spans)) (λ z w. inr w) (λ z front. inl (elim front [ inl one ↦ (let low = one.0 in let high = one.1 in absurd (omega arith)) | inr old ↦ old ])) in
    let after = visited.state (span ∷ spans) near.0 (in_first span spans near.0 near.1.0) near.1.1 before in
    record {
      cells = visited.cells;
      from = (let low = inv.from in omega arith);
      state = after.0;
      still = λ z on. visited.still z (taken.still z (inv.still z on));
      count = (let fewer = taken.count in let on = taken.from in let same = visited.count in let before = inv.count in omega arith);
      left = (let fewer = taken.count in let on = taken.from in let same = visited.fewer in let before = inv.left in omega arith);
      marked = λ z low high solid. elim (cases_eq z e) [
        | inl is ↦ subst (λ v. IsTrue (is_solid (bare_block n c.args.block.now.heights.now) v) → IsTrue (is_marked (levels_of c.visit.new.cells) v)) (sym is) after.1 solid
        | inr other ↦ visited.still z (taken.still z (inv.marked z low (omega arith) solid))
      ];
    }

pub returns-clause-marked : goal.returns-clause-marked
returns-clause-marked c p z within link row =
    let n = c.args.block.now.n in
    let heights = c.args.block.now.heights.now in
    let l = linked_parts n heights p z link in
    let found = run_of n p c.args.i z l.beside row in
    let column = found.1.0 in
    let at = found.1.1 in
    let low = within.0 in
    let high = within.1 in
    let below = solid_below n heights z l.to in
    let whole = c.loop-e.invariant.cells.whole ∙ c.args.block.now.whole.whole in
    let past = c.loop-e-test.false in
    let west = c.saturating_sub-e.ensures in
    let east = c.saturating_sub.ensures in
    let end = c.min-end.ensures in
    let all : length c.loop-e.cells ≡ length c.args.cells.now = c.loop-e.auto.cells in
    c.loop-e.invariant.marked z (omega arith) (omega arith) l.to
