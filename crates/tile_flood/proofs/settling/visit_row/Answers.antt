use Rattle.tile_flood.proofs.Prelude.{IsNear, IsSpreading, IsTrue, ℕ, arith, bare_block, block_of, cases_eq, inl, inr, is_marked, is_solid, labels_of, levels_of, mul-le-mul_right, subst, sym, ◌*◌, ◌+◌, ◌-◌, ◌<◌, ◌≡◌, ◌≤◌}
use Rattle.labelling.proofs.Squares.{linked_parts, linked_below, solid_below, rim_is_exit}
use Rattle.tile_flood.specs.Spans.{InSpans, one_point}
use Rattle.tile_flood.proofs.Spreading.{outlet_marked, spreader_below}
use Rattle.tile_flood.proofs.Spans.{at_point}
use Rattle.tile_flood.proofs.Runs.{run_near, run_of, outer_row}
use Rattle.tile_flood.proofs.settling.visit_row.Goals as goal
use Rattle.tile_flood.proofs.settling.visit_row.Goals.{then-from-block-via-then-from-block, then-from-block-via-else-from-block+then-from-cells}

pub overflow_add-from : goal.overflow_add-from
overflow_add-from c =
    let n = c.args.block.now.n in
    let point = c.args.popped.point in
    let below = spreader_below n c.args.block.now.heights.now c.args.block.now.sinks.now (levels_of c.args.cells.now) (labels_of c.args.cells.now) c.args.queue.now (InSpans (one_point point)) c.args.popped.level c.args.popped.label c.requires.state point (at_point point) in
    let small = c.args.block.now.whole.small in
    let side = c.args.block.now.whole.side.1 in
    let few = c.requires.i in
    let rows : c.args.i * n ≤ 2 * n = mul-le-mul_right n (omega arith) in
    omega arith

-- the state after the three points of a row are visited
record AreVisited (c : goal.In_ok-visit-3) : Type 0 where
  state : IsSpreading (block_of c.args.block.now.n c.args.block.now.heights.now c.args.block.now.sinks.now) (levels_of c.visit-3.new.cells) (labels_of c.visit-3.new.cells) c.visit-3.new.queue (InSpans (one_point c.args.popped.point)) c.args.popped.level c.args.popped.label
  marked : (k z : ℕ) → k < 3 → z + c.args.block.now.n + 1 ≡ c.args.popped.point + c.args.i * c.args.block.now.n + k → IsTrue (is_solid (bare_block c.args.block.now.n c.args.block.now.heights.now) z) → IsTrue (is_marked (levels_of c.visit-3.new.cells) z)

visited : (c : goal.In_ok-visit-3) → AreVisited c
visited c =
    let n = c.args.block.now.n in
    let point = c.args.popped.point in
    let i = c.args.i in
    let low = c.if-from-block.false in
    let west : ℕ = point + i * n - n - 1 in
    let b = bare_block n c.args.block.now.heights.now in
    let near : (k : ℕ) → k < 3 → IsNear n point (west + k) = λ k few. run_near n point i k (west + k) c.args.block.now.whole.side.0 c.requires.i few (omega arith) in
    let one = c.in_ok-visit.ensures.state (one_point point) point (at_point point) (run_near n point i 0 west c.args.block.now.whole.side.0 c.requires.i (omega arith) (omega arith)) c.requires.state in
    let two = c.in_ok-visit-2.ensures.state (one_point point) point (at_point point) (near 1 (omega arith)) one.0 in
    let three = c.in_ok-visit-3.ensures.state (one_point point) point (at_point point) (near 2 (omega arith)) two.0 in
    record {
      state = three.0;
      marked = λ k z few at solid. elim (cases_eq k 0) [
        | inl first ↦
            let is : z ≡ west = omega arith in
            c.in_ok-visit-3.ensures.still z (c.in_ok-visit-2.ensures.still z (subst (λ v. IsTrue (is_solid b v) → IsTrue (is_marked (levels_of c.visit.new.cells) v)) (sym is) one.1 solid))
        | inr later ↦ elim (cases_eq k 1) [
          | inl second ↦
              let is : z ≡ west + 1 = omega arith in
              c.in_ok-visit-3.ensures.still z (subst (λ v. IsTrue (is_solid b v) → IsTrue (is_marked (levels_of c.visit-2.new.cells) v)) (sym is) two.1 solid)
          | inr last ↦
              let is : z ≡ west + 2 = omega arith in
              subst (λ v. IsTrue (is_solid b v) → IsTrue (is_marked (levels_of c.visit-3.new.cells) v)) (sym is) three.1 solid
        ]
      ];
    }

pub returns-clause-state : goal.returns-clause-state
returns-clause-state c = (visited c).state

pub returns-clause-still : goal.returns-clause-still
returns-clause-still c e on = c.in_ok-visit-3.ensures.still e (c.in_ok-visit-2.ensures.still e (c.in_ok-visit.ensures.still e on))

pub returns-then-from-block-clause-marked : goal.returns-then-from-block-clause-marked
returns-then-from-block-clause-marked c z link row =
    let n = c.args.block.now.n in
    let heights = c.args.block.now.heights.now in
    let l = linked_parts n heights c.args.popped.point z link in
    let inside : c.args.popped.point < n * n = solid_below n heights c.args.popped.point l.from in
    let rim = outer_row n c.args.popped.point c.args.i z c.args.block.now.whole.side.0 inside (linked_below n heights c.args.popped.point z link) row
    (elim c.then-from-block.branch [
      | then-from-block-via-then-from-block w ↦ let low = w.if-from-block.true in inl (omega arith)
      | then-from-block-via-else-from-block+then-from-cells w ↦ let high = w.if-from-cells.true in inr (omega arith)
    ]) in
    outlet_marked n heights c.args.block.now.sinks.now (levels_of c.args.cells.now) (labels_of c.args.cells.now) c.args.queue.now (InSpans (one_point c.args.popped.point)) c.args.popped.level c.args.popped.label c.requires.state z (rim_is_exit n heights c.args.block.now.sinks.now z l.to rim)

pub returns-clause-marked : goal.returns-clause-marked
returns-clause-marked c z link row =
    let l = linked_parts c.args.block.now.n c.args.block.now.heights.now c.args.popped.point z link in
    let found = run_of c.args.block.now.n c.args.popped.point c.args.i z l.beside row in
    (visited c).marked found.0 z found.1.0 found.1.1 l.to
