use Rattle.std.proofs.Common.{◌≡◌, ℕ, ◌+◌, ◌-◌, ◌*◌, ◌/◌, ◌%◌, ◌<◌, ◌≤◌, arith, subst, mul-le-mul_right}
use Rattle.tile_flood.specs.Restoring.{IsAbove, IsRelaxedTo}
use Rattle.tile_flood.proofs.Dependence.{window_point_of}
use Rattle.tile_flood.proofs.Windows.{is_inside, window_index}
use Rattle.tile_flood.proofs.restoring.are_settled.Goals as goal

pub are_relaxed-requires-clause-beside : goal.are_relaxed-requires-clause-beside
are_relaxed-requires-clause-beside c =
    (is_inside c.args.planes.now.block.n c.args.span.row c.args.span.from (c.args.span.to - c.args.span.from) c.loop-d.d (omega arith) (omega arith) (omega arith) (omega arith) c.loop-d-test.true).beside

pub returns : goal.returns
returns c done j low high =
    let n = c.args.planes.now.block.n in
    let i = c.args.span.row in
    let from = c.args.span.from in
    let heights = c.args.planes.now.block.heights.now in
    let levels = c.args.planes.now.levels.now in
    let k : ℕ = j - from in
    let few : k < c.args.span.to - from = omega arith in
    let at : (i * n + from) + k ≡ i * n + j = omega arith in
    let above : IsAbove heights levels c.args.planes.now.labels.now (i * n + j) = subst (IsAbove heights levels c.args.planes.now.labels.now) at (c.are_above.ensures c.if-not-are_above.false k few) in
    let first : 1 ≤ i = omega arith in
    let row : 1 * n ≤ i * n = mul-le-mul_right n first in (
      above,
      record {
        low = above.low;
        relaxed = λ x small beside.
            let w = window_point_of n (i * n + j) x beside in
            let index = window_index n (i * n + j) w.0 x w.1.1 in
            let nine = w.1.0 in
            let f : (i * n + from - n - 1 + w.0 / 3 * n + w.0 % 3) + k ≡ x = omega arith in
            subst (λ z. IsRelaxedTo heights levels z x) at (subst (IsRelaxedTo heights levels ((i * n + from) + k)) f (c.loop-d.invariant w.0 k (omega arith) few));
      },
    )
