use Rattle.std.proofs.Common.{arith, ◌+◌, ◌*◌}
use Rattle.labelling.proofs.Squares.{in_square}
use Rattle.tile_flood.proofs.Fitting.{next_fits, settled_fits, span_fits}
use Rattle.tile_flood.proofs.restoring.look_at_span.Goals as goal

pub returns-then-are_settled-clause-fitting : goal.returns-then-are_settled-clause-fitting
returns-then-are_settled-clause-fitting c done =
    let n = c.args.planes.now.block.n in
    let i = c.args.span.row in
    let wide = c.requires.columns.1.1 in
    span_fits n c.args.planes.now.block.heights.now c.args.planes.now.block.sinks.now c.args.planes.now.levels.now c.args.planes.now.labels.now c.args.points.now.items i c.args.span.from c.args.span.to c.requires.fitting
    (λ j low high. settled_fits n c.args.planes.now.block.heights.now c.args.planes.now.block.sinks.now c.args.planes.now.levels.now c.args.planes.now.labels.now c.args.points.now.items (i * n + j) (in_square n i j c.requires.row (omega arith))
    (c.is_plain.ensures c.if-is_plain.true j low high) (c.are_settled.ensures c.if-are_settled.true j low high))

pub loop-j-preserved : goal.loop-j-preserved
loop-j-preserved c = record {
  standing = c.look_at.ensures.standing;
  fitting = next_fits c.args.planes.now.block.n c.args.planes.now.block.heights.now c.args.planes.now.block.sinks.now c.args.planes.now.levels.now c.args.planes.now.labels.now c.loop-j.points.items c.look_at.new.points.items c.args.span.row c.loop-j.j c.loop-j.invariant.fitting c.look_at.ensures.kept (c.look_at.ensures.fitting c.if-not-look_at.false);
}
