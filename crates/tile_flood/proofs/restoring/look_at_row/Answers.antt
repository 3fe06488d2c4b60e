use Rattle.std.proofs.Common.{◌≡◌, ◌+◌, ◌-◌, ◌*◌, arith, subst}
use Rattle.tile_flood.specs.Restoring.{AreFitting}
use Rattle.tile_flood.proofs.Fitting.{next_fits}
use Rattle.tile_flood.proofs.restoring.look_at_row.Goals as goal

pub look_at-requires-clause-standing : goal.look_at-requires-clause-standing
look_at-requires-clause-standing c = c.mark_lower.ensures.standing c.args.planes.now.block.heights.now c.args.planes.now.block.sinks.now c.requires.standing

pub loop-from-init : goal.loop-from-init
loop-from-init c =
    let side = c.args.planes.now.block.whole.side.0 in
    let first : c.args.i * c.args.planes.now.block.n ≡ c.args.i * c.args.planes.now.block.n + 0 = omega arith in
    record {
      low = omega arith;
      inside = omega arith;
      standing = c.look_at.ensures.standing;
      fitting = next_fits c.args.planes.now.block.n c.args.planes.now.block.heights.now c.args.planes.now.block.sinks.now c.args.planes.now.levels.now c.args.planes.now.labels.now c.args.points.now.items c.look_at.new.points.items c.args.i 0
          (subst (AreFitting c.args.planes.now.block.n c.args.planes.now.block.heights.now c.args.planes.now.block.sinks.now c.args.planes.now.levels.now c.args.planes.now.labels.now c.args.points.now.items) first c.requires.fitting) c.look_at.ensures.kept (c.look_at.ensures.fitting c.if-not-look_at.false);
    }

pub returns-clause-fitting : goal.returns-clause-fitting
returns-clause-fitting c ok =
    let n = c.args.planes.now.block.n in
    let i = c.args.i in
    let last : i * n + c.loop-from.from ≡ i * n + (n - 1) = omega arith in
    let end : i * n + ((n - 1) + 1) ≡ (i + 1) * n = omega arith in
    subst (AreFitting n c.args.planes.now.block.heights.now c.args.planes.now.block.sinks.now c.args.planes.now.levels.now c.args.planes.now.labels.now c.look_at-2.new.points.items) end
    (next_fits n c.args.planes.now.block.heights.now c.args.planes.now.block.sinks.now c.args.planes.now.levels.now c.args.planes.now.labels.now c.loop-from.points.items c.look_at-2.new.points.items i (n - 1)
    (subst (AreFitting n c.args.planes.now.block.heights.now c.args.planes.now.block.sinks.now c.args.planes.now.levels.now c.args.planes.now.labels.now c.loop-from.points.items) last c.loop-from.invariant.fitting) c.look_at-2.ensures.kept (c.look_at-2.ensures.fitting ok))
