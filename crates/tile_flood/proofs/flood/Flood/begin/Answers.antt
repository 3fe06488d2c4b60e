use Rattle.tile_flood.proofs.Prelude.{IsBeginning, arith, length, subst, ◌≡◌}
use Rattle.tile_flood.proofs.Steps.{begun, begin_end}
use Rattle.tile_flood.proofs.ListedChanges.{listed_same}
use Rattle.tile_flood.proofs.flood.Flood.begin.Goals as goal

pub loop-k-init : goal.loop-k-init
loop-k-init c =
    let s = c.args.self.now in
    record {
      state = begun c.args.block.now.n c.args.block.now.heights.now c.args.block.now.sinks.now c.args.points.now s.levels.items s.labels.items s.queue s.suspects c.requires.before;
      listed = listed_same c.args.block.now.n c.args.block.now.heights.now s.levels.items s.labels.items c.args.self.now.affected.items;
    }

pub returns-clause-state : goal.returns-clause-state
returns-clause-state c =
    let at_end : c.loop-k.k ≡ length c.args.points.now = omega arith in
    let s = c.loop-k.self in
    begin_end c.args.block.now.n c.args.block.now.heights.now c.args.block.now.sinks.now c.args.points.now s.levels.items s.labels.items s.queue s.suspects
    (subst (IsBeginning c.args.block.now.n c.args.block.now.heights.now c.args.block.now.sinks.now c.args.points.now s.levels.items s.labels.items s.queue s.suspects) at_end c.loop-k.invariant.state)
