use Rattle.tile_flood.proofs.Standing.{reached_first, reached_pop, reached_rest}
use Rattle.tile_flood.proofs.restoring.spread.Goals as goal

pub spread_from-requires-clause-e : goal.spread_from-requires-clause-e
spread_from-requires-clause-e c = (reached_first c.args.planes.now.block.n c.loop.stands c.pop.new.self.items c.in-Some.e
    (reached_pop c.args.planes.now.block.n c.loop.stands c.loop.reached.items c.pop.new.self.items c.in-Some.e c.loop.invariant.reached c.in-Some.ensures.items)).0

pub spread_from-requires-clause-reached : goal.spread_from-requires-clause-reached
spread_from-requires-clause-reached c = reached_pop c.args.planes.now.block.n c.loop.stands c.loop.reached.items c.pop.new.self.items c.in-Some.e c.loop.invariant.reached c.in-Some.ensures.items

pub loop-preserved : goal.loop-preserved
loop-preserved c = record {
  reached = reached_rest c.args.planes.now.block.n c.spread_from.new.stands c.spread_from.new.reached.items c.in-Some.e c.in_ok-spread_from.ensures.reached;
  standing = λ heights sinks are. c.in_ok-spread_from.ensures.standing heights sinks (c.loop.invariant.standing heights sinks are);
}
