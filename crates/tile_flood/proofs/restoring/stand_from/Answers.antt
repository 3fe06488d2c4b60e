use Rattle.tile_flood.proofs.Standing.{held_on, reached_push}
use Rattle.tile_flood.proofs.restoring.stand_from.Goals as goal

pub spread-requires-clause-reached : goal.spread-requires-clause-reached
spread-requires-clause-reached c = reached_push c.args.planes.now.block.n c.args.stands.now c.args.reached.now.items c.push.new.self.items c.args.e c.requires.stands c.requires.e c.requires.reached c.in_ok-push.ensures.items

pub returns-clause-standing : goal.returns-clause-standing
returns-clause-standing c heights sinks are = c.in_ok-spread.ensures.standing heights sinks
    (held_on c.args.planes.now.block.n heights sinks c.args.planes.now.levels.now c.args.planes.now.labels.now c.args.stands.now c.args.e are c.requires.e (c.is_beside_standing.ensures c.if-not-is_beside_standing.false))
