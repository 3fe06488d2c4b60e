use Rattle.std.proofs.Common.{ap, ◌∷◌}
use Rattle.tile_flood.proofs.Dependence.{beside_back}
use Rattle.tile_flood.proofs.Standing.{held_on, reached_push}
use Rattle.tile_flood.proofs.restoring.spread_to.Goals as goal

pub returns-clause-reached : goal.returns-clause-reached
returns-clause-reached c = reached_push c.args.planes.now.block.n c.args.stands.now (c.args.e ∷ c.args.reached.now.items) (c.args.e ∷ c.push.new.self.items) c.args.f c.requires.stands c.requires.f c.requires.reached (ap (λ xs. c.args.e ∷ xs) c.in_ok-push.ensures.items)

pub returns-clause-standing : goal.returns-clause-standing
returns-clause-standing c heights sinks are =
    let is = c.stands_alike.ensures c.if-not-stands_alike.false in
    held_on c.args.planes.now.block.n heights sinks c.args.planes.now.levels.now c.args.planes.now.labels.now c.args.stands.now c.args.f are c.requires.f (
      c.args.e,
      record {
        alike = record { inside = c.requires.e; beside = beside_back c.args.planes.now.block.n c.args.e c.args.f c.requires.beside; label = is.1.1 };
        level = is.1.0;
        marked = is.0;
      },
    )
