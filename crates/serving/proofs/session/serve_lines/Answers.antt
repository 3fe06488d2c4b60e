use Rattle.serving.proofs.Runs.{serves}
use Rattle.serving.proofs.session.serve_lines.Goals as goal

pub returns-clause-calls : goal.returns-clause-calls
returns-clause-calls g c =
    let calls = c.serve_items.ensures.calls in (
      calls.0,
      (
        calls.1.0,
        serves g.E.Engine
            (record {
              laws = record { is_call = g.met.E.Engine.is_call; stays = g.met.E.Engine.stays; in_turn = g.met.E.Engine.in_turn; weaker = g.met.E.Engine.weaker };
              same_side = g.met.E.Engine.same_side;
            })
            c.args.language _ _ _ _ c.args.engine.now calls.0 c.serve_items.result calls.1.1,
      ),
    )
