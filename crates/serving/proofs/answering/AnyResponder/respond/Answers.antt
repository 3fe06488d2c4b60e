use Rattle.serving.proofs.Turns.{answers}
use Rattle.serving.proofs.answering.AnyResponder.respond.Goals as goal

pub returns : goal.returns
returns g c = λ language i held.
    answers g.E.Engine
    (record {
      laws = record { is_call = g.met.E.Engine.is_call; stays = g.met.E.Engine.stays; in_turn = g.met.E.Engine.in_turn; weaker = g.met.E.Engine.weaker };
      same_side = g.met.E.Engine.same_side;
    })
    language c.args.self.now c.answer.new.engine i c.answer.result held.item.asked (c.answer.ensures language i held)
