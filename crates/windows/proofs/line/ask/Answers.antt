use Rattle.std.proofs.Common.{Result, MatchResult, subst}
use Rattle.lattice.specs.declared.refusal.Refusal.{Refusal}
use Rattle.engine.specs.declared.event.Event.{Event}
use Rattle.windows.specs.Lines.{AsksOnly, IsNoQuestion}
use Rattle.windows.proofs.line.ask.Goals as goal

pub returns : goal.returns
returns g c = record {
  event = c.in_ok-event.event;
  asks = subst (λ (r : Result Event Refusal). MatchResult r (AsksOnly c.args.line.now) (IsNoQuestion c.args.line.now)) c.in_ok-event.was c.question_of.ensures;
  answer = c.answer.result;
  call = g.met.E.Engine.is_call c.args.engine.now c.answer.new.self _ _ c.answer.ensures;
  text = c.format_reply-text.result;
  told = c.format_reply-text.ensures;
  put = c.put.ensures;
}
