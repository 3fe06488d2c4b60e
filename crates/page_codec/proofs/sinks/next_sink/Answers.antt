use Rattle.page_codec.proofs.Prelude.{FitsSigned, Follows, IsHeld, SinkIsBefore, rules, subst, sym, true, w32, ◌∙◌, ◌≡◌}
use Rattle.page_codec.proofs.SinkBytes.{same_sink}
use Rattle.page_codec.proofs.sinks.next_sink.Goals as goal

pub returns-then-not-may_follow-clause-none : goal.returns-then-not-may_follow-clause-none
returns-then-not-may_follow-clause-none c = λ sink held follows spelled.
    let found = c.read_point-sink.result in
    let y : FitsSigned w32 found.y = search rules in
    let x : FitsSigned w32 found.x = search rules in
    let same : found ≡ sink = same_sink c.args.side found sink c.requires.side y x held (sym c.read_point-sink.ensures ∙ spelled) in
    let yes : c.may_follow.result ≡ true = c.may_follow.ensures.1 (subst (IsHeld c.args.side) (sym same) held, subst (Follows SinkIsBefore c.args.sinks.now) (sym same) follows) in
    cc
