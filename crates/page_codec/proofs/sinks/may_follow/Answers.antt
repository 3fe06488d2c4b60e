use Rattle.page_codec.proofs.sinks.may_follow.Goals as goal

pub returns-then-is_held : goal.returns-then-is_held
returns-then-is_held c = (λ yes. (c.is_held.ensures.0 c.if-is_held.true, c.follows.ensures.0 yes), λ both. c.follows.ensures.1 both.1)
