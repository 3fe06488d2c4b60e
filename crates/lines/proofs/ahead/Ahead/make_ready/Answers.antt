use Rattle.std.proofs.Common.{◌≤◌, length, subst}
use Rattle.lines.proofs.ahead.Ahead.make_ready.Goals as goal

pub returns-else-is_empty-clause-given : goal.returns-else-is_empty-clause-given
returns-else-is_empty-clause-given g c = subst (λ l. length l ≤ c.args.self.now.given) c.bytes.ensures.value c.bytes.ensures.given
