use Rattle.engine.proofs.Decided.{come_to_their_effects}
use Rattle.engine.proofs.laws.commands_come_to_their_effects.Goals as goal

pub returns : goal.returns
returns c = come_to_their_effects
