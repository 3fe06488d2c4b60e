use Rattle.roots.proofs.OneAnswer.{one_is_current}
use Rattle.roots.proofs.laws.one_root_is_current.Goals as goal

pub returns : goal.returns
returns c = one_is_current
