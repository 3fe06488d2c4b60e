use Rattle.roots.proofs.OneAnswer.{store_refused}
use Rattle.roots.proofs.roots.Roots.reopen.Goals as goal

pub returns-in-Err-clause-store : goal.returns-in-Err-clause-store
returns-in-Err-clause-store g c honest root store = store_refused _ _ root c.in-Err.refusal store (c.in-Err.ensures.opens honest)
