use Rattle.roots.proofs.OneAnswer.{answers_once, stores_open}
use Rattle.roots.proofs.laws.stores_open.Goals as goal

pub returns-clause-once : goal.returns-clause-once
returns-clause-once c = answers_once

pub returns-clause-stores : goal.returns-clause-stores
returns-clause-stores c = stores_open
