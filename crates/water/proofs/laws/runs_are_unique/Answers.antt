use Rattle.std.specs.Prelude.{IsTrue}
use Rattle.water.proofs.OneList.{one_list_of_runs}
use Rattle.water.proofs.laws.runs_are_unique.Goals as goal

pub returns : goal.returns
returns c = λ inside. one_list_of_runs (λ p. IsTrue (inside p))
