use Rattle.water.proofs.OneCount.{count_of_runs}
use Rattle.water.proofs.laws.counts_are_of_watersheds.Goals as goal

pub returns : goal.returns
returns c = count_of_runs
