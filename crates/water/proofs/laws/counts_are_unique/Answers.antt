use Rattle.water.proofs.OneCount.{one_upstream_count}
use Rattle.water.proofs.laws.counts_are_unique.Goals as goal

pub returns : goal.returns
returns c = one_upstream_count
