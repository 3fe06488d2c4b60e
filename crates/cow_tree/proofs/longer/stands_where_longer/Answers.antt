use Rattle.cow_tree.proofs.LongerDisks.{stands_where_longer}
use Rattle.cow_tree.proofs.longer.stands_where_longer.Goals as goal

pub returns : goal.returns
returns c = stands_where_longer
