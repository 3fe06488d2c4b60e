use Rattle.water.proofs.CountsByExits.{count_by_exits}
use Rattle.water.proofs.part_laws.counts_follow_exits.Goals as goal

pub returns : goal.returns
returns c = λ m level is filled is_one_owner p solid. count_by_exits m level is filled is_one_owner p solid
