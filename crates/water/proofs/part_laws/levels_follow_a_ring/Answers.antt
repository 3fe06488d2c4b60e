use Rattle.water.proofs.Ring.{level_by_border, level_of_whole}
use Rattle.water.proofs.part_laws.levels_follow_a_ring.Goals as goal

pub returns : goal.returns
returns c = λ b t at ring border law x l solid. (level_by_border b t at ring border law x l solid, level_of_whole b t at ring border law x l solid)
