use Rattle.water.proofs.Flats.{distance_by_border}
use Rattle.water.proofs.part_laws.flat_distances_follow_a_ring.Goals as goal

pub returns : goal.returns
returns c = λ b t at ring border law level distance told x k solid. distance_by_border b t at ring border law level distance told x k solid
