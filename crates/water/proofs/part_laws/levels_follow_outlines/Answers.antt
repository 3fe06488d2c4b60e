use Rattle.std.specs.Prelude.{IsTrue}
use Rattle.water.proofs.Outlines.{joined_by_outlines, joined_by_links}
use Rattle.water.proofs.part_laws.levels_follow_outlines.Goals as goal

pub returns : goal.returns
returns c = λ links outlines is_shared out are x level from. (
  joined_by_outlines (λ i y z l. IsTrue (links i y z l)) (λ i y z l. IsTrue (outlines i y z l)) is_shared out are x level from,
  joined_by_links (λ i y z l. IsTrue (links i y z l)) (λ i y z l. IsTrue (outlines i y z l)) is_shared out are x level from,
)
