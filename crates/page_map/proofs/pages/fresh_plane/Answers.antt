use Rattle.std.proofs.Common.{arith}
use Rattle.std.proofs.lemmas.List.{length-set}
use Rattle.page_map.proofs.GivenSoFar.{taken_set}
use Rattle.page_map.proofs.pages.fresh_plane.Goals as goal

pub loop-page-preserved : goal.loop-page-preserved
loop-page-preserved c = (
  taken_set _ _ _ _ _ _ (omega (arith, c.loop-page.auto.page-items, c.loop-page-test.true)) c.loop-page.invariant.0 c.take.ensures.taken,
  omega (arith, c.loop-page.invariant.1, c.take.ensures.left),
  rw length-set c.loop-page.invariant.2,
)
