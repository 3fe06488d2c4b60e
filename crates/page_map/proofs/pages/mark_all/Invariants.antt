use Rattle.page_map.proofs.Prelude.{AreTaken, take}
use Rattle.page_map.proofs.pages.mark_all.Given as goal

abbrev pub invariant-loop-page : goal.invariant-loop-page
invariant-loop-page l = AreTaken (take l.page-index l.pages) l.initial.free l.free
