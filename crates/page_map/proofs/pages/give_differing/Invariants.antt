use Rattle.page_map.proofs.GivenSoFar.{IsGivenTo}
use Rattle.page_map.proofs.pages.give_differing.Given as goal

abbrev pub invariant-loop-i : goal.invariant-loop-i
invariant-loop-i l = IsGivenTo l.pages l.others l.i l.initial.free l.free
