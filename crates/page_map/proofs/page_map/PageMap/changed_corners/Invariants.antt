use Rattle.page_map.proofs.Changed.{ChangedSoFar}
use Rattle.page_map.proofs.page_map.PageMap.changed_corners.Given as goal

abbrev pub invariant-loop-corner : goal.invariant-loop-corner
invariant-loop-corner l = ChangedSoFar l.self l.corner-iterator l.corners.items
