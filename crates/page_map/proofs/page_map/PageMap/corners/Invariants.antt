use Rattle.page_map.proofs.Prelude.{corners_of_locations, staged_tiles, ◌++◌, ◌≡◌}
use Rattle.page_map.proofs.page_map.PageMap.corners.Given as goal

-- The corners so far, followed by those of the remaining entries, are all corners.
abbrev pub invariant-loop-corner : goal.invariant-loop-corner
invariant-loop-corner l = l.corners.items ++ corners_of_locations (staged_tiles l.corner-iterator) ≡ corners_of_locations l.self.staged
