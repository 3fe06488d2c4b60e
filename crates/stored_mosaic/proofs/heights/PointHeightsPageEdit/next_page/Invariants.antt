use Rattle.stored_mosaic.proofs.Prelude.{has_point, pages_of, points_of, take}
use Rattle.stored_mosaic.proofs.Edits.PagesMet.{IsFirst}
use Rattle.stored_mosaic.proofs.heights.PointHeightsPageEdit.next_page.Given as goal

abbrev pub invariant-loop-height : goal.invariant-loop-height
invariant-loop-height l = IsFirst (has_point l.side (points_of (take l.height-index l.height-items)) l.corner) l.from (pages_of l.side) l.next
