use Rattle.edits.proofs.Prelude.{All, CanBeSet, SetOnce, false, is_named, is_repeated, length, points_of, take, ◌*◌, ◌≡◌, ◌≤◌}
use Rattle.edits.proofs.Plans.Setting.{GiveHeights}
use Rattle.edits.proofs.listing.put_heights.Given as goal

abbrev pub invariant-loop-height : goal.invariant-loop-height
invariant-loop-height g l = record {
  given : GiveHeights (g.S.Samples.side_of l.samples) (g.S.Samples.corners l.samples) (take l.height-index l.heights) l.changes.items;
  once : is_repeated (points_of l.heights) ≡ false → SetOnce (g.S.Samples.side_of l.samples) (is_named (points_of (take l.height-index l.heights))) l.changes.items;
  fits : All (CanBeSet (g.S.Samples.side_of l.samples) (g.S.Samples.corners l.samples)) l.changes.items;
  few : length l.changes.items ≤ 4 * l.height-index;
}
