use Rattle.edits.proofs.Prelude.{Corner, array_vec_len, take, ◌+◌, ◌≤◌}
use Rattle.std.specs.Prelude.{Contains}
use Rattle.edits.proofs.BoxVoids.TilesFound.{AreOnce}
use Rattle.edits.proofs.void_tiles.add_holders.Given as goal

abbrev pub invariant-loop-corner : goal.invariant-loop-corner
invariant-loop-corner l = record {
  kept : (c : Corner) → Contains l.initial.corners.items c → Contains l.corners.items c;
  added : (c : Corner) → Contains (take l.corner-index l.corner-items) c → Contains l.corners.items c;
  once : AreOnce l.corners.items;
  few : array_vec_len l.corners ≤ array_vec_len l.initial.corners + l.corner-index;
}
