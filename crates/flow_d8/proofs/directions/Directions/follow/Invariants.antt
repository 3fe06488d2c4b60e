use Rattle.flow_d8.proofs.Prelude.{AreDirectionsOf, IsChain, IsFollowed, IsMosaic, IsTrue, Mosaic, Point, ℤ, is_ground, length, slice_index_or, terrain, ◌-◌, ◌<◌, ◌≡◌, ◌≤◌}
use Rattle.flow_d8.proofs.directions.Directions.follow.Given as goal

abbrev pub invariant-steps : goal.invariant-steps
invariant-steps l = record {
  chain : IsChain l.self l.path.items;
  ends : (x : Point) → slice_index_or l.path.items (length l.path.items - 1) x ≡ l.last;
  some : 0 < length l.path.items;
  short : length l.path.items ≤ l.most;
  followed : (m : Mosaic) (level : Point → ℤ) → IsMosaic m → AreDirectionsOf m level l.self → IsTrue (is_ground m l.fn.point) → IsFollowed (terrain m) level l.fn.point l.last l.path.items;
}

abbrev pub decreases-steps : goal.decreases-steps
decreases-steps l = l.most - length l.path.items
