use Rattle.flow_d8.proofs.Prelude.{AreFlows, IsFlow, IsOfFlat, IsTold, Point, Tells, Terrain, Unknown, ℕ, ℤ, slice_index_or, ◌*◌, ◌/◌, ◌<◌}
use Rattle.flow_d8.specs.Tiles.{place_of, IsSampleOf}
use Rattle.flow_d8.proofs.telling.tell_point.Given as goal

abbrev pub invariant-loop-i : goal.invariant-loop-i
invariant-loop-i l = record {
  tells : Tells l.fn.flows l.flows;
  facts : (t : Terrain Point) (level : Point → ℤ) → IsFlow t level l.point l.flow → AreFlows t level (place_of l.tiles) l.fn.flows → AreFlows t level (place_of l.tiles) l.flows;
  twins : (e : ℕ) → e / (l.tiles.side * l.tiles.side) < l.i → IsSampleOf l.tiles l.point e → IsOfFlat (slice_index_or l.fn.flows e Unknown) → IsTold (slice_index_or l.flows e Unknown);
}
