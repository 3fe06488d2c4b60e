use Rattle.flow_d8.proofs.Prelude.{AreFlows, IsIn, IsOfFlat, IsTold, Point, Tells, Terrain, Unknown, ℕ, ℤ, no_run, slice_index_or, ◌<◌}
use Rattle.flow_d8.specs.Tiles.{place_of, IsSampleOf}
use Rattle.flow_d8.proofs.telling.tell.Given as goal

abbrev pub invariant-loop-i : goal.invariant-loop-i
invariant-loop-i l = record {
  tells : Tells l.fn.flows l.flows;
  facts : (t : Terrain Point) (level : Point → ℤ) → AreFlows t level (place_of l.tiles) l.fn.flows → AreFlows t level (place_of l.tiles) l.flows;
  twins : (j k e : ℕ) → j < l.i → IsIn (slice_index_or l.runs j no_run) k → IsTold (slice_index_or l.fn.flows k Unknown) → IsSampleOf l.tiles (place_of l.tiles k) e
      → IsOfFlat (slice_index_or l.fn.flows e Unknown) → IsTold (slice_index_or l.flows e Unknown);
}
