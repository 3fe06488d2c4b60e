use Rattle.levels.proofs.Prelude.{AreRemembered, IsGroundOf, Ok, OnlyReads, ℕ, count_by, is_adjacent, take, ◌≡◌, ◌≤◌}
use Rattle.levels.proofs.outlets.degree_in_tile.Given as goal

abbrev pub invariant-loop-step : goal.invariant-loop-step
invariant-loop-step g l = record {
  reads : OnlyReads {T = ℕ} g.S.Samples l.fn.samples l.samples (Ok l.count);
  ground_cache : g.S.Samples.is_honest l.samples → AreRemembered (g.S.Samples.mosaic l.samples) l.ground_cache;
  few : l.count ≤ l.step-index;
  count : g.S.Samples.is_honest l.samples → IsGroundOf (g.S.Samples.mosaic l.fn.samples) l.tile.corner l.tile.labelled.now l.point
      → l.count ≡ count_by (λ s. is_adjacent (g.S.Samples.mosaic l.fn.samples) l.point s.to) (take l.step-index l.step-items);
}
