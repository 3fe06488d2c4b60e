use Rattle.catalogue.proofs.Prelude.{Ok, OnlyReads, ℕ, count_by, is_adjacent, take, ◌≡◌, ◌≤◌}
use Rattle.catalogue.proofs.adjacency.degree.Given as goal

abbrev pub invariant-loop-step : goal.invariant-loop-step
invariant-loop-step g l = record {
  reads : OnlyReads {T = ℕ} g.S.Samples l.fn.samples l.samples (Ok l.count);
  few : l.count ≤ l.step-index;
  count : g.S.Samples.is_honest l.samples → l.count ≡ count_by (λ s. is_adjacent (g.S.Samples.mosaic l.fn.samples) l.point s.to) (take l.step-index l.step-items);
}
