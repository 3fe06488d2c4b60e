use Rattle.lattice.proofs.Prelude.{IsSample, ℕ, ℤ, get_or, ◌<◌}
use Rattle.lattice.proofs.ranges.samples_in_range.Given as goal

abbrev pub invariant-loop-sample : goal.invariant-loop-sample
invariant-loop-sample l = (k : ℕ) (d : ℤ) → k < l.sample-index → IsSample (get_or l.samples k d)
