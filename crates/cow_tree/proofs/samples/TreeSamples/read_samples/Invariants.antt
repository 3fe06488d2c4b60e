use Rattle.cow_tree.proofs.Prelude.{HasOnlyRead, IsReadable, List, Some, ℤ, false, length, mosaic_of, samples_of, slice_range, take, ◌+◌, ◌-◌, ◌≡◌, ◌≤◌}
use Rattle.cow_tree.specs.Trees.{has_failed}
use Rattle.cow_tree.proofs.samples.TreeSamples.read_samples.Given as goal

abbrev pub invariant-loop-done : goal.invariant-loop-done
invariant-loop-done g l = record {
  reads : HasOnlyRead g.D.Disk l.fn.self l.self;
  works : has_failed l.fn.self ≡ false → has_failed l.self ≡ false;
  as_many : length l.into ≡ length l.fn.into;
  within : l.done ≤ length l.into;
  read : IsReadable g.D.Disk l.self → (all : List ℤ) → samples_of (mosaic_of g.D.Disk l.fn.self) l.c ≡ Some all → slice_range all l.first (l.first + l.done) ≡ take l.done l.into;
}

abbrev pub decreases-loop-done : goal.decreases-loop-done
decreases-loop-done g l = length l.initial.into - l.done
