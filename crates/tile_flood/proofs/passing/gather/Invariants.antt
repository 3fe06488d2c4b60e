use Rattle.tile_flood.proofs.Prelude.{AreGathered, ℕ, ◌+◌, ◌-◌, ◌≤◌}
use Rattle.tile_flood.specs.Bands.{ArePlaces}
use Rattle.tile_flood.proofs.passing.gather.Given as goal

abbrev pub invariant-strips : goal.invariant-strips
invariant-strips l = record {
  from : l.from ≤ l.count;
  gathered : AreGathered l.labelled.n l.labelled.levels.now l.labelled.labels.now l.fn.passages.found.items l.passages.found.items l.e l.f l.from;
  places : (from to : ℕ) → from ≤ l.e → l.e + l.count ≤ to → ArePlaces l.labelled.n l.labelled.levels.now l.labelled.labels.now from to l.fn.passages.found.items →
      ArePlaces l.labelled.n l.labelled.levels.now l.labelled.labels.now from to l.passages.found.items;
}

abbrev pub invariant-loop-k : goal.invariant-loop-k
invariant-loop-k l = record {
  gathered : AreGathered l.labelled.n l.labelled.levels.now l.labelled.labels.now l.fn.passages.found.items l.passages.found.items l.e l.f l.k;
  places : (from to : ℕ) → from ≤ l.e → l.e + l.count ≤ to → ArePlaces l.labelled.n l.labelled.levels.now l.labelled.labels.now from to l.fn.passages.found.items →
      ArePlaces l.labelled.n l.labelled.levels.now l.labelled.labels.now from to l.passages.found.items;
}

abbrev pub decreases-strips : goal.decreases-strips
decreases-strips l = l.count - l.from
