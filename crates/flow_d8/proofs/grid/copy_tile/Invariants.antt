use Rattle.std.proofs.Common.{◌≡◌, ◌≢◌, ℕ, ◌+◌, ◌*◌, ◌/◌, ◌<◌, length, slice_index_or}
use Rattle.water.specs.declared.flow.Flow.TheVariants.{Unknown}
use Rattle.flow_d8.proofs.grid.copy_tile.Given as goal

abbrev pub invariant-loop-i : goal.invariant-loop-i
invariant-loop-i l = record {
  whole : length l.flows ≡ length l.fn.flows;
  moved : (e : ℕ) → e < l.i → slice_index_or l.flows (l.to * l.area + e) Unknown ≡ slice_index_or l.fn.flows (l.from * l.area + e) Unknown;
  others : (k : ℕ) → k / l.area ≢ l.to → slice_index_or l.flows k Unknown ≡ slice_index_or l.fn.flows k Unknown;
}
