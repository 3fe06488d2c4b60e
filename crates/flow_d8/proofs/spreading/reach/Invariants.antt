use Rattle.flow_d8.proofs.Prelude.{Reaches, ℕ, back_of, mark_at, slice_index_or, ◌<◌, ◌≡◌}
use Rattle.flow_d8.specs.Tiles.{by_of}
use Rattle.flow_d8.proofs.spreading.reach.Given as goal

abbrev pub invariant-loop-i : goal.invariant-loop-i
invariant-loop-i l = record {
  reaches : Reaches (by_of l.wave.tiles.now) l.wave.samples.now l.fn.direction l.fn.marks l.fn.next.items l.fn.flows l.marks l.next.items l.flows;
  passed : (j : ℕ) → j < l.i → mark_at l.marks (by_of l.wave.tiles.now (slice_index_or l.wave.samples.now j 0) (back_of l.fn.direction)) ≡ 2 → ⊥;
}
