use Rattle.flow_d8.proofs.Prelude.{Advances, Dir, ℕ, back_of, length, mark_at, order_of, slice_index_or, ◌<◌, ◌≡◌}
use Rattle.flow_d8.specs.Tiles.{by_of}
use Rattle.flow_d8.proofs.resolving.advance.Given as goal

abbrev pub invariant-loop-i : goal.invariant-loop-i
invariant-loop-i l = record {
  advances : Advances (by_of l.tiles) l.fn.marks l.fn.flows l.marks l.next.items l.flows;
  passed : (j : ℕ) (d : Dir) → order_of d < l.i → j < length l.samples → mark_at l.marks (by_of l.tiles (slice_index_or l.samples j 0) (back_of d)) ≡ 2 → ⊥;
}
