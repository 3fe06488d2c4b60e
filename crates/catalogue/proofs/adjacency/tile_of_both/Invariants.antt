use Rattle.catalogue.proofs.Prelude.{Contains, Corner, Holds, ℕ, get_or, ◌<◌}
use Rattle.catalogue.proofs.adjacency.tile_of_both.Given as goal

abbrev pub invariant-loop-corner : goal.invariant-loop-corner
invariant-loop-corner g l =
    (k : ℕ) (d : Corner) → k < l.corner-index → Contains (g.S.Samples.corners l.samples) (get_or l.corner-items k d) → Holds (g.S.Samples.side_of l.samples) (get_or l.corner-items k d) l.q → ⊥
