use Rattle.catalogue.proofs.Prelude.{Contains, Corner, ℕ, false, get_or, same_corner, ◌<◌, ◌≡◌}
use Rattle.catalogue.proofs.tile_block.is_held_elsewhere.Given as goal

abbrev pub invariant-loop-holder : goal.invariant-loop-holder
invariant-loop-holder g l =
    (k : ℕ) (d : Corner) → k < l.holder-index → same_corner (get_or l.holder-items k d) l.corner ≡ false → Contains (g.S.Samples.corners l.samples) (get_or l.holder-items k d) → ⊥
