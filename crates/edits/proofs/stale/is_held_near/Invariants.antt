use Rattle.edits.proofs.Prelude.{Corner, ℕ, are_neighbours, get_or, true, ◌<◌, ◌≡◌}
use Rattle.std.specs.Prelude.{Contains}
use Rattle.edits.proofs.stale.is_held_near.Given as goal

abbrev pub invariant-loop-holder : goal.invariant-loop-holder
invariant-loop-holder g l =
    (k : ℕ) (d : Corner) → k < l.holder-index → Contains (g.S.Samples.corners l.samples) (get_or l.holder-items k d) → are_neighbours (get_or l.holder-items k d) l.corner ≡ true → ⊥
