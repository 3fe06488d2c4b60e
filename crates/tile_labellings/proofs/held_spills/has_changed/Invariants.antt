use Rattle.std.specs.Prelude.{length, true, false, ℕ, ◌<◌}
use Rattle.std.proofs.Common.{get_or, ◌≡◌}
use Rattle.tile_labellings.proofs.held_spills.has_changed.Given as goal

abbrev pub invariant-loop-b : goal.invariant-loop-b
invariant-loop-b l = (i : ℕ) → i < l.b → (i < length l.changed) × (get_or l.changed i true ≡ false)
