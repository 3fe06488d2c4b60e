-- Tests whether a corner is in a list; splits a sample number into tile and index.
use Rattle.flow_d8.proofs.Prelude.{Bool, IsTrue, List, Option, Some, ℕ, [], arith, list_any, none-some, or_left, or_right, rows, slice_get, subst, suc, true, zero, ◌%◌, ◌*◌, ◌+◌, ◌/◌, ◌∷◌, ◌≡◌}
use Rattle.lattice.specs.Corners.{Corner}

pub any_at : (P : Corner → Bool) (corners : List Corner) (k : ℕ) (c : Corner) → slice_get corners k ≡ Some c → P c ≡ true → IsTrue (list_any P corners)
any_at P [] k c at h = absurd (none-some c at)
any_at P (d ∷ rest) zero c at h = or_left (P d) (list_any P rest) (subst (λ e. P e ≡ true) (same at) h)
  where
    same : ◌≡◌ {A = Option Corner} (Some d) (Some c) → c ≡ d
    same e = cc
any_at P (d ∷ rest) (suc k) c at h = or_right (P d) (list_any P rest) (any_at P rest k c at h)

pub tile_and_index : (a number : ℕ) → number / a * a + number % a ≡ number
tile_and_index a number = grind (arith, rows)
