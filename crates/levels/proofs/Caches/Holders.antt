-- A point is Outside exactly if no present tile holds it.
use Rattle.levels.proofs.Prelude.{All, All-head, All-tail, Bool, Holds, IsFalse, IsHeldByNone, IsMosaic, IsTile, IsTrue, List, Mosaic, Point, Tile, ℕ, ℤ, [], ap, arith, by_seam_rule, cond, corner_of, corners_of, false, false≢true, filter, first_height, get_or, height_of, holds, holds_is, is_corner, is_ground, is_height, is_void, length, map, refl, sample_at, subst, suc, sym, true, zero, ◌<◌, ◌∙◌, ◌∷◌, ◌≡◌, ◌≤◌}
use Rattle.lattice.specs.declared.height.Height.TheVariants.{Outside, At}

module _ (n : ℕ) (p : Point) (side : 3 ≤ n) where
  none_hold : (tiles : List Tile) → All (IsTile n) tiles → IsHeldByNone n (map corner_of tiles) p → filter (λ t. holds n t.corner p) tiles ≡ []
  none_hold [] all none = refl
  none_hold (t ∷ ts) all none = by (holds n t.corner p) refl (none_hold ts (All-tail (IsTile n) t ts all) (λ c (k, below, at) held. none c (suc k, omega (arith, below), at) held))
    where
      by : (b : Bool) → holds n t.corner p ≡ b → filter (λ (x : Tile). holds n x.corner p) ts ≡ [] → cond b (t ∷ filter (λ (x : Tile). holds n x.corner p) ts) (filter (λ (x : Tile). holds n x.corner p) ts) ≡ []
      by true within rest = absurd (none t.corner (0, omega arith, refl) ((holds_is n t.corner p side (All-head (IsTile n) t ts all).corner).0 within))
      by false outside rest = rest

  some_hold : (tiles : List Tile) → filter (λ t. holds n t.corner p) tiles ≡ [] → IsHeldByNone n (map corner_of tiles) p
  some_hold [] empty c (k, below, at) held = absurd (omega (arith, below))
  some_hold (t ∷ ts) empty c (k, below, at) held = by (holds n t.corner p) refl empty k below at (λ rest j less is. some_hold ts rest c (j, less, is) held)
    where
      by : (b : Bool) → holds n t.corner p ≡ b → cond b (t ∷ filter (λ (x : Tile). holds n x.corner p) ts) (filter (λ (x : Tile). holds n x.corner p) ts) ≡ []
          → (k : ℕ) → k < length (map corner_of (t ∷ ts)) → get_or (map corner_of (t ∷ ts)) k c ≡ c
          → (filter (λ (x : Tile). holds n x.corner p) ts ≡ [] → (j : ℕ) → j < length (map corner_of ts) → get_or (map corner_of ts) j c ≡ c → ⊥) → ⊥
      by true within full k below at later = absurd (cc)
      by false outside rest zero below at later = false≢true (sym outside ∙ (holds_is n t.corner p side (subst (λ d. IsTrue (is_corner d)) (sym at) held.corner)).1 (subst (λ d. Holds n d p) (sym at) held))
      by false outside rest (suc k) below at later = later rest k (omega (arith, below)) at

never_outside : (l : List ℤ) → first_height l ≡ Outside → ⊥
never_outside [] e = absurd (cc)
never_outside (s ∷ later) e = by (is_void s) (never_outside later) e
  where
    by : (b : Bool) → (first_height later ≡ Outside → ⊥) → cond b (first_height later) (At s) ≡ Outside → ⊥
    by true rest e = rest e
    by false rest e = absurd (cc)

not_outside : (l : List ℤ) → by_seam_rule l ≡ Outside → l ≡ []
not_outside [] e = refl
not_outside (s ∷ later) e = absurd (never_outside (s ∷ later) e)

module _ (m : Mosaic) (p : Point) (is : IsMosaic m) where
  pub outside_from : IsHeldByNone m.side (corners_of m) p → height_of m p ≡ Outside
  outside_from none = ap (λ (l : List Tile). by_seam_rule (map (λ t. sample_at m.side t p) l)) (none_hold m.side p is.side_low m.tiles is.tiles none)

  pub outside_says : height_of m p ≡ Outside → IsHeldByNone m.side (corners_of m) p
  outside_says out = some_hold m.side p is.side_low m.tiles (no_tiles (filter (λ t. holds m.side t.corner p) m.tiles) (not_outside (map (λ t. sample_at m.side t p) (filter (λ t. holds m.side t.corner p) m.tiles)) out))
    where
      no_tiles : (l : List Tile) → map (λ t. sample_at m.side t p) l ≡ [] → l ≡ []
      no_tiles [] e = refl
      no_tiles (t ∷ ts) e = absurd (cc)

-- a point with a height is ground
pub ground_at : (m : Mosaic) (p : Point) (h : ℤ) → At h ≡ height_of m p → IsTrue (is_ground m p)
ground_at m p h e = sym (ap is_height e)

-- a point that no present tile holds isn't ground
pub no_ground : (m : Mosaic) (p : Point) → IsMosaic m → IsHeldByNone m.side (corners_of m) p → IsFalse (is_ground m p)
no_ground m p is none = ap is_height (outside_from m p is none)
