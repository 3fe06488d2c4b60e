-- If no other tile has a point, its height is its sample in the tile.
use Rattle.catalogue.proofs.Prelude.{All, All-head, All-tail, AllAfter, Bool, Contains, Corner, Holds, IsIndexOf, IsSampleOf, IsSomeAnd, List, None, Option, Point, Rising, Some, ℕ, ℤ, [], ap, arith, before_apart, by_seam_rule, cond, corners_of, false, false≢true, filter, get_or_from_slice_get, height_of, held_at, holds, holds_is, index_is, index_of, length, map, metres, refl, same_corner, same_from, same_says, sample_at, slice_get, slice_index_or, subst, suc, sym, true, zero, ◌*◌, ◌∙◌, ◌∷◌, ◌≡◌}
use Rattle.std.proofs.lemmas.Bool.Decides.{Decides-int_eq}
use Rattle.lattice.specs.Mosaic.{Tile, Mosaic, IsTile, IsMosaic, void, is_void, samples_among, samples_of}
use Rattle.catalogue.proofs.Mosaics.{corner_of, rising_tiles}
use Rattle.catalogue.proofs.OneTile.{corner_is}

-- The samples of a corner are those of a whole tile.
pub whole_tile : (n : ℕ) (c : Corner) (tiles : List Tile) (samples : List ℤ) → All (IsTile n) tiles → samples_among tiles c ≡ Some samples → length samples ≡ n * n
whole_tile n c [] samples all found = absurd (cc)
whole_tile n c (t ∷ ts) samples all found = by (same_corner t.corner c) found (whole_tile n c ts samples (All-tail (IsTile n) t ts all))
  where
    by : (b : Bool) → cond b (Some t.samples) (samples_among ts c) ≡ Some samples → (samples_among ts c ≡ Some samples → length samples ≡ n * n) → length samples ≡ n * n
    by true here later = let this : t.samples ≡ samples = cc in ap length (sym this) ∙ (All-head (IsTile n) t ts all).whole
    by false there later = later there

module _ (n : ℕ) (c : Corner) (p : Point) where
  -- Of these tiles only the corner's has the point.
  abbrev IsAlone : List Tile → Type 0
  IsAlone tiles = (t : Tile) → Contains tiles t → holds n t.corner p ≡ true → t.corner ≡ c

  later_alone : (t : Tile) (ts : List Tile) → IsAlone (t ∷ ts) → IsAlone ts
  later_alone t ts alone u there = alone u (suc there.0, omega (arith, there.1), there.2)

  none_after : (ts : List Tile) → AllAfter corner_of c ts → IsAlone ts → filter (λ t. holds n t.corner p) ts ≡ []
  none_after [] after alone = refl
  none_after (t ∷ ts) after alone = by (holds n t.corner p) refl (none_after ts after.1 (later_alone t ts alone))
    where
      by : (b : Bool) → holds n t.corner p ≡ b → filter (λ u. holds n u.corner p) ts ≡ [] → cond b (t ∷ filter (λ u. holds n u.corner p) ts) (filter (λ u. holds n u.corner p) ts) ≡ []
      by true held rest = absurd (before_apart c t.corner after.0 (sym (alone t (0, omega arith, refl) held)))
      by false out rest = rest

  said_alone : (tiles : List Tile) (samples : List ℤ) → Rising corner_of tiles → IsAlone tiles → samples_among tiles c ≡ Some samples → holds n c p ≡ true
      → map (λ t. sample_at n t p) (filter (λ t. holds n t.corner p) tiles) ≡ slice_index_or samples (index_of n c p) void ∷ []
  said_alone [] samples rising alone found within = absurd (cc)
  said_alone (t ∷ ts) samples rising alone found within = by (same_corner t.corner c) refl found (λ later. said_alone ts samples rising.1 (later_alone t ts alone) later within)
    where
      here : t.corner ≡ c → t.samples ≡ samples → (b : Bool) → holds n t.corner p ≡ b
          → map (λ u. sample_at n u p) (cond b (t ∷ filter (λ u. holds n u.corner p) ts) (filter (λ u. holds n u.corner p) ts)) ≡ slice_index_or samples (index_of n c p) void ∷ []
      here is own true held =
          let rest = none_after ts (subst (λ (d : Corner). AllAfter corner_of d ts) is rising.0) (later_alone t ts alone) in
          ap (λ (us : List Tile). map (λ u. sample_at n u p) (t ∷ us)) rest
          ∙ ap (λ (d : Corner). slice_index_or t.samples (index_of n d p) void ∷ []) is
          ∙ ap (λ (l : List ℤ). slice_index_or l (index_of n c p) void ∷ []) own
      here is own false out = absurd (false≢true (sym out ∙ ap (λ (d : Corner). holds n d p) is ∙ within))

      there : (b : Bool) → holds n t.corner p ≡ b → same_corner t.corner c ≡ false
          → map (λ u. sample_at n u p) (filter (λ u. holds n u.corner p) ts) ≡ slice_index_or samples (index_of n c p) void ∷ []
          → map (λ u. sample_at n u p) (cond b (t ∷ filter (λ u. holds n u.corner p) ts) (filter (λ u. holds n u.corner p) ts)) ≡ slice_index_or samples (index_of n c p) void ∷ []
      there true held other rest = absurd (false≢true (sym other ∙ same_from t.corner c (alone t (0, omega arith, refl) held)))
      there false out other rest = rest

      by : (b : Bool) → same_corner t.corner c ≡ b → cond b (Some t.samples) (samples_among ts c) ≡ Some samples
          → (samples_among ts c ≡ Some samples → map (λ u. sample_at n u p) (filter (λ u. holds n u.corner p) ts) ≡ slice_index_or samples (index_of n c p) void ∷ [])
          → map (λ u. sample_at n u p) (filter (λ u. holds n u.corner p) (t ∷ ts)) ≡ slice_index_or samples (index_of n c p) void ∷ []
      by true same is later = let own : t.samples ≡ samples = cc in here (same_says t.corner c same) own (holds n t.corner p) refl
      by false other is later = there (holds n t.corner p) refl other (later is)

-- By the seam rule one sample is the height, or void.
one_height : (s : ℤ) → metres (by_seam_rule (s ∷ [])) ≡ s
one_height s = by (is_void s) refl
  where
    by : (b : Bool) → is_void s ≡ b → metres (by_seam_rule (s ∷ [])) ≡ s
    by true nothing = rw nothing (sym ((Decides-int_eq s void).0 nothing))
    by false something = rw something refl

corner_among : (tiles : List Tile) (t : Tile) → Contains tiles t → Contains (map corner_of tiles) t.corner
corner_among [] t (k, below, here) = absurd (omega arith)
corner_among (u ∷ us) t (zero, below, here) = (0, omega arith, ap corner_of here)
corner_among (u ∷ us) t (suc k, below, here) = let later = corner_among us t (k, omega arith, here) in (suc later.0, omega (arith, later.1), later.2)

pub own_height : (m : Mosaic) (c : Corner) (e : ℕ) (p : Point) (s : ℤ) → IsMosaic m → IsIndexOf m.side c p e → ((d : Corner) → Contains (corners_of m) d → Holds m.side d p → d ≡ c)
    → IsSampleOf m c e s → metres (height_of m p) ≡ s
own_height m c e p s valid at only own = by (samples_of m c) refl own
  where
    by : (o : Option (List ℤ)) → samples_of m c ≡ o → IsSomeAnd o (λ l. slice_get l e ≡ Some s) → metres (height_of m p) ≡ s
    by None found is = absurd is
    by (Some samples) found is =
        let within : holds m.side c p ≡ true = (holds_is m.side c p valid.side_low at.corner).1 (held_at m.side c p e at) in
        let alone : (t : Tile) → Contains m.tiles t → holds m.side t.corner p ≡ true → t.corner ≡ c = λ t there held.
        only t.corner (corner_among m.tiles t there) ((holds_is m.side t.corner p valid.side_low (corner_is m t.corner valid (corner_among m.tiles t there))).0 held) in
        let said = said_alone m.side c p m.tiles samples (rising_tiles m valid) alone found within in
        let value : slice_index_or samples (index_of m.side c p) void ≡ s = ap (λ i. slice_index_or samples i void) (index_is m.side c p e at) ∙ get_or_from_slice_get samples e s void is in
        ap (λ (l : List ℤ). metres (by_seam_rule l)) (said ∙ ap (λ (v : ℤ). v ∷ []) value) ∙ one_height s
