-- If a present tile has a sample that isn't void, the sample's point isn't void.
use mir.Syntax.{w16}
use Rattle.edits.proofs.Prelude.{All, Bool, Contains, Corner, IsMosaic, List, Mosaic, None, Option, Some, Tile, ℕ, ℤ, [], ap, ap₂, arith, by_seam_rule, cond, drop, false, get_or, get_or-map, holds, holds_is, ints, is_void_height, length, length-map, map, of_z, point_of, pos, refl, same_corner, same_says, sample_at, subst, suc, sym, to_z, true, void, zero, ◌*◌, ◌+◌, ◌<◌, ◌∙◌, ◌∷◌, ◌≡◌, ◌≤◌}
use Rattle.std.specs.List.{filter, slice_range}
use Rattle.std.specs.Prelude.{◌-◌, IsSomeAnd, slice_get}
use Rattle.std.proofs.lemmas.List.{get_or-drop, get_or-take, get_or_default}
use Rattle.std.proofs.lemmas.Option.{get_or_from_slice_get, slice_get-get_or}
use Rattle.lattice.proofs.Filters.{contains_filtered}
use Rattle.lattice.proofs.Samples.{held_at, index_is, index_of_point}
use Rattle.lattice.specs.Height.{first_height}
use Rattle.lattice.specs.Mosaic.{IsSample, is_void, samples_among, samples_of}
use Rattle.catalogue.proofs.OneTile.{corner_is}
use Rattle.catalogue.proofs.OwnHeights.{whole_tile}
use Rattle.catalogue.specs.Reading.{AreSamplesOf, IsSampleOf}
use Rattle.edits.specs.TileRows.{is_void_at_index}
use Rattle.edits.proofs.BoxVoids.TouchedTiles.{listed, some_edge}

-- ---- the seam rule, if one of the samples isn't void

first_is : (l : List ℤ) (s : ℤ) → Contains l s → is_void s ≡ false → is_void_height (first_height l) ≡ false
first_is [] s (k, below, here) ground = absurd (omega arith)
first_is (x ∷ rest) s (zero, below, here) ground = let same : is_void x ≡ false = ap is_void here ∙ ground in rw same refl
first_is (x ∷ rest) s (suc k, below, here) ground = by (is_void x) refl (first_is rest s (k, omega arith, here) ground)
  where
    by : (b : Bool) → is_void x ≡ b → is_void_height (first_height rest) ≡ false → is_void_height (first_height (x ∷ rest)) ≡ false
    by true none later = rw none later
    by false some later = rw some refl

seam_is : (l : List ℤ) (s : ℤ) → Contains l s → is_void s ≡ false → is_void_height (by_seam_rule l) ≡ false
seam_is [] s (k, below, here) ground = absurd (omega arith)
seam_is (x ∷ rest) s there ground = first_is (x ∷ rest) s there ground

-- ---- the tile that is read

tile_among : (c : Corner) (tiles : List Tile) (samples : List ℤ) → samples_among tiles c ≡ Some samples → (t : Tile) × (Contains tiles t × ((t.corner ≡ c) × (t.samples ≡ samples)))
tile_among c [] samples found = absurd (cc)
tile_among c (t ∷ rest) samples found = by (same_corner t.corner c) refl found (tile_among c rest samples)
  where
    by : (b : Bool) → same_corner t.corner c ≡ b → cond b (Some t.samples) (samples_among rest c) ≡ Some samples
        → (samples_among rest c ≡ Some samples → (u : Tile) × (Contains rest u × ((u.corner ≡ c) × (u.samples ≡ samples))))
        → (u : Tile) × (Contains (t ∷ rest) u × ((u.corner ≡ c) × (u.samples ≡ samples)))
    by true same is later = (t, ((0, omega arith, refl), (same_says t.corner c same, cc)))
    by false other is later = let found = later is in (found.0, ((suc found.1.0.0, omega (arith, found.1.0.1), found.1.0.2), found.1.1))

contains_map : (f : Tile → ℤ) (tiles : List Tile) (t : Tile) → Contains tiles t → Contains (map f tiles) (f t)
contains_map f tiles t (k, below, here) = (k, omega (arith, below, length-map tiles f), get_or-map f tiles k t (f t) below ∙ ap f here)

pub own_not_void : (m : Mosaic) (c : Corner) (e : ℕ) (s : ℤ) → IsMosaic m → e < m.side * m.side → IsSampleOf m c e s → is_void s ≡ false → is_void_at_index m c e ≡ false
own_not_void m c e s valid below own ground = by (samples_of m c) refl own
  where
    by : (o : Option (List ℤ)) → samples_of m c ≡ o → IsSomeAnd o (λ l. slice_get l e ≡ Some s) → is_void_at_index m c e ≡ false
    by None found is = absurd is
    by (Some samples) found is =
        let (t, (there, (same, whole))) = tile_among c m.tiles samples found in
        let corner = corner_is m t.corner valid (listed m t there) in
        let p = point_of m.side t.corner e in
        let index = index_of_point m.side t.corner e (some_edge m.side valid.side_low) corner below in
        let held : holds m.side t.corner p ≡ true = (holds_is m.side t.corner p valid.side_low corner).1 (held_at m.side t.corner p e index) in
        let value : sample_at m.side t p ≡ s = ap₂ (λ (l : List ℤ) (i : ℕ). get_or l i void) whole (index_is m.side t.corner p e index) ∙ get_or_from_slice_get samples e s void is in
        let said = contains_map (λ u. sample_at m.side u p) (filter (λ u. holds m.side u.corner p) m.tiles) t (contains_filtered (λ u. holds m.side u.corner p) m.tiles t there held) in
        ap (λ (d : Corner). is_void_at_index m d e) (sym same)
        ∙ seam_is (map (λ u. sample_at m.side u p) (filter (λ u. holds m.side u.corner p) m.tiles)) (sample_at m.side t p) said (ap is_void value ∙ ground)

-- one of the samples that were read at once
pub sample_of_part : (m : Mosaic) (c : Corner) (first k : ℕ) (own : List ℤ) (s : ℤ) → IsMosaic m → first + length own ≤ m.side * m.side → AreSamplesOf m c first own
    → k < length own → s ≡ get_or own k s → IsSampleOf m c (first + k) s
sample_of_part m c first k own s valid within are below here = by (samples_of m c) refl are
  where
    by : (o : Option (List ℤ)) → samples_of m c ≡ o → IsSomeAnd o (λ all. slice_range all first (first + length own) ≡ own) → IsSomeAnd (samples_of m c) (λ all. slice_get all (first + k) ≡ Some s)
    by None found is = absurd is
    by (Some all) found is =
        let long : length all ≡ m.side * m.side = whole_tile m.side c m.tiles all valid.tiles found in
        let count : k < first + length own - first = omega arith in
        let value : get_or all (first + k) s ≡ s = sym (get_or-take (first + length own - first) (drop first all) k s count ∙ get_or-drop first all k s) ∙ ap (λ (l : List ℤ). get_or l k s) is ∙ sym here in
        subst (λ (o : Option (List ℤ)). IsSomeAnd o (λ l. slice_get l (first + k) ≡ Some s)) (sym found)
        (slice_get-get_or all (first + k) s (omega (arith, long)) ∙ ap (λ (x : ℤ). Some x) value)

-- A 16-bit number stays the same when the code passes it.
plain : (x : ℤ) → IsSample x → to_z w16 (of_z w16 x) ≡ x
plain x fits = omega (arith, ints, fits.0, fits.1)

pub sample_passed : (m : Mosaic) (c : Corner) (first k : ℕ) (own : List ℤ) → IsMosaic m → first + length own ≤ m.side * m.side → AreSamplesOf m c first own → All IsSample own
    → k < length own → IsSampleOf m c (first + k) (to_z w16 (of_z w16 (get_or own k (pos 0))))
sample_passed m c first k own valid within are fit below =
    let x : ℤ = get_or own k (pos 0) in
    subst (λ (z : ℤ). IsSampleOf m c (first + k) z) (sym (plain x (fit k (pos 0) below))) (sample_of_part m c first k own x valid within are below (get_or_default own k (pos 0) x below))
