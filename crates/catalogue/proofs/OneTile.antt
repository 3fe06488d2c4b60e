-- The sample of a point in one tile, by the tile's corner and the point's index.
use Rattle.catalogue.proofs.Prelude.{All, Contains, Corner, Holds, IsIndexOf, IsMosaic, IsSampleOf, IsSomeAnd, IsTile, IsTrue, List, Mosaic, None, Option, Point, Some, ℕ, ℤ, ap, cond, corners_of, false, false_from_ne_true, false≢true, get_or_from_slice_get, held_at, holds, holds_is, index_is, index_of, is_corner, is_present, is_some, option_map, refl, sample_in, samples_of, slice_get, slice_index_or, sym, true, void, ◌∙◌, ◌≡◌}
use Rattle.std.proofs.lemmas.List.Elements.{All-map, All-contains, All-weaker}
use Rattle.catalogue.proofs.Mosaics.{corner_of}
use Rattle.catalogue.proofs.Presence.{present_iff, some-samples}

-- Each tile's corner is in the range of corners.
pub corners_are : (m : Mosaic) → IsMosaic m → All (λ c. IsTrue (is_corner c)) (corners_of m)
corners_are m valid = All-map (λ c. IsTrue (is_corner c)) corner_of m.tiles (All-weaker (IsTile m.side) (λ t. IsTrue (is_corner t.corner)) (λ t tile. tile.corner) m.tiles valid.tiles)

pub corner_is : (m : Mosaic) (c : Corner) → IsMosaic m → Contains (corners_of m) c → IsTrue (is_corner c)
corner_is m c valid there = All-contains (λ d. IsTrue (is_corner d)) (corners_of m) c (corners_are m valid) there

none_of : (o : Option (List ℤ)) → is_some o ≡ false → o ≡ None
none_of None e = refl
none_of (Some l) e = absurd (false≢true (sym e))

-- A tile that isn't present gives no sample.
pub sample_in-absent : (m : Mosaic) (c : Corner) (p : Point) → (Contains (corners_of m) c → ⊥) → sample_in m c p ≡ None
sample_in-absent m c p absent =
    let none : samples_of m c ≡ None = none_of (samples_of m c) (some-samples c m.tiles ∙ false_from_ne_true (is_present m c) (λ there. absent ((present_iff m c).0 there))) in
    rw none (elim (holds m.side c p) as (λ b. cond b (option_map (λ (l : List ℤ). slice_index_or l (index_of m.side c p) void) None) None ≡ None) [ true ↦ refl | false ↦ refl ])

-- A tile without the point gives no sample.
pub sample_in-outside : (m : Mosaic) (c : Corner) (p : Point) → IsMosaic m → IsTrue (is_corner c) → (Holds m.side c p → ⊥) → sample_in m c p ≡ None
sample_in-outside m c p valid corner outside =
    let out : holds m.side c p ≡ false = false_from_ne_true (holds m.side c p) (λ within. outside ((holds_is m.side c p valid.side_low corner).0 within)) in
    rw out refl

some_at : (o : Option (List ℤ)) (e : ℕ) (s : ℤ) → IsSomeAnd o (λ l. slice_get l e ≡ Some s) → option_map (λ (l : List ℤ). slice_index_or l e void) o ≡ Some s
some_at None e s h = absurd h
some_at (Some l) e s h = ap (λ (x : ℤ). Some x) (get_or_from_slice_get l e s void h)

-- A present tile with the point gives the sample at its index.
pub sample_in-read : (m : Mosaic) (c : Corner) (p : Point) (e : ℕ) (s : ℤ) → IsMosaic m → IsIndexOf m.side c p e → IsSampleOf m c e s → sample_in m c p ≡ Some s
sample_in-read m c p e s valid index read =
    let within : holds m.side c p ≡ true = (holds_is m.side c p valid.side_low index.corner).1 (held_at m.side c p e index) in
    rw (within, index_is m.side c p e index) (some_at (samples_of m c) e s read)
