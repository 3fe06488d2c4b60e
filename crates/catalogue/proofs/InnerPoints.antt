-- Only one tile has a point inside it, so no tiles disagree there.
use Rattle.catalogue.proofs.Prelude.{All, Corner, IsIndexOf, IsMosaic, IsTile, IsTrue, List, Mosaic, Point, Rising, Tile, ℕ, [], before_apart, differ, disagrees, false, false_from_ne_true, false≢true, filter, holds, holds_is, inner_only, is_before, is_corner, is_rim, map, rising-filter, sample_at, sym, true, ◌∙◌, ◌∷◌, ◌≡◌}
use Rattle.std.proofs.lemmas.List.Elements.{All-head, All-tail, All-filter, filter_passes}
use Rattle.catalogue.proofs.Mosaics.{corner_of, rising_tiles}

-- If tiles disagree at a point, two of them have it.
two_holders : (n : ℕ) (p : Point) (tiles : List Tile) → Rising corner_of tiles → All (IsTile n) tiles → All (λ t. holds n t.corner p ≡ true) tiles
    → differ (map (λ t. sample_at n t p) tiles) ≡ true
    → (c : Corner) × (d : Corner) × (IsTrue (is_before c d) × (IsTrue (is_corner c) × (holds n c p ≡ true)) × (IsTrue (is_corner d) × (holds n d p ≡ true)))
two_holders n p [] rising tiles held some = absurd (false≢true some)
two_holders n p (t ∷ []) rising tiles held some = absurd (false≢true some)
two_holders n p (t ∷ (u ∷ us)) rising tiles held some =
    let rest = All-tail (IsTile n) t (u ∷ us) tiles in
    let rest_held = All-tail (λ x. holds n x.corner p ≡ true) t (u ∷ us) held in (
      t.corner,
      u.corner,
      (
        rising.0.0,
        ((All-head (IsTile n) t (u ∷ us) tiles).corner, All-head (λ x. holds n x.corner p ≡ true) t (u ∷ us) held),
        ((All-head (IsTile n) u us rest).corner, All-head (λ x. holds n x.corner p ≡ true) u us rest_held),
      ),
    )

-- Tiles agree at a point inside a tile.
pub inner_agrees : (m : Mosaic) (c : Corner) (e : ℕ) (p : Point) → IsMosaic m → IsIndexOf m.side c p e → is_rim m.side e ≡ false → disagrees m p ≡ false
inner_agrees m c e p valid index inner = false_from_ne_true (disagrees m p) (λ some.
    let n = m.side in
    let two = two_holders n p (filter (λ t. holds n t.corner p) m.tiles)
    (rising-filter corner_of (λ t. holds n t.corner p) m.tiles (rising_tiles m valid))
    (All-filter (λ t. holds n t.corner p) (IsTile n) m.tiles valid.tiles)
    (filter_passes (λ (t : Tile). holds n t.corner p) m.tiles) some in
    let is = inner_only n c e p valid.side_low index inner in
    let first = is two.0 ((holds_is n two.0 p valid.side_low two.2.1.0).0 two.2.1.1) in
    let second = is two.1 ((holds_is n two.1 p valid.side_low two.2.2.0).0 two.2.2.1) in
    before_apart two.0 two.1 two.2.0 (first ∙ sym second))
