-- Points that one present tile has in common.
use Rattle.catalogue.proofs.Prelude.{Bool, Contains, Corner, Holds, IsMosaic, List, Mosaic, Point, Tile, ℕ, [], and_from, and_parts, corners_of, false, false_from_ne_true, false≢true, get_or, holds, holds_is, is_listed, length, list_any, map, or_left, or_right, refl, same_corner, same_from, same_says, share_tile, subst, sym, true, ◌&&◌, ◌<◌, ◌||◌, ◌∷◌, ◌≡◌}
use Rattle.catalogue.proofs.Mosaics.{corner_of}
use Rattle.catalogue.proofs.Presence.{listed_from, listed_says}
use Rattle.catalogue.proofs.OneTile.{corner_is}

module _ (n : ℕ) (p q : Point) where
  abbrev holds_both : Tile → Bool
  holds_both t = holds n t.corner p && holds n t.corner q

  any_from : (c : Corner) (tiles : List Tile) → is_listed c (map corner_of tiles) ≡ true → holds n c p ≡ true → holds n c q ≡ true → list_any holds_both tiles ≡ true
  any_from c [] none hp hq = absurd (false≢true none)
  any_from c (t ∷ ts) listed hp hq = by (same_corner t.corner c) refl listed (λ later. any_from c ts later hp hq)
    where
      by : (b : Bool) → same_corner t.corner c ≡ b → (b || is_listed c (map corner_of ts)) ≡ true → (is_listed c (map corner_of ts) ≡ true → list_any holds_both ts ≡ true) → list_any holds_both (t ∷ ts) ≡ true
      by true same there later =
          let is : c ≡ t.corner = sym (same_says t.corner c same) in
          or_left (holds_both t) (list_any holds_both ts) (and_from (holds n t.corner p) (holds n t.corner q) (subst (λ d. holds n d p ≡ true) is hp) (subst (λ d. holds n d q ≡ true) is hq))
      by false apart there later = or_right (holds_both t) (list_any holds_both ts) (later there)

  any_says : (tiles : List Tile) → list_any holds_both tiles ≡ true → (c : Corner) × ((is_listed c (map corner_of tiles) ≡ true) × (holds n c p ≡ true) × (holds n c q ≡ true))
  any_says [] none = absurd (false≢true none)
  any_says (t ∷ ts) some = by (holds_both t) refl some (any_says ts)
    where
      by : (b : Bool) → holds_both t ≡ b → (b || list_any holds_both ts) ≡ true
          → (list_any holds_both ts ≡ true → (c : Corner) × ((is_listed c (map corner_of ts) ≡ true) × (holds n c p ≡ true) × (holds n c q ≡ true)))
          → (c : Corner) × ((is_listed c (map corner_of (t ∷ ts)) ≡ true) × (holds n c p ≡ true) × (holds n c q ≡ true))
      by true here e later =
          let both = and_parts (holds n t.corner p) (holds n t.corner q) here in
          (t.corner, (or_left (same_corner t.corner t.corner) (is_listed t.corner (map corner_of ts)) (same_from t.corner t.corner refl), both.0, both.1))
      by false not_here e later =
          let rest = later e in
          (rest.0, (or_right (same_corner t.corner rest.0) (is_listed rest.0 (map corner_of ts)) rest.1.0, rest.1.1, rest.1.2))

pub shared_from : (m : Mosaic) (p q : Point) (c : Corner) → IsMosaic m → Contains (corners_of m) c → Holds m.side c p → Holds m.side c q → share_tile m p q ≡ true
shared_from m p q c valid there hp hq =
    any_from m.side p q c m.tiles (listed_from c (corners_of m) there)
    ((holds_is m.side c p valid.side_low hp.corner).1 hp) ((holds_is m.side c q valid.side_low hq.corner).1 hq)

pub shared_says : (m : Mosaic) (p q : Point) → IsMosaic m → share_tile m p q ≡ true → (c : Corner) × (Contains (corners_of m) c × Holds m.side c p × Holds m.side c q)
shared_says m p q valid shared =
    let found = any_says m.side p q m.tiles shared in
    let there = listed_says found.0 (corners_of m) found.1.0 in
    let corner = corner_is m found.0 valid there in
    (found.0, (there, (holds_is m.side found.0 p valid.side_low corner).0 found.1.1, (holds_is m.side found.0 q valid.side_low corner).0 found.1.2))

-- No present tile has both p and q.
pub not_shared : (m : Mosaic) (p q : Point) (cs : List Corner) → IsMosaic m → ((c : Corner) → Holds m.side c p → Contains cs c)
    → ((k : ℕ) (d : Corner) → k < length cs → Contains (corners_of m) (get_or cs k d) → Holds m.side (get_or cs k d) q → ⊥) → share_tile m p q ≡ false
not_shared m p q cs valid holders none = false_from_ne_true (share_tile m p q) (λ shared.
    let found = shared_says m p q valid shared in
    let c = found.0 in
    let at = holders c found.1.1 in
    none at.0 c at.1 (subst (λ d. Contains (corners_of m) d) (sym at.2) found.1.0) (subst (λ d. Holds m.side d q) (sym at.2) found.1.2))
