-- Which corners are present, as a test and in the list of corners.
use Rattle.catalogue.proofs.Prelude.{Adjacent, AllAfter, Bool, Contains, Corner, IsMosaic, IsTrue, List, Mosaic, Rising, Some, Tile, [], adjacent_from, ap, arith, cond, corners_of, false, false≢true, is_listed, is_present, is_some, list_any, map, or_left, or_right, refl, same_corner, same_from, same_says, samples_among, suc, sym, true, zero, ◌||◌, ◌↔◌, ◌∙◌, ◌∷◌, ◌≡◌}
use Rattle.catalogue.proofs.Mosaics.{corner_of, rising_tiles}

pub listed_from : (c : Corner) (corners : List Corner) → Contains corners c → is_listed c corners ≡ true
listed_from c [] (k, below, here) = absurd (omega arith)
listed_from c (d ∷ ds) (zero, below, here) = or_left (same_corner d c) (is_listed c ds) (same_from d c here)
listed_from c (d ∷ ds) (suc k, below, here) = or_right (same_corner d c) (is_listed c ds) (listed_from c ds (k, omega arith, here))

pub listed_says : (c : Corner) (corners : List Corner) → is_listed c corners ≡ true → Contains corners c
listed_says c [] none = absurd (false≢true none)
listed_says c (d ∷ ds) some = by (same_corner d c) refl some (listed_says c ds)
  where
    by : (b : Bool) → same_corner d c ≡ b → (b || is_listed c ds) ≡ true → (is_listed c ds ≡ true → Contains ds c) → Contains (d ∷ ds) c
    by true same e later = (0, omega arith, same_says d c same)
    by false other e later = let rest = later e in (suc rest.0, omega arith, rest.2)

pub present-listed : (c : Corner) (tiles : List Tile) → list_any (λ t. same_corner t.corner c) tiles ≡ is_listed c (map corner_of tiles)
present-listed c [] = refl
present-listed c (t ∷ ts) = ap (λ b. same_corner t.corner c || b) (present-listed c ts)

-- A tile is present exactly if its corner is in the list of corners.
pub present_iff : (m : Mosaic) (c : Corner) → IsTrue (is_present m c) ↔ Contains (corners_of m) c
present_iff m c = (
  λ present. listed_says c (corners_of m) (sym (present-listed c m.tiles) ∙ present),
  λ there. present-listed c m.tiles ∙ listed_from c (corners_of m) there,
)

-- A corner has samples exactly if it is in the list.
pub some-samples : (c : Corner) (tiles : List Tile) → is_some (samples_among tiles c) ≡ list_any (λ t. same_corner t.corner c) tiles
some-samples c [] = refl
some-samples c (t ∷ ts) = elim (same_corner t.corner c) as (λ b. is_some (cond b (Some t.samples) (samples_among ts c)) ≡ (b || list_any (λ x. same_corner x.corner c) ts)) [
  | true ↦ refl
  | false ↦ some-samples c ts
]

after-map : (c : Corner) (tiles : List Tile) → AllAfter corner_of c tiles → AllAfter (λ p. p) c (map corner_of tiles)
after-map c [] h = tt
after-map c (t ∷ ts) h = (h.0, after-map c ts h.1)

rising-map : (tiles : List Tile) → Rising corner_of tiles → Rising (λ p. p) (map corner_of tiles)
rising-map [] h = tt
rising-map (t ∷ ts) h = (after-map t.corner ts h.0, rising-map ts h.1)

pub corners_rise : (m : Mosaic) → IsMosaic m → Rising (λ p. p) (corners_of m)
corners_rise m valid = rising-map m.tiles (rising_tiles m valid)

pub corners_in_order : (m : Mosaic) → IsMosaic m → Adjacent (λ p. p) (corners_of m)
corners_in_order m valid = adjacent_from (λ p. p) (corners_of m) (corners_rise m valid)

-- ---- a test of each tile's corner
pub any_from : (test : Corner → Bool) (tiles : List Tile) (c : Corner) → Contains (map corner_of tiles) c → test c ≡ true → list_any (λ t. test t.corner) tiles ≡ true
any_from test [] c (k, below, here) passes = absurd (omega arith)
any_from test (t ∷ ts) c (zero, below, here) passes = or_left (test t.corner) (list_any (λ u. test u.corner) ts) (ap test here ∙ passes)
any_from test (t ∷ ts) c (suc k, below, here) passes = or_right (test t.corner) (list_any (λ u. test u.corner) ts) (any_from test ts c (k, omega arith, here) passes)

pub any_says : (test : Corner → Bool) (tiles : List Tile) → list_any (λ t. test t.corner) tiles ≡ true → (c : Corner) × (Contains (map corner_of tiles) c × (test c ≡ true))
any_says test [] none = absurd (false≢true none)
any_says test (t ∷ ts) some = by (test t.corner) refl some (any_says test ts)
  where
    by : (b : Bool) → test t.corner ≡ b → (b || list_any (λ u. test u.corner) ts) ≡ true → (list_any (λ u. test u.corner) ts ≡ true → (c : Corner) × (Contains (map corner_of ts) c × (test c ≡ true)))
        → (c : Corner) × (Contains (map corner_of (t ∷ ts)) c × (test c ≡ true))
    by true passes e later = (t.corner, ((0, omega arith, refl), passes))
    by false fails e later = let rest = later e in (rest.0, ((suc rest.1.0.0, omega (arith, rest.1.0.1), rest.1.0.2), rest.1.1))
