-- The tiles that have a point are among the four next to it. The test filters these four, and leaves the tiles with the
-- point in the order of tiles.
use Rattle.std.proofs.Common.{rules}
use Rattle.std.proofs.Common.{◌≡◌, ◌∙◌, ℕ, ◌+◌, ◌-◌, ◌/◌, ◌<◌, ◌≤◌, ◌⊎◌, inl, inr, ℤ, pos, negsuc, ◌+ℤ◌, ◌*◌, ◌-ℤ◌, ◌*ℤ◌, ◌≤ℤ◌, ◌<ℤ◌, int_lt, ◌↔◌, Bool, true, IsTrue, ◌&&◌, List, [], ◌∷◌, ◌++◌, length, map, get_or, drop, refl, sym, ap, ap₂, append_assoc, append-nil, add-one, drop-cons, arith}
use Rattle.std.specs.List.{Contains, AllPairs, AllAdjacentBelow, filter}
use Rattle.lattice.proofs.Prelude.{Corner, Holds, IsBefore, Point, corner_at, holds, ints, is_along, is_corner}
use Rattle.std.proofs.lemmas.Bool.{and_parts, and_from, cond-true, cond-false, cond_both, false_from_ne_true, cases_Bool}
use Rattle.std.proofs.lemmas.List.{drop_all}
use Rattle.std.proofs.lemmas.List.Elements.{All-nil, All-cons, All-contains, filter_passes}
use Rattle.std.proofs.lemmas.List.Kept.{AllPairs-cons, AllPairs-filter}
use Rattle.lattice.specs.LatticeLaws.{AreHolders}
use Rattle.lattice.specs.declared.holding.Degrees.{Degrees}
use Rattle.lattice.proofs.Along.{parts}
use Rattle.lattice.proofs.Filters.{contains_filtered}
use Rattle.lattice.proofs.Multiples.{product_plus, factor_less}
use Rattle.lattice.proofs.Samples.{holds_is, along_of_holds}

-- There is such a corner, and its tile has the point.
abbrev pub is_held : ℕ → Point → Corner → Bool
is_held n p c = is_corner c && holds n c p

pub held_is : (n : ℕ) (p : Point) (c : Corner) → 3 ≤ n → IsTrue (is_held n p c) ↔ Holds n c p
held_is n p c side = (
  λ h. let both = and_parts (is_corner c) (holds n c p) h in (holds_is n c p side both.0).0 both.1,
  λ h. and_from (is_corner c) (holds n c p) h.corner ((holds_is n c p side h.corner).1 h),
)

-- the four corners of two latitudes, south and north, and two longitudes, west and east
abbrev pub crossing : ℤ → ℤ → ℤ → ℤ → List Degrees
crossing south north west east =
    record { lat = south; lon = west } ∷ record { lat = south; lon = east } ∷ record { lat = north; lon = west } ∷ record { lat = north; lon = east } ∷ []

-- the four corners around a point, where the last has this latitude and longitude
abbrev pub around : ℤ → ℤ → List Degrees
around lat lon = crossing (lat -ℤ pos 1) lat (lon -ℤ pos 1) lon

pub crossing_is : (south north west east lat lon : ℤ) → north ≡ lat → east ≡ lon → south ≡ lat -ℤ pos 1 → west ≡ lon -ℤ pos 1 →
    crossing south north west east ≡ around lat lon
crossing_is south north west east lat lon n e s w = search rules

unfoldable pub kept : ℕ → Point → List Degrees → List Corner
kept n p cs = filter (is_held n p) (map corner_at cs)

turn : (cs : List Degrees) (i : ℕ) (d : Degrees) → i < length cs → drop i cs ≡ get_or cs i d ∷ drop (i + 1) cs
turn cs i d small = rw (add-one, drop-cons cs i d) refl

-- one pass through the loop
pub taken : (n : ℕ) (p : Point) (cs : List Degrees) (i : ℕ) (d : Degrees) (found whole : List Corner) (c : Corner) → 3 ≤ n → i < length cs →
    Holds n (corner_at (get_or cs i d)) p × (c ≡ corner_at (get_or cs i d)) → found ++ kept n p (drop i cs) ≡ whole →
    (found ++ c ∷ []) ++ kept n p (drop (i + 1) cs) ≡ whole
unfolding kept
taken n p cs i d found whole c side small held so_far =
    let here = corner_at (get_or cs i d) in
    let rest = kept n p (drop (i + 1) cs) in
    let more : kept n p (drop i cs) ≡ here ∷ rest = ap (kept n p) (turn cs i d small) ∙ cond-true (is_held n p here) (here ∷ rest) rest ((held_is n p here side).1 held.0) in
    append_assoc found (c ∷ []) rest ∙ ap (λ (t : Corner). found ++ t ∷ rest) held.1 ∙ ap (λ (s : List Corner). found ++ s) (sym more) ∙ so_far

pub passed : (n : ℕ) (p : Point) (cs : List Degrees) (i : ℕ) (d : Degrees) (found whole : List Corner) → 3 ≤ n → i < length cs →
    (Holds n (corner_at (get_or cs i d)) p → ⊥) → found ++ kept n p (drop i cs) ≡ whole → found ++ kept n p (drop (i + 1) cs) ≡ whole
unfolding kept
passed n p cs i d found whole side small far so_far =
    let here = corner_at (get_or cs i d) in
    let rest = kept n p (drop (i + 1) cs) in
    let not_held = false_from_ne_true (is_held n p here) (λ h. far ((held_is n p here side).0 h)) in
    let more : kept n p (drop i cs) ≡ rest = ap (kept n p) (turn cs i d small) ∙ cond-false (is_held n p here) (here ∷ rest) rest not_held in
    ap (λ (s : List Corner). found ++ s) (sym more) ∙ so_far

-- If v lies between the edges of a tile, the tile begins at the last whole degree up to v, or one before it.
near : (m : ℕ) (last corner v : ℤ) → 0 < m → (last *ℤ pos m) ≤ℤ v → v <ℤ (last *ℤ pos m +ℤ pos m) → IsTrue (is_along (pos m) corner v) →
    (corner ≡ last -ℤ pos 1) ⊎ (corner ≡ last)
near m last corner v some from to along =
    let within = parts m corner v along in
    let after_last : (last +ℤ pos 1) *ℤ pos m ≡ last *ℤ pos m +ℤ pos (1 * m) = product_plus last 1 m in
    let after_corner : (corner +ℤ pos 2) *ℤ pos m ≡ corner *ℤ pos m +ℤ pos (2 * m) = product_plus corner 2 m in
    let below : corner <ℤ (last +ℤ pos 1) = factor_less corner (last +ℤ pos 1) m (omega (arith, ints)) in
    let above : last <ℤ (corner +ℤ pos 2) = factor_less last (corner +ℤ pos 2) m (omega (arith, ints)) in
    elim (cases_Bool (int_lt corner last)) [
      | inl less ↦ inl (grind (arith, ints))
      | inr more ↦ inr (grind (arith, ints))
    ]

pub among : (lat lon : ℤ) (c : Corner) → (c.lat ≡ lat -ℤ pos 1) ⊎ (c.lat ≡ lat) → (c.lon ≡ lon -ℤ pos 1) ⊎ (c.lon ≡ lon) → Contains (map corner_at (around lat lon)) c
among lat lon c (inl south) (inl west) = (0, omega arith, ap₂ (λ (a b : ℤ). record { lat = a; lon = b }) (sym south) (sym west))
among lat lon c (inl south) (inr east) = (1, omega arith, ap₂ (λ (a b : ℤ). record { lat = a; lon = b }) (sym south) (sym east))
among lat lon c (inr north) (inl west) = (2, omega arith, ap₂ (λ (a b : ℤ). record { lat = a; lon = b }) (sym north) (sym west))
among lat lon c (inr north) (inr east) = (3, omega arith, ap₂ (λ (a b : ℤ). record { lat = a; lon = b }) (sym north) (sym east))

-- The filtered corners are exactly the holders.
pub kept_exactly : (n : ℕ) (p : Point) (lat lon : ℤ) → 3 ≤ n →
    (lat *ℤ pos (n - 1)) ≤ℤ p.y → p.y <ℤ (lat *ℤ pos (n - 1) +ℤ pos (n - 1)) →
    (lon *ℤ pos (n - 1)) ≤ℤ p.x → p.x <ℤ (lon *ℤ pos (n - 1) +ℤ pos (n - 1)) →
    (c : Corner) → Contains (kept n p (around lat lon)) c ↔ Holds n c p
unfolding kept
kept_exactly n p lat lon side y_from y_to x_from x_to c = (
  λ has. (held_is n p c side).0 (All-contains (λ a. is_held n p a ≡ true) (kept n p (around lat lon)) c (filter_passes (is_held n p) (map corner_at (around lat lon))) has),
  λ held.
      let along = along_of_holds n c p held in
      let here = among lat lon c (near (n - 1) lat c.lat p.y (omega arith) y_from y_to along.0) (near (n - 1) lon c.lon p.x (omega arith) x_from x_to along.1) in
      contains_filtered (is_held n p) (map corner_at (around lat lon)) c here ((held_is n p c side).1 held),
)

around_rises : (lat lon : ℤ) → AllPairs IsBefore (map corner_at (around lat lon))
around_rises lat lon = search rules

pub kept_in_order : (n : ℕ) (p : Point) (lat lon : ℤ) → AllAdjacentBelow IsBefore (kept n p (around lat lon)) (length (kept n p (around lat lon)))
unfolding kept
kept_in_order n p lat lon =
    let pairs : AllPairs IsBefore (kept n p (around lat lon)) = AllPairs-filter IsBefore (is_held n p) (map corner_at (around lat lon)) (around_rises lat lon) in
    λ k d small. pairs k (k + 1) d (omega arith) small

pub all_kept : (n : ℕ) (p : Point) (cs : List Degrees) (found : List Corner) (i : ℕ) → length cs ≤ i → found ++ kept n p (drop i cs) ≡ kept n p cs → found ≡ kept n p cs
unfolding kept
all_kept n p cs found i all so_far = sym (append-nil found) ∙ ap (λ (rest : List Degrees). found ++ kept n p rest) (sym (drop_all i cs all)) ∙ so_far

-- the last whole degree up to a value
floor : (m : ℕ) (v : ℤ) → 0 < m → (q : ℤ) × ((q *ℤ pos m) ≤ℤ v) × (v <ℤ (q *ℤ pos m +ℤ pos m))
floor m (pos a) some = (pos (a / m), grind (arith, ints), grind (arith, ints))
floor m (negsuc a) some = (negsuc (a / m), grind (arith, ints), grind (arith, ints))

no_longer : (test : Corner → Bool) (xs : List Corner) → length (filter test xs) ≤ length xs
no_longer test [] = omega arith
no_longer test (x ∷ xs) =
    let rest : length (filter test xs) ≤ length xs = no_longer test xs in
    cond_both (test x) (x ∷ filter test xs) (filter test xs) (λ (l : List Corner). length l ≤ length (x ∷ xs)) (λ _. omega arith) (λ _. omega arith)

pub at_most_four : (n : ℕ) (p : Point) → 3 ≤ n → (corners : List Corner) × (AreHolders n p corners × (length corners ≤ 4))
unfolding kept
at_most_four n p side =
    let lat = floor (n - 1) p.y (omega arith) in
    let lon = floor (n - 1) p.x (omega arith) in (
      kept n p (around lat.0 lon.0),
      (
        record { exactly = kept_exactly n p lat.0 lon.0 side lat.1 lat.2 lon.1 lon.2; in_order = kept_in_order n p lat.0 lon.0 },
        no_longer (is_held n p) (map corner_at (around lat.0 lon.0)),
      ),
    )
