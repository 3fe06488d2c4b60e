-- The number of points at which tiles disagree, counted tile by tile: each point counts at the first present tile that
-- has it.
use Rattle.std.proofs.Common.{rules}
use Rattle.std.proofs.Common.{◌≡◌, ℕ, zero, suc, ◌+◌, ◌-◌, ◌*◌, ◌<◌, ℤ, pos, negsuc, ◌+ℤ◌, Bool, true, false, cond, ◌&&◌, ◌||◌, IsTrue, List, [], ◌∷◌, ◌++◌, length, map, refl, sym, ◌∙◌, ap, ap₂, subst, arith, add-one, add-zero, zero-add, inl, inr}
use Rattle.std.specs.Prelude.{Some, None, Result, Ok, Err, IfOk, sum_by, count_by, All, nat_lt}
use Rattle.catalogue.proofs.Prelude.{All-head, All-tail, AllAfter, Corner, Holds, IsMosaic, IsSeamCount, Mosaic, Point, Refusal, Rising, Tile, corners_before, corners_of, differ, disagrees, filter, holds, index_of, is_corner, is_listed, is_rim, point_of, rim_index, rim_number, same_comm, same_corner, same_from, same_point, same_says, sample_at}
use Rattle.std.proofs.lemmas.List.{length-append}
use Rattle.std.proofs.lemmas.List.Sums.{sum_by-append}
use Rattle.std.proofs.lemmas.Bool.{and_parts, and_from, and_right, or_left, cases_lt, false≢true, lt-ltb, le-ltb}
use Rattle.std.proofs.Math.Bool.{and-true}
use Rattle.lattice.proofs.RimNumbers.{rim_index_is, rim_index_of_number, number_below}
use Rattle.lattice.proofs.SamePoints.{same_point_says, same_point_from}
use Rattle.lattice.proofs.Samples.{holds_is, index_of_point_is, point_of_held, point_of_index, index_of_below, index_of_held}
use Rattle.catalogue.specs.SeamCounting.{is_first, present_holders, is_own_seam, own_seams_below, seams_of, seams_before}
use Rattle.catalogue.proofs.InnerPoints.{inner_agrees}
use Rattle.catalogue.proofs.Mosaics.{corner_of}
use Rattle.catalogue.proofs.Presence.{corners_rise}
use Rattle.catalogue.proofs.OneTile.{corners_are}
use Rattle.catalogue.proofs.Holders.{itself, not_listed}
use Rattle.catalogue.proofs.PresentHolders.{holders_filtered, listed-filter}
use Rattle.catalogue.proofs.Rows.{corner_at, named, before-step, before-first, before-row, before-last}

-- the rim point with this number of the corner's tile
abbrev rim_point : Mosaic → Corner → ℕ → Point
rim_point m c k = point_of m.side c (rim_index m.side k)

-- ---- one pass of each loop
pub tile_step : (m : Mosaic) (c : Corner) (e count new : ℕ) (answer : Bool) → count ≡ own_seams_below m c e → answer ≡ is_own_seam m c (rim_point m c e)
    → new ≡ count + cond answer 1 0 → new ≡ own_seams_below m c (e + 1)
unfolding own_seams_below
tile_step m c e count new answer so_far told is = search rules

pub tile_start : (m : Mosaic) (c : Corner) → 0 ≡ own_seams_below m c 0
unfolding own_seams_below
tile_start m c = refl

module _ (m : Mosaic) (valid : IsMosaic m) (lat lon : ℤ) where
  seams-next : seams_before m lat (lon +ℤ pos 1) ≡ seams_before m lat lon + sum_by (seams_of m) (cond (is_listed (corner_at lat lon) (corners_of m)) (corner_at lat lon ∷ []) [])
  seams-next =
      ap (sum_by (seams_of m)) (before-step (corners_of m) (corners_rise m valid) lat lon (corners_before lat lon (corners_of m)) refl)
      ∙ sum_by-append (seams_of m) (corners_before lat lon (corners_of m)) (cond (is_listed (corner_at lat lon) (corners_of m)) (corner_at lat lon ∷ []) [])

  pub seams_some : (c : Corner) → Some c ≡ named (corners_of m) (corners_rise m valid) lat lon → seams_before m lat (lon +ℤ pos 1) ≡ seams_before m lat lon + seams_of m c
  seams_some c is = seams-next ∙ by (is_listed (corner_at lat lon) (corners_of m)) is
    where
      by : (b : Bool) → Some c ≡ cond b (Some (corner_at lat lon)) None → seams_before m lat lon + sum_by (seams_of m) (cond b (corner_at lat lon ∷ []) []) ≡ seams_before m lat lon + seams_of m c
      by true e = let this : corner_at lat lon ≡ c = cc in ap (λ n. seams_before m lat lon + n) (zero-add (seams_of m (corner_at lat lon)) ∙ ap (seams_of m) this)
      by false e = absurd (cc)

  pub seams_none : None ≡ named (corners_of m) (corners_rise m valid) lat lon → seams_before m lat (lon +ℤ pos 1) ≡ seams_before m lat lon
  seams_none is = seams-next ∙ by (is_listed (corner_at lat lon) (corners_of m)) is
    where
      by : (b : Bool) → None ≡ cond b (Some (corner_at lat lon)) None → seams_before m lat lon + sum_by (seams_of m) (cond b (corner_at lat lon ∷ []) []) ≡ seams_before m lat lon
      by true e = absurd (cc)
      by false e = add-zero (seams_before m lat lon)

-- The count for a tile is what its corner adds.
pub seams_ok : (m : Mosaic) (valid : IsMosaic m) (lat lon : ℤ) (c : Corner) (result : Result ℕ Refusal) → Some c ≡ named (corners_of m) (corners_rise m valid) lat lon
    → IfOk result (λ n. n ≡ seams_of m c) → IfOk result (λ n. seams_before m lat (lon +ℤ pos 1) ≡ seams_before m lat lon + n)
seams_ok m valid lat lon c (Ok n) is counted = seams_some m valid lat lon c is ∙ ap (λ k. seams_before m lat lon + k) (sym counted)
seams_ok m valid lat lon c (Err r) is counted = tt

-- ---- sums over lists
sum_by-cons : {X : Type 0} (f : X → ℕ) (x : X) (xs : List X) → sum_by f (x ∷ xs) ≡ f x + sum_by f xs
sum_by-cons f x xs = sum_by-append f (x ∷ []) xs ∙ ap (λ n. n + sum_by f xs) (zero-add (f x))

count-append : (f : Point → Bool) (xs ys : List Point) → count_by f (xs ++ ys) ≡ count_by f xs + count_by f ys
count-append f xs ys = sum_by-append (λ (p : Point). cond (f p) 1 0) xs ys

-- ---- the points of one tile
-- the chosen ones among the first points
chosen : (Point → Bool) → (ℕ → Point) → ℕ → List Point
chosen own at zero = []
chosen own at (suc e) = chosen own at e ++ cond (own (at e)) (at e ∷ []) []

length-chosen : (m : Mosaic) (c : Corner) (k : ℕ) → length (chosen (is_own_seam m c) (rim_point m c) k) ≡ own_seams_below m c k
unfolding chosen own_seams_below
length-chosen m c zero = refl
length-chosen m c (suc e) =
    length-append (chosen (is_own_seam m c) (rim_point m c) e) (cond (is_own_seam m c (rim_point m c e)) (rim_point m c e ∷ []) [])
    ∙ ap₂ (λ (a b : ℕ). a + b) (length-chosen m c e) (one (is_own_seam m c (rim_point m c e)))
  where
    one : (b : Bool) → length (cond b (rim_point m c e ∷ []) []) ≡ cond b 1 0
    one true = refl
    one false = refl

-- 1 if all three tests are true, else 0
abbrev tally : Bool → Bool → Bool → ℕ
tally own within early = cond (own && (within && early)) 1 0

tally-late : (own within : Bool) → tally own within false ≡ 0
tally-late true true = refl
tally-late true false = refl
tally-late false within = refl

tally-outside : (own early later : Bool) → tally own false early ≡ tally own false later
tally-outside true early later = refl
tally-outside false early later = refl

tally-here : (own : Bool) → 0 + cond own 1 0 ≡ tally own true true
tally-here true = refl
tally-here false = refl

-- A chosen point is counted once if it is among the points, else not.
module _ (own : Point → Bool) (at : ℕ → Point) (p : Point) (within : Bool) (i : ℕ) (is_at : within ≡ true → at i ≡ p) where
  count-one : (e : ℕ) (o : Bool) (s : Bool) → same_point p (at e) ≡ s → count_by (same_point p) (cond o (at e ∷ []) []) ≡ cond (o && s) 1 0
  count-one e true true is = rw is refl
  count-one e true false is = rw is refl
  count-one e false s is = refl

  count-chosen : (k : ℕ) → ((e : ℕ) → e < k → p ≡ at e → (within ≡ true) × (i ≡ e)) → count_by (same_point p) (chosen own at k) ≡ tally (own p) within (nat_lt i k)
  unfolding chosen
  count-chosen zero at_index = sym (ap (tally (own p) within) (le-ltb i 0 (omega arith)) ∙ tally-late (own p) within)
  count-chosen (suc e) at_index =
      count-append (same_point p) (chosen own at e) (cond (own (at e)) (at e ∷ []) [])
      ∙ by (same_point p (at e)) refl (count-chosen e (λ j below is. at_index j (omega arith) is))
    where
      by : (s : Bool) → same_point p (at e) ≡ s → count_by (same_point p) (chosen own at e) ≡ tally (own p) within (nat_lt i e)
          → count_by (same_point p) (chosen own at e) + count_by (same_point p) (cond (own (at e)) (at e ∷ []) []) ≡ tally (own p) within (nat_lt i (suc e))
      by true same rest =
          let is : p ≡ at e = same_point_says p (at e) same in
          let this = at_index e (omega arith) is in
          let none : count_by (same_point p) (chosen own at e) ≡ 0 = rest ∙ ap (tally (own p) within) (le-ltb i e (omega (arith, this.1))) ∙ tally-late (own p) within in
          let one : ◌≡◌ {A = ℕ} (count_by (same_point p) (cond (own (at e)) (at e ∷ []) [])) (cond (own p) 1 0) = count-one e (own (at e)) true same ∙ and_yes (own (at e)) ∙ ap (λ (q : Point). cond (own q) 1 0) (sym is) in
          ap₂ (λ (a b : ℕ). a + b) none one
          ∙ tally-here (own p)
          ∙ sym (ap₂ (tally (own p)) this.0 (lt-ltb i (suc e) (omega (arith, this.1))))
        where
          and_yes : (o : Bool) → ◌≡◌ {A = ℕ} (cond (o && true) 1 0) (cond o 1 0)
          and_yes true = refl
          and_yes false = refl
      by false other rest =
          let none : count_by (same_point p) (cond (own (at e)) (at e ∷ []) []) ≡ 0 = count-one e (own (at e)) false other ∙ and_no (own (at e)) in
          ap₂ (λ (a b : ℕ). a + b) rest none ∙ add-zero (tally (own p) within (nat_lt i e)) ∙ later within refl
        where
          and_no : (o : Bool) → ◌≡◌ {A = ℕ} (cond (o && false) 1 0) 0
          and_no true = refl
          and_no false = refl

          later : (w : Bool) → within ≡ w → tally (own p) within (nat_lt i e) ≡ tally (own p) within (nat_lt i (suc e))
          later true held =
              let apart : i ≡ e → ⊥ = λ here. false≢true (sym other ∙ same_point_from p (at e) (sym (is_at held) ∙ ap at here)) in
              ap (tally (own p) within) (elim (cases_lt i e) [
                | inl below ↦ lt-ltb i e below ∙ sym (lt-ltb i (suc e) (omega arith))
                | inr beyond ↦ le-ltb i e beyond ∙ sym (le-ltb i (suc e) (omega (arith, apart)))
              ])
          later false out = rw out (tally-outside (own p) (nat_lt i e) (nat_lt i (suc e)))

-- ---- the points of all tiles
all_chosen : Mosaic → List Corner → List Point
all_chosen m [] = []
all_chosen m (c ∷ cs) = chosen (is_own_seam m c) (rim_point m c) (4 * (m.side - 1)) ++ all_chosen m cs

length-all_chosen : (m : Mosaic) (cs : List Corner) → length (all_chosen m cs) ≡ sum_by (seams_of m) cs
unfolding all_chosen
length-all_chosen m [] = refl
length-all_chosen m (c ∷ cs) =
    length-append (chosen (is_own_seam m c) (rim_point m c) (4 * (m.side - 1))) (all_chosen m cs)
    ∙ ap₂ (λ (a b : ℕ). a + b) (length-chosen m c (4 * (m.side - 1))) (length-all_chosen m cs)
    ∙ sym (sum_by-cons (seams_of m) c cs)

module _ (m : Mosaic) (valid : IsMosaic m) (p : Point) where
  count-tile : (c : Corner) → IsTrue (is_corner c) → count_by (same_point p) (chosen (is_own_seam m c) (rim_point m c) (4 * (m.side - 1))) ≡ cond (is_own_seam m c p && holds m.side c p) 1 0
  count-tile c corner =
      count-chosen (is_own_seam m c) (rim_point m c) p (holds m.side c p && is_rim m.side e) (rim_number m.side e) there (4 * (m.side - 1)) back
      ∙ settle (is_own_seam m c p) refl (holds m.side c p) (is_rim m.side e) refl refl
    where
      e : ℕ
      e = index_of m.side c p

      of_test : holds m.side c p ≡ true → Holds m.side c p
      of_test held = (holds_is m.side c p valid.side_low corner).0 held

      there : (holds m.side c p && is_rim m.side e) ≡ true → rim_point m c (rim_number m.side e) ≡ p
      there both =
          let parts = and_parts (holds m.side c p) (is_rim m.side e) both in
          let held = of_test parts.0 in
          ap (point_of m.side c) (rim_index_of_number m.side e valid.side_low (index_of_below m.side c p held) parts.1) ∙ point_of_index m.side c p held

      back : (k : ℕ) → k < 4 * (m.side - 1) → p ≡ rim_point m c k → ((holds m.side c p && is_rim m.side e) ≡ true) × (rim_number m.side e ≡ k)
      back k below is =
          let at = rim_index_is m.side k valid.side_low below in
          let some : 0 < m.side = omega (arith, valid.side_low) in
          let index : e ≡ rim_index m.side k = ap (index_of m.side c) is ∙ index_of_point_is m.side c (rim_index m.side k) some corner at.small in
          let held = (holds_is m.side c (rim_point m c k) valid.side_low corner).1 (point_of_held m.side c (rim_index m.side k) some corner at.small) in (
            and_from (holds m.side c p) (is_rim m.side e) (subst (λ (q : Point). holds m.side c q ≡ true) (sym is) held) (subst (λ i. is_rim m.side i ≡ true) (sym index) at.rim),
            ap (rim_number m.side) index ∙ at.number,
          )

      number : holds m.side c p ≡ true → is_rim m.side e ≡ true → rim_number m.side e < 4 * (m.side - 1)
      number held rim = number_below m.side (rim_number m.side e) e valid.side_low (record { small = index_of_below m.side c p (of_test held); rim = rim; number = refl })

      not_own : holds m.side c p ≡ true → is_rim m.side e ≡ false → is_own_seam m c p ≡ false
      not_own held off =
          and_right (is_first c (present_holders m p)) (disagrees m p)
          (inner_agrees m c e p valid (index_of_held m.side c p (of_test held)) off)

      settle : (own : Bool) → is_own_seam m c p ≡ own → (w r : Bool) → holds m.side c p ≡ w → is_rim m.side e ≡ r
          → tally own (w && r) (nat_lt (rim_number m.side e) (4 * (m.side - 1))) ≡ cond (own && w) 1 0
      settle true is true true held rim = rw (lt-ltb (rim_number m.side e) (4 * (m.side - 1)) (number held rim)) refl
      settle true is true false held off = absurd (false≢true (sym (not_own held off) ∙ is))
      settle true is false r out rim = refl
      settle false is w r held rim = refl

  count-all : (cs : List Corner) → All (λ c. IsTrue (is_corner c)) cs → count_by (same_point p) (all_chosen m cs) ≡ sum_by (λ c. cond (is_own_seam m c p && holds m.side c p) 1 0) cs
  unfolding all_chosen
  count-all [] corners = refl
  count-all (c ∷ cs) corners =
      count-append (same_point p) (chosen (is_own_seam m c) (rim_point m c) (4 * (m.side - 1))) (all_chosen m cs)
      ∙ ap₂ (λ (a b : ℕ). a + b) (count-tile c (All-head (λ d. IsTrue (is_corner d)) c cs corners)) (count-all cs (All-tail (λ d. IsTrue (is_corner d)) c cs corners))
      ∙ sym (sum_by-cons (λ (d : Corner). cond (is_own_seam m d p && holds m.side d p) 1 0) c cs)

-- ---- each disagreeing point counts once
sum-same : (f g : Corner → ℕ) → ((c : Corner) → f c ≡ g c) → (cs : List Corner) → sum_by f cs ≡ sum_by g cs
sum-same f g same [] = refl
sum-same f g same (c ∷ cs) = sum_by-cons f c cs ∙ ap₂ (λ (a b : ℕ). a + b) (same c) (sum-same f g same cs) ∙ sym (sum_by-cons g c cs)

sum-nothing : (cs : List Corner) → sum_by (λ (c : Corner). 0) cs ≡ 0
sum-nothing [] = refl
sum-nothing (c ∷ cs) = sum_by-cons (λ (d : Corner). 0) c cs ∙ zero-add (sum_by (λ (d : Corner). 0) cs) ∙ sum-nothing cs

module _ (f : Corner → Bool) (h : Corner) where
  -- 1 at the corner if it passes the test, else 0
  abbrev at_corner : Corner → ℕ
  at_corner c = cond (same_corner h c && f c) 1 0

  sum-unlisted : (cs : List Corner) → is_listed h cs ≡ false → sum_by at_corner cs ≡ 0
  sum-unlisted [] none = refl
  sum-unlisted (c ∷ cs) none = by (same_corner c h) refl none (sum-unlisted cs)
    where
      by : (b : Bool) → same_corner c h ≡ b → (b || is_listed h cs) ≡ false → (is_listed h cs ≡ false → sum_by at_corner cs ≡ 0) → sum_by at_corner (c ∷ cs) ≡ 0
      by true same e later = absurd (false≢true (sym e))
      by false apart e later =
          let here : at_corner c ≡ 0 = rw (same_comm c h apart) refl in
          sum_by-cons at_corner c cs ∙ ap₂ (λ (a b : ℕ). a + b) here (later e)

  sum-listed : f h ≡ true → (cs : List Corner) → Rising itself cs → is_listed h cs ≡ true → sum_by at_corner cs ≡ 1
  sum-listed passes [] rising none = absurd (false≢true none)
  sum-listed passes (c ∷ cs) rising listed = by (same_corner c h) refl listed (sum-listed passes cs rising.1)
    where
      by : (b : Bool) → same_corner c h ≡ b → (b || is_listed h cs) ≡ true → (is_listed h cs ≡ true → sum_by at_corner cs ≡ 1) → sum_by at_corner (c ∷ cs) ≡ 1
      by true same e later =
          let is : h ≡ c = sym (same_says c h same) in
          let here : at_corner c ≡ 1 = rw (same_from h c is, sym (ap f is) ∙ passes) refl in
          let none : is_listed h cs ≡ false = not_listed h cs (subst (λ d. AllAfter itself d cs) (sym is) rising.0) in
          sum_by-cons at_corner c cs ∙ ap₂ (λ (a b : ℕ). a + b) here (sum-unlisted cs none)
      by false apart e later =
          let here : at_corner c ≡ 0 = rw (same_comm c h apart) refl in
          sum_by-cons at_corner c cs ∙ ap₂ (λ (a b : ℕ). a + b) here (later e)

some_holder : (n : ℕ) (p : Point) (tiles : List Tile) → differ (map (λ t. sample_at n t p) tiles) ≡ true → (h : Corner) × (rest : List Corner) × (map corner_of tiles ≡ h ∷ rest)
some_holder n p [] some = absurd (false≢true some)
some_holder n p (t ∷ ts) some = (t.corner, map corner_of ts, refl)

module _ (m : Mosaic) (valid : IsMosaic m) (p : Point) where
  count-own : (b : Bool) → disagrees m p ≡ b → sum_by (λ c. cond (is_own_seam m c p && holds m.side c p) 1 0) (corners_of m) ≡ cond b 1 0
  count-own false agrees =
      sum-same (λ c. cond (is_own_seam m c p && holds m.side c p) 1 0) (λ c. 0)
      (λ c. rw agrees (nothing (is_first c (present_holders m p)) (holds m.side c p))) (corners_of m)
      ∙ sum-nothing (corners_of m)
    where
      nothing : (first within : Bool) → ◌≡◌ {A = ℕ} (cond ((first && false) && within) 1 0) 0
      nothing true within = refl
      nothing false within = refl
  count-own true some =
      let found = some_holder m.side p (filter (λ t. holds m.side t.corner p) m.tiles) some in
      let h = found.0 in
      let holders = found.2 in
      let both = and_parts (is_listed h (corners_of m)) (holds m.side h p) (
      sym (listed-filter (λ c. holds m.side c p) h (corners_of m))
      ∙ ap (is_listed h) (sym (holders_filtered m p) ∙ holders)
      ∙ or_left (same_corner h h) (is_listed h found.1) (same_from h h refl)) in
      sum-same (λ c. cond (is_own_seam m c p && holds m.side c p) 1 0) (λ c. cond (same_corner h c && holds m.side c p) 1 0)
      (λ c. rw (some, holders) (ap (λ b. cond (b && holds m.side c p) 1 0) (and-true (same_corner h c)))) (corners_of m)
      ∙ sum-listed (λ c. holds m.side c p) h both.1 (corners_of m) (corners_rise m valid) both.0

-- The seams of all tiles together are the points at which tiles disagree.
pub seams_counted : (m : Mosaic) → IsMosaic m → IsSeamCount m (sum_by (seams_of m) (corners_of m))
seams_counted m valid = record {
  points = all_chosen m (corners_of m);
  once = λ p. count-all m valid p (corners_of m) (corners_are m valid) ∙ count-own m valid p (disagrees m p) refl;
  count = length-all_chosen m (corners_of m);
}

-- The count starts before the first row.
pub seams-first : (m : Mosaic) → IsMosaic m → 0 ≡ seams_before m (negsuc 89) (negsuc 179)
seams-first m valid = ap (sum_by (seams_of m)) (sym (before-first (corners_of m) (corners_are m valid)))

pub seams-last : (m : Mosaic) → IsMosaic m → seams_before m (pos 90) (negsuc 179) ≡ sum_by (seams_of m) (corners_of m)
seams-last m valid = ap (sum_by (seams_of m)) (before-last (corners_of m) (corners_are m valid))

pub seams-row : (m : Mosaic) → IsMosaic m → (lat : ℤ) → seams_before m lat (pos 180) ≡ seams_before m (lat +ℤ pos 1) (negsuc 179)
seams-row m valid lat = ap (sum_by (seams_of m)) (before-row lat (corners_of m) (corners_are m valid))
