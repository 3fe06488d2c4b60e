-- All corners one after another, row by row from the south.
use Rattle.std.proofs.Common.{rules}
use Rattle.std.proofs.Common.{◌≡◌, ℤ, pos, negsuc, ◌+ℤ◌, ◌≤ℤ◌, ◌<ℤ◌, Bool, true, false, cond, ◌&&◌, ◌||◌, IsTrue, List, [], ◌∷◌, ◌++◌, refl, sym, ◌∙◌, ap, ap₂, subst, arith, inl, inr}
use Rattle.catalogue.proofs.Prelude.{All, All-head, All-tail, AllAfter, Corner, None, Option, Rising, Some, after_later, and_parts, by_lt_z, corners_before, false_from_ne_true, filter, int_le, ints, is_before, is_corner, is_listed, same_corner, same_tests, to_z-of_z}
use mir.Syntax.{w16}
use mir.Val.{SFits, to_z, of_z}
use Rattle.lattice.proofs.IntTests.{le_true}
use Rattle.lattice.proofs.CornerOrder.{Below, before_says, before_from, same_says, before_not_back, after_from, before_apart}
use Rattle.catalogue.proofs.Holders.{itself, not_listed}

pub corner_range : (c : Corner) → IsTrue (is_corner c) → (negsuc 89 ≤ℤ c.lat) × (c.lat ≤ℤ pos 89) × (negsuc 179 ≤ℤ c.lon) × (c.lon ≤ℤ pos 179)
corner_range c corner = search rules

abbrev pub corner_at : ℤ → ℤ → Corner
corner_at lat lon = record { lat = lat; lon = lon }

module _ (lat lon : ℤ) where
  abbrev here : Corner
  here = corner_at lat lon

  abbrev next : Corner
  next = corner_at lat (lon +ℤ pos 1)

  here_next : IsTrue (is_before here next)
  here_next = before_from here next (inr (refl, omega (arith, ints)))

  before_next : (x : Corner) → IsTrue (is_before x here) → IsTrue (is_before x next)
  before_next x before = by (before_says x here before)
    where
      by : Below x here → IsTrue (is_before x next)
      by (inl south) = before_from x next (inl south)
      by (inr west) = before_from x next (inr (west.0, omega (arith, ints)))

  beyond_next : (x : Corner) → IsTrue (is_before here x) → is_before x next ≡ false
  beyond_next x beyond = false_from_ne_true (is_before x next) (λ before. by (before_says here x beyond) (before_says x next before))
    where
      by : Below here x → Below x next → ⊥
      by (inl p) (inl q) = omega (arith, ints)
      by (inl p) (inr q) = omega (arith, ints)
      by (inr p) (inl q) = omega (arith, ints)
      by (inr p) (inr q) = omega (arith, ints)

  none_next : (xs : List Corner) → AllAfter itself here xs → filter (λ x. is_before x next) xs ≡ []
  none_next [] h = refl
  none_next (x ∷ xs) h = rw (beyond_next x h.0) (none_next xs h.1)

  none_here : (xs : List Corner) → AllAfter itself here xs → filter (λ x. is_before x here) xs ≡ []
  none_here [] h = refl
  none_here (x ∷ xs) h = rw (before_not_back here x h.0) (none_here xs h.1)

  -- one degree further: the corner is added if it is in the list
  pub before-next : (cs : List Corner) → Rising itself cs → corners_before lat (lon +ℤ pos 1) cs ≡ corners_before lat lon cs ++ cond (is_listed here cs) (here ∷ []) []
  before-next [] rising = refl
  before-next (x ∷ xs) rising = by (is_before x here) refl (same_corner x here) refl (before-next xs rising.1)
    where
      by : (b : Bool) → is_before x here ≡ b → (s : Bool) → same_corner x here ≡ s
          → filter (λ c. is_before c next) xs ≡ filter (λ c. is_before c here) xs ++ cond (is_listed here xs) (here ∷ []) []
          → cond (is_before x next) (x ∷ filter (λ c. is_before c next) xs) (filter (λ c. is_before c next) xs)
          ≡ cond b (x ∷ filter (λ c. is_before c here) xs) (filter (λ c. is_before c here) xs) ++ cond (s || is_listed here xs) (here ∷ []) []
      by true before true same rest = absurd (before_apart x here before (same_says x here same))
      by true before false apart rest = rw (before_next x before) (ap (λ (l : List Corner). x ∷ l) rest)
      by false not_before true same rest =
          let is : x ≡ here = same_says x here same in
          let after : AllAfter itself here xs = subst (λ (c : Corner). AllAfter itself c xs) is rising.0 in
          let within : is_before x next ≡ true = subst (λ (c : Corner). is_before c next ≡ true) (sym is) here_next in
          rw (within, none_next xs after, none_here xs after) (ap (λ (c : Corner). c ∷ []) is)
      by false not_before false apart rest =
          let beyond : IsTrue (is_before here x) = after_from x here not_before apart in
          let after : AllAfter itself here xs = after_later itself here x xs beyond rising.0 in
          rw (beyond_next x beyond, none_next xs after, none_here xs after, not_listed here xs after) refl

-- the step from the end of a row to the next row
row_end : (lat : ℤ) (x : Corner) → IsTrue (is_corner x) → is_before x (corner_at lat (pos 180)) ≡ is_before x (corner_at (lat +ℤ pos 1) (negsuc 179))
row_end lat x corner = same_tests (is_before x (corner_at lat (pos 180))) (is_before x (corner_at (lat +ℤ pos 1) (negsuc 179)))
    (λ before. before_from x (corner_at (lat +ℤ pos 1) (negsuc 179)) (inl (on (corner_range x corner) (before_says x (corner_at lat (pos 180)) before))))
    (λ before. back (corner_range x corner) (before_says x (corner_at (lat +ℤ pos 1) (negsuc 179)) before))
  where
    on : (negsuc 89 ≤ℤ x.lat) × (x.lat ≤ℤ pos 89) × (negsuc 179 ≤ℤ x.lon) × (x.lon ≤ℤ pos 179) → Below x (corner_at lat (pos 180)) → x.lat <ℤ (lat +ℤ pos 1)
    on r (inl p) = omega (arith, ints)
    on r (inr p) = omega (arith, ints)

    back : (negsuc 89 ≤ℤ x.lat) × (x.lat ≤ℤ pos 89) × (negsuc 179 ≤ℤ x.lon) × (x.lon ≤ℤ pos 179) → Below x (corner_at (lat +ℤ pos 1) (negsuc 179)) → is_before x (corner_at lat (pos 180)) ≡ true
    back r (inl p) = by_lt_z x.lat lat (λ less. before_from x (corner_at lat (pos 180)) (inl less)) (λ not_less. before_from x (corner_at lat (pos 180)) (inr (omega (arith, ints), omega (arith, ints, r))))
    back r (inr p) = absurd (omega (arith, ints, r))

pub before-row : (lat : ℤ) (cs : List Corner) → All (λ c. IsTrue (is_corner c)) cs → corners_before lat (pos 180) cs ≡ corners_before (lat +ℤ pos 1) (negsuc 179) cs
before-row lat [] corners = refl
before-row lat (x ∷ xs) corners =
    let rest : corners_before lat (pos 180) xs ≡ corners_before (lat +ℤ pos 1) (negsuc 179) xs = before-row lat xs (All-tail (λ c. IsTrue (is_corner c)) x xs corners) in
    rw (row_end lat x (All-head (λ c. IsTrue (is_corner c)) x xs corners), rest) refl

pub before-first : (cs : List Corner) → All (λ c. IsTrue (is_corner c)) cs → corners_before (negsuc 89) (negsuc 179) cs ≡ []
before-first [] corners = refl
before-first (x ∷ xs) corners = rw (first x (All-head (λ c. IsTrue (is_corner c)) x xs corners)) (before-first xs (All-tail (λ c. IsTrue (is_corner c)) x xs corners))
  where
    first : (c : Corner) → IsTrue (is_corner c) → is_before c (corner_at (negsuc 89) (negsuc 179)) ≡ false
    first c corner = false_from_ne_true (is_before c (corner_at (negsuc 89) (negsuc 179))) (λ before. by (corner_range c corner) (before_says c (corner_at (negsuc 89) (negsuc 179)) before))
      where
        by : (negsuc 89 ≤ℤ c.lat) × (c.lat ≤ℤ pos 89) × (negsuc 179 ≤ℤ c.lon) × (c.lon ≤ℤ pos 179) → Below c (corner_at (negsuc 89) (negsuc 179)) → ⊥
        by r (inl p) = omega (arith, ints, r)
        by r (inr p) = omega (arith, ints, r)

pub before-last : (cs : List Corner) → All (λ c. IsTrue (is_corner c)) cs → corners_before (pos 90) (negsuc 179) cs ≡ cs
before-last [] corners = refl
before-last (x ∷ xs) corners =
    let range = corner_range x (All-head (λ c. IsTrue (is_corner c)) x xs corners) in
    let south : x.lat <ℤ pos 90 = omega (arith, ints, range) in
    let before : IsTrue (is_before x (corner_at (pos 90) (negsuc 179))) = before_from x (corner_at (pos 90) (negsuc 179)) (inl south) in
    rw before (ap (λ (l : List Corner). x ∷ l) (before-last xs (All-tail (λ c. IsTrue (is_corner c)) x xs corners)))

-- ---- a walk over the corners
module _ (cs : List Corner) (rising : Rising itself cs) (lat lon : ℤ) where
  abbrev pub named : Option Corner
  named = cond (is_listed (corner_at lat lon) cs) (Some (corner_at lat lon)) None

  pub before-step : (found : List Corner) → found ≡ corners_before lat lon cs → corners_before lat (lon +ℤ pos 1) cs ≡ found ++ cond (is_listed (corner_at lat lon) cs) (corner_at lat lon ∷ []) []
  before-step found so_far = before-next lat lon cs rising ∙ ap (λ (l : List Corner). l ++ cond (is_listed (corner_at lat lon) cs) (corner_at lat lon ∷ []) []) (sym so_far)

-- the corners before a corner, or after the last degree of a row
module _ (cs : List Corner) (lat lon : ℤ) where
  pub named_present : is_listed (corner_at lat lon) cs ≡ true → Some (corner_at lat lon) ≡ cond (is_listed (corner_at lat lon) cs) (Some (corner_at lat lon)) None
  named_present there = rw there refl

  pub named_absent : is_listed (corner_at lat lon) cs ≡ false → None ≡ cond (is_listed (corner_at lat lon) cs) (Some (corner_at lat lon)) None
  named_absent absent = rw absent refl

-- degrees as the code passes them
pub corner_at_is : (lat lon : ℤ) → SFits w16 lat → SFits w16 lon → corner_at (to_z w16 (of_z w16 lat)) (to_z w16 (of_z w16 lon)) ≡ corner_at lat lon
corner_at_is lat lon lat_fits lon_fits = ap₂ corner_at (to_z-of_z w16 lat lat_fits) (to_z-of_z w16 lon lon_fits)
