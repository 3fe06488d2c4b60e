-- The order of corners, and when two corners are equal.
use Rattle.std.proofs.Common.{rules}
use Rattle.lattice.proofs.Prelude.{Decides-int_eq, ℤ, and_from, and_parts, ap, ap₂, arith, by_lt_z, false, false_from_ne_true, false≢true, inl, inr, ints, or_cases, or_left, or_right, refl, sym, true, ◌&&◌, ◌<ℤ◌, ◌∙◌, ◌≡◌, ◌⊎◌}
use Rattle.std.specs.Prelude.{int_lt}
use Rattle.std.specs.Ordering.{int_eq, int_cmp, ordering_then, MatchOrdering}
use Rattle.std.specs.declared.cmp.Ordering.{Ordering}
use Rattle.std.specs.declared.cmp.Ordering.TheVariants.{Less, Equal, Greater}
use Rattle.std.proofs.lemmas.Cmp.{int_ranked}
use Rattle.lattice.specs.Corners.{Corner, is_before, same_corner}
use Rattle.lattice.proofs.IntTests.{lt_true, lt_from}

-- of lower latitude, or of equal latitude and lower longitude
abbrev pub Below : Corner → Corner → Type 0
Below a b = (a.lat <ℤ b.lat) ⊎ ((a.lat ≡ b.lat) × (a.lon <ℤ b.lon))

pub before_says : (a b : Corner) → is_before a b ≡ true → Below a b
before_says a b e = search rules

pub before_from : (a b : Corner) → Below a b → is_before a b ≡ true
before_from a b (inl below) = or_left (int_lt a.lat b.lat) (int_eq a.lat b.lat && int_lt a.lon b.lon) (lt_from a.lat b.lat below)
before_from a b (inr level) =
    or_right (int_lt a.lat b.lat) (int_eq a.lat b.lat && int_lt a.lon b.lon)
    (and_from (int_eq a.lat b.lat) (int_lt a.lon b.lon) ((Decides-int_eq a.lat b.lat).1 level.0) (lt_from a.lon b.lon level.1))

pub same_says : (a b : Corner) → same_corner a b ≡ true → a ≡ b
same_says a b e = search rules

pub same_from : (a b : Corner) → a ≡ b → same_corner a b ≡ true
same_from a b e = and_from (int_eq a.lat b.lat) (int_eq a.lon b.lon) ((Decides-int_eq a.lat b.lat).1 (ap (λ (c : Corner). c.lat) e)) ((Decides-int_eq a.lon b.lon).1 (ap (λ (c : Corner). c.lon) e))

pub before_trans : (a b c : Corner) → is_before a b ≡ true → is_before b c ≡ true → is_before a c ≡ true
before_trans a b c ab bc = before_from a c (chain (before_says a b ab) (before_says b c bc))
  where
    chain : Below a b → Below b c → Below a c
    chain (inl p) (inl q) = inl (omega (arith, ints))
    chain (inl p) (inr q) = inl (omega (arith, ints))
    chain (inr p) (inl q) = inl (omega (arith, ints))
    chain (inr p) (inr q) = inr (omega (arith, ints), omega (arith, ints))

pub before_apart : (a b : Corner) → is_before a b ≡ true → a ≡ b → ⊥
before_apart a b ab e = apart (before_says a b ab) (ap (λ (c : Corner). c.lat) e) (ap (λ (c : Corner). c.lon) e)
  where
    apart : Below a b → a.lat ≡ b.lat → a.lon ≡ b.lon → ⊥
    apart (inl p) lat lon = omega (arith, ints)
    apart (inr p) lat lon = omega (arith, ints)

pub before_not_same : (a b : Corner) → is_before a b ≡ true → same_corner a b ≡ false
before_not_same a b ab = false_from_ne_true (same_corner a b) (λ e. before_apart a b ab (same_says a b e))

pub after_not_same : (a b : Corner) → is_before a b ≡ true → same_corner b a ≡ false
after_not_same a b ab = false_from_ne_true (same_corner b a) (λ e. before_apart a b ab (sym (same_says b a e)))

pub before_not_back : (a b : Corner) → is_before a b ≡ true → is_before b a ≡ false
before_not_back a b ab = false_from_ne_true (is_before b a) (λ ba. before_apart a a (before_trans a b a ab ba) refl)

-- A corner that is neither before the other nor equal to it is after it.
pub after_from : (a b : Corner) → is_before a b ≡ false → same_corner a b ≡ false → is_before b a ≡ true
after_from a b not_before not_same = before_from b a (settle (int_order a.lat b.lat) (int_order a.lon b.lon))
  where
    int_order : (x y : ℤ) → (x <ℤ y) ⊎ ((x ≡ y) ⊎ (y <ℤ x))
    int_order x y = by_lt_z x y (λ less. inl less) (λ not_less. by_lt_z y x (λ more. inr (inr more)) (λ not_more. inr (inl (omega (arith, ints)))))

    settle : ((a.lat <ℤ b.lat) ⊎ ((a.lat ≡ b.lat) ⊎ (b.lat <ℤ a.lat))) → ((a.lon <ℤ b.lon) ⊎ ((a.lon ≡ b.lon) ⊎ (b.lon <ℤ a.lon))) → Below b a
    settle (inl p) other = absurd (false≢true (sym not_before ∙ before_from a b (inl p)))
    settle (inr (inr p)) other = inl p
    settle (inr (inl p)) (inl q) = absurd (false≢true (sym not_before ∙ before_from a b (inr (p, q))))
    settle (inr (inl p)) (inr (inl q)) = absurd (false≢true (sym not_same ∙ same_from a b (ap₂ (λ (y x : ℤ). record { lat = y; lon = x }) p q)))
    settle (inr (inl p)) (inr (inr q)) = inr (sym p, q)

-- the order as the derived comparison of corners computes it
abbrev pub corner_cmp : Corner → Corner → Ordering
corner_cmp a b = ordering_then (int_cmp a.lat b.lat) (int_cmp a.lon b.lon)

pub ranked_corners : (a b : Corner) → MatchOrdering (corner_cmp a b) (is_before a b ≡ true) (a ≡ b) (is_before b a ≡ true)
ranked_corners a b = both (int_cmp a.lat b.lat) (int_cmp a.lon b.lon) (int_ranked a.lat b.lat _ refl) (int_ranked a.lon b.lon _ refl)
  where
    both : (o q : Ordering) → MatchOrdering o (a.lat <ℤ b.lat) (a.lat ≡ b.lat) (b.lat <ℤ a.lat) → MatchOrdering q (a.lon <ℤ b.lon) (a.lon ≡ b.lon) (b.lon <ℤ a.lon)
        → MatchOrdering (ordering_then o q) (is_before a b ≡ true) (a ≡ b) (is_before b a ≡ true)
    both Less q p r = before_from a b (inl p)
    both Greater q p r = before_from b a (inl p)
    both Equal Less p r = before_from a b (inr (p, r))
    both Equal Equal p r = ap₂ (λ (y x : ℤ). record { lat = y; lon = x }) p r
    both Equal Greater p r = before_from b a (inr (sym p, r))

pub same_comm : (a b : Corner) → same_corner a b ≡ false → same_corner b a ≡ false
same_comm a b apart = false_from_ne_true (same_corner b a) (λ e. false≢true (sym apart ∙ same_from a b (sym (same_says b a e))))
