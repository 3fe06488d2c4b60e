-- Adjacent points have 32-bit coordinates, so the steps that the code can make find them all.
use Rattle.catalogue.proofs.Prelude.{Bool, Corner, Dir, Holds, IsMosaic, List, Mosaic, Point, Step, ℕ, ℤ, [], and_from, and_parts, ap, arith, cond, count_by, degree_of, directions, false, false_from_ne_true, false≢true, int_le, ints, is_adjacent, is_ground, is_near, negsuc, not, pos, refl, same_point, share_tile, step, sym, true, ◌&&◌, ◌*ℤ◌, ◌*◌, ◌+◌, ◌-◌, ◌∙◌, ◌∷◌, ◌≡◌, ◌≤ℤ◌, ◌≤◌}
use Rattle.std.specs.List.{fold}
use Rattle.std.proofs.Math.Nat.{mul-le-mul_left, mul-le-mul_right}
use Rattle.lattice.specs.Stepping.{reach_of, fits_number, fits_point}
use Rattle.lattice.proofs.IntTests.{le_from}
use Rattle.lattice.specs.Limits.{largest_side}
use Rattle.catalogue.proofs.Sharing.{shared_says}
use Rattle.catalogue.proofs.Rows.{corner_range}

-- The number of steps to points where f is true, if f is true only at points with 32-bit coordinates.
reach-count : (f : Point → Bool) (p : Point) → ((q : Point) → f q ≡ true → fits_point q ≡ true) → (ds : List Dir) (a : ℕ)
    → fold (λ n (s : Step). n + cond (f s.to) 1 0) a (reach_of p ds) ≡ fold (λ n (d : Dir). n + cond (f (step d p)) 1 0) a ds
reach-count f p within [] a = refl
reach-count f p within (d ∷ ds) a = by (fits_point (step d p)) refl (λ b. reach-count f p within ds b)
  where
    by : (b : Bool) → fits_point (step d p) ≡ b → ((a' : ℕ) → fold (λ n (s : Step). n + cond (f s.to) 1 0) a' (reach_of p ds) ≡ fold (λ n (e : Dir). n + cond (f (step e p)) 1 0) a' ds)
        → fold (λ n (s : Step). n + cond (f s.to) 1 0) a (cond b (record { direction = d; to = step d p } ∷ reach_of p ds) (reach_of p ds)) ≡ fold (λ n (e : Dir). n + cond (f (step e p)) 1 0) (a + cond (f (step d p)) 1 0) ds
    by true fits later = later (a + cond (f (step d p)) 1 0)
    by false far later =
        let not_there : f (step d p) ≡ false = false_from_ne_true (f (step d p)) (λ there. false≢true (sym far ∙ within (step d p) there)) in
        let same : a ≡ a + cond (f (step d p)) 1 0 = rw not_there (omega arith) in
        later a ∙ ap (λ n. fold (λ k (e : Dir). k + cond (f (step e p)) 1 0) n ds) same

-- degrees counted in samples, for a tile of m samples per degree
module _ (m : ℕ) (small : m ≤ 3600) where
  mul_le : {a b : ℕ} → a ≤ b → a * m ≤ b * 3600
  mul_le {a} {b} h = let first = mul-le-mul_right m h in let second = mul-le-mul_left b small in omega (arith, first, second)

  product_high : (a : ℤ) → a ≤ℤ pos 179 → (a *ℤ pos m) ≤ℤ pos 644400
  product_high (pos a) high = let few : a ≤ 179 = omega (arith, ints) in let most : a * m ≤ 179 * 3600 = mul_le few in omega (arith, ints)
  product_high (negsuc a) high = omega (arith, ints)

  product_low : (a : ℤ) → negsuc 179 ≤ℤ a → negsuc 647999 ≤ℤ (a *ℤ pos m)
  product_low (pos a) low = omega (arith, ints)
  product_low (negsuc a) low = let few : a + 1 ≤ 180 = omega (arith, ints) in let most : (a + 1) * m ≤ 180 * 3600 = mul_le few in omega (arith, ints)

fits : (v : ℤ) → negsuc 2147483647 ≤ℤ v → v ≤ℤ pos 2147483647 → fits_number v ≡ true
fits v low high = and_from (int_le (negsuc 2147483647) v) (int_le v (pos 2147483647)) (le_from (negsuc 2147483647) v low) (le_from v (pos 2147483647) high)

-- The coordinates of a tile's point are 32-bit numbers.
held_fits : (n : ℕ) (c : Corner) (q : Point) → n ≤ largest_side → Holds n c q → fits_point q ≡ true
held_fits n c q small held =
    let i = held.sample.0 in
    let j = held.sample.1 in
    let at = held.sample.2 in
    let row : i ≤ n - 1 = omega (arith, at.row) in
    let column : j ≤ n - 1 = omega (arith, at.column) in
    let side : n - 1 ≤ 3600 = omega arith in
    let range = corner_range c held.corner in
    let north = product_high (n - 1) side c.lat (omega (arith, ints, range)) in
    let south = product_low (n - 1) side c.lat (omega (arith, ints, range)) in
    let east = product_high (n - 1) side c.lon (omega (arith, ints, range)) in
    let west = product_low (n - 1) side c.lon (omega (arith, ints, range)) in
    and_from (fits_number q.y) (fits_number q.x)
    (fits q.y (omega (arith, ints, at.y, north, south)) (omega (arith, ints, at.y, north, south)))
    (fits q.x (omega (arith, ints, at.x, east, west)) (omega (arith, ints, at.x, east, west)))

pub adjacent_fits : (m : Mosaic) (p q : Point) → IsMosaic m → is_adjacent m p q ≡ true → fits_point q ≡ true
adjacent_fits m p q valid adjacent =
    let shared = (and_parts (is_ground m p && is_ground m q && not (same_point p q) && is_near p q) (share_tile m p q) adjacent).1 in
    let found = shared_says m p q valid shared in
    held_fits m.side found.0 q valid.side_high found.1.2

pub degree-reach : (m : Mosaic) (p : Point) → IsMosaic m → count_by (λ (s : Step). is_adjacent m p s.to) (reach_of p directions) ≡ degree_of m p
degree-reach m p valid = reach-count (is_adjacent m p) p (λ q. adjacent_fits m p q valid) directions 0
