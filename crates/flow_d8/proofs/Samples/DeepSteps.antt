-- Steps from a deep sample are steps between places of its tile.
use Rattle.flow_d8.proofs.Prelude.{Bool, Corner, Dir, Holds, IsIndexOf, IsInner, Point, ℕ, ap, arith, div-mul-add, drop, get_or, index_is, index_of, index_of_point, length, mod-mul-add, mul-le-mul_right, nat_le, nat_tests, place_by, step, subst, suc, sym, true, zero, ◌%◌, ◌&&◌, ◌*◌, ◌+◌, ◌-◌, ◌/◌, ◌<◌, ◌∙◌, ◌≡◌, ◌≤◌}
use Rattle.lattice.proofs.Interior.{IsInner as IsOffRim}
use Rattle.flow_d8.specs.Filled.{number_of, is_deep}
use Rattle.flow_d8.proofs.Samples.Beside.{deep_says, deep_inner, only, beside, inner_beside, place_from, room_before}
use Rattle.flow_d8.proofs.Samples.Inside.{tile_and_index}
use Rattle.flow_d8.proofs.Samples.Numbers.{tile_below}
use Rattle.flow_d8.specs.Tiles.{Tiles, AreTiles, count_of, no_corner, place_of, by_of, IsFirst}
use Rattle.flow_d8.proofs.Samples.TilePlaces.{square_some, first_number, by_is, passed_on, found_at}

-- the index of a sample in its tile
index_at : (t : Tiles) → AreTiles t → (e : ℕ) → e < count_of t → IsIndexOf t.side (get_or t.corners (e / (t.side * t.side)) no_corner) (place_of t e) (e % (t.side * t.side))
unfolding place_of
index_at t valid e small =
    let some = square_some t.side valid.side_low in
    index_of_point t.side (get_or t.corners (e / (t.side * t.side)) no_corner) (e % (t.side * t.side)) (omega (arith, valid.side_low))
    (valid.corners (e / (t.side * t.side)) (tile_below (t.side * t.side) (length t.corners) e some small)) (omega arith)

-- a point off a tile's rim has its first sample in that tile
module _ (t : Tiles) (valid : AreTiles t) (i : ℕ) (small : i < length t.corners) (p : Point) (e : ℕ) (index : IsIndexOf t.side (get_or t.corners i no_corner) p e) (inner : IsOffRim t.side e) where
  only_there : (k : ℕ) → k < i → Holds t.side (get_or t.corners k no_corner) p → ⊥
  only_there k before holds =
      let same : k ≡ i = valid.distinct k i (omega (arith, before, small)) small (only t.side (get_or t.corners i no_corner) p e index inner (get_or t.corners k no_corner) holds) in
      omega (arith, before, same)

  passed : (k : ℕ) → k ≤ i → number_of t.side t.corners p ≡ k * (t.side * t.side) + number_of t.side (drop k t.corners) p
  passed zero low = omega arith
  passed (suc k) low =
      let before : k < i = omega (arith, low) in
      subst (λ j. number_of t.side t.corners p ≡ j * (t.side * t.side) + number_of t.side (drop j t.corners) p) (one_more k)
      (passed_on t.side valid.side_low t.corners p k (passed k (omega (arith, low))) (omega (arith, before, small)) (only_there k before))
    where
      one_more : (k : ℕ) → k + 1 ≡ suc k
      one_more k = omega arith

  alone_at : number_of t.side t.corners p ≡ i * (t.side * t.side) + e
  alone_at = found_at t.side valid.side_low t.corners p i (passed i (omega arith)) small e index

module _ (t : Tiles) (valid : AreTiles t) (k : ℕ) (small : k < count_of t) (test : is_deep t.side (k % (t.side * t.side)) ≡ true) where
  abbrev n : ℕ
  n = t.side

  abbrev area : ℕ
  area = n * n

  abbrev c : Corner
  c = get_or t.corners (k / area) no_corner

  within : k / area < length t.corners
  within = tile_below area (length t.corners) k (square_some n valid.side_low) small

  inner : IsOffRim n (k % area)
  inner = deep_inner n (k % area) test

  room : n + 1 ≤ k % area
  room = room_before n c (place_of t k) (k % area) (index_at t valid k small) inner

  -- a deep sample is the first sample of its point
  pub deep_number : number_of n t.corners (place_of t k) ≡ k
  deep_number = alone_at t valid (k / area) within (place_of t k) (k % area) (index_at t valid k small) inner ∙ tile_and_index area k

  pub deep_by : (d : Dir) → by_of t k d ≡ place_by n k d
  deep_by d =
      let index = index_at t valid k small in
      let there : IsIndexOf n c (step d (place_of t k)) (place_by n (k % area) d) = beside n c (place_of t k) (k % area) index inner d in
      let off : IsOffRim n (place_by n (k % area) d) = inner_beside n c (place_of t k) (k % area) index test d in
      by_is t valid k d ∙ alone_at t valid (k / area) within (step d (place_of t k)) (place_by n (k % area) d) there off
      ∙ sym (place_from n (k / area * area) (k % area) room d) ∙ ap (λ v. place_by n v d) (tile_and_index area k)

  pub deep_inner_at : IsInner n (count_of t) k
  deep_inner_at =
      let e = k % area in
      let i = k / area in
      let q = e / n in
      let r = e % n in
      let said = deep_says n e test in
      let tiles : suc i * area ≤ length t.corners * area = mul-le-mul_right area (omega (arith, within)) in
      let rows : (q + 3) * n ≤ area = mul-le-mul_right n said.1 in
      let some_rows : 2 * n ≤ q * n = mul-le-mul_right n said.0 in
      let split : i * area + e ≡ k = tile_and_index area k in
      let index : q * n + r ≡ e = tile_and_index n e in
      let column_low : 2 ≤ r = said.2 in
      let column_high : r + 3 ≤ n = said.3 in
      record { before = omega arith; after = omega arith }

  pub deep_first : (d : Dir) (r : ℕ) → r ≡ place_by n k d → r < count_of t → IsFirst t r
  deep_first d r is within_r =
      let at : r ≡ number_of n t.corners (step d (place_of t k)) = is ∙ sym (deep_by d) ∙ by_is t valid k d in
      subst (IsFirst t) (sym at) (first_number t valid (step d (place_of t k)) (subst (λ m. m < count_of t) at within_r))

both : (a b : Bool) → a ≡ true → b ≡ true → (a && b) ≡ true
both a b first then = subst (λ x. (x && b) ≡ true) (sym first) then

le_true : (a b : ℕ) → a ≤ b → nat_le a b ≡ true
le_true a b h = grind (arith, nat_tests)

-- the samples of its row at least two from the edges are deep too
pub row_deep : (n k j : ℕ) → is_deep n (k % (n * n)) ≡ true → k + 2 ≤ j + k % (n * n) % n → j + k % (n * n) % n + 3 ≤ k + n → is_deep n (j % (n * n)) ≡ true
row_deep n k j test low high =
    let area = n * n in
    let e = k % area in
    let q = e / n in
    let r = e % n in
    let c = j + r - k in
    let said = deep_says n e test in
    let split : k / area * area + e ≡ k = tile_and_index area k in
    let index : q * n + r ≡ e = tile_and_index n e in
    let at : j ≡ k / area * area + (q * n + c) = omega (arith, split, index, low) in
    let rows : (q + 3) * n ≤ area = mul-le-mul_right n said.1 in
    let column : c + 3 ≤ n = omega (arith, low, high) in
    let inside : q * n + c < area = omega (arith, rows, column) in
    let f = q * n + c in
    let rest : j % area ≡ f = ap (λ v. v % area) at ∙ mod-mul-add (k / area) area f inside in
    let row : f / n ≡ q = div-mul-add q n c (omega (arith, column)) in
    let column_is : f % n ≡ c = mod-mul-add q n c (omega (arith, column)) in
    let low_row : nat_le 2 (f / n) ≡ true = le_true 2 (f / n) (subst (λ v. 2 ≤ v) (sym row) said.0) in
    let high_row : nat_le (f / n + 3) n ≡ true = le_true (f / n + 3) n (subst (λ v. v + 3 ≤ n) (sym row) said.1) in
    let low_column : nat_le 2 (f % n) ≡ true = le_true 2 (f % n) (subst (λ v. 2 ≤ v) (sym column_is) (omega (arith, low))) in
    let high_column : nat_le (f % n + 3) n ≡ true = le_true (f % n + 3) n (subst (λ v. v + 3 ≤ n) (sym column_is) column) in
    subst (λ v. is_deep n v ≡ true) (sym rest)
    (both (nat_le 2 (f / n) && nat_le (f / n + 3) n && nat_le 2 (f % n)) (nat_le (f % n + 3) n)
    (both (nat_le 2 (f / n) && nat_le (f / n + 3) n) (nat_le 2 (f % n)) (both (nat_le 2 (f / n)) (nat_le (f / n + 3) n) low_row high_row) low_column) high_column)

-- no other sample has the point of a deep sample
pub deep_alone : (t : Tiles) (valid : AreTiles t) (k : ℕ) → k < count_of t → is_deep t.side (k % (t.side * t.side)) ≡ true → (e : ℕ) → e < count_of t → place_of t e ≡ place_of t k → e ≡ k
deep_alone t valid k small test e small_e same =
    let n = t.side in
    let p = place_of t k in
    let c_k = get_or t.corners (k / (n * n)) no_corner in
    let c_e = get_or t.corners (e / (n * n)) no_corner in
    let here : IsIndexOf n c_k p (k % (n * n)) = index_at t valid k small in
    let at : IsIndexOf n c_e p (e % (n * n)) = subst (λ q. IsIndexOf n c_e q (e % (n * n))) same (index_at t valid e small_e) in
    let holds : Holds n c_e p = record { corner = at.corner; sample = (at.sample.0, at.sample.1, at.sample.2.0) } in
    let c_same : c_e ≡ c_k = only n c_k p (k % (n * n)) here (deep_inner n (k % (n * n)) test) c_e holds in
    let idx : e % (n * n) ≡ k % (n * n) = sym (index_is n c_e p (e % (n * n)) at) ∙ ap (λ q. index_of n q p) c_same ∙ index_is n c_k p (k % (n * n)) here in
    sym (deep_number t valid e small_e (subst (λ m. is_deep n m ≡ true) (sym idx) test)) ∙ ap (number_of n t.corners) same ∙ deep_number t valid k small test
