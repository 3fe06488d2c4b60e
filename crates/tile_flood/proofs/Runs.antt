-- Three successive points, in the row of a point or in an adjacent row: which of them are near the point.
use Rattle.std.proofs.Common.{rules}
use Rattle.tile_flood.proofs.Prelude.{IsNear, IsTrue, ℕ, ap, arith, cases_eq, cases_lt, eq-eqb, inl, inr, is_beside, is_rim, mod-lt, mul-le-mul_right, nat_eq, or_left, or_right, ◌%◌, ◌*◌, ◌+◌, ◌-◌, ◌/◌, ◌<◌, ◌||◌, ◌∙◌, ◌≡◌, ◌≤◌, ◌⊎◌}
use Rattle.labelling.proofs.Squares.{cell_of, row_of_cell, column_of_cell, row_below, beside_if, apart_of}

-- the four edges of the rim
module _ (n e : ℕ) where
  top : e / n ≡ 0 → IsTrue (is_rim n e)
  top h = or_left (nat_eq (e / n) 0 || nat_eq (e / n + 1) n || nat_eq (e % n) 0) (nat_eq (e % n + 1) n)
      (or_left (nat_eq (e / n) 0 || nat_eq (e / n + 1) n) (nat_eq (e % n) 0) (or_left (nat_eq (e / n) 0) (nat_eq (e / n + 1) n) (eq-eqb (e / n) 0 h)))

  bottom : e / n + 1 ≡ n → IsTrue (is_rim n e)
  bottom h = search rules

  west : e % n ≡ 0 → IsTrue (is_rim n e)
  west h = search rules

  east : e % n + 1 ≡ n → IsTrue (is_rim n e)
  east h = or_right (nat_eq (e / n) 0 || nat_eq (e / n + 1) n || nat_eq (e % n) 0) (nat_eq (e % n + 1) n) (eq-eqb (e % n + 1) n h)

-- the row and the column of a point, if counting starts one row and one column earlier
at_cell : (n e j s : ℕ) → s < n → e + n + 1 ≡ (j + 1) * n + (s + 1) → (e / n ≡ j) × (e % n ≡ s)
at_cell n e j s small is =
    let at : e ≡ j * n + s = omega arith in
    (ap (λ v. v / n) at ∙ row_of_cell n j s small, ap (λ v. v % n) at ∙ column_of_cell n j s small)

-- each of three successive points in or beside c's row is on the rim or next to c
near_cell : (n c e q r i k : ℕ) → 3 ≤ n → r < n → c / n ≡ q → c % n ≡ r → i < 3 → k < 3 → e + n + 1 ≡ (q + i) * n + (r + k) → IsNear n c e
near_cell n c e q r i k side column row_is column_is few within is = elim (cases_lt n (r + k)) [
  | inl past ↦
      let over : r + k ≡ n + 1 = omega arith in
      let at : e + n + 1 ≡ ((q + i) + 1) * n + (0 + 1) = omega arith in
      inl (west n e (at_cell n e (q + i) 0 (omega arith) at).1)
  | inr inside ↦ elim (cases_eq (q + i) 0) [
    | inl none ↦ let is' : e + n + 1 ≡ 0 * n + (r + k) = is ∙ ap (λ m. m * n + (r + k)) none in absurd (omega arith)
    | inr some ↦ elim (cases_eq (r + k) 0) [
      | inl first ↦ elim (cases_eq (q + i) 1) [
        | inl one ↦ let is' : e + n + 1 ≡ 1 * n + (r + k) = is ∙ ap (λ m. m * n + (r + k)) one in absurd (omega arith)
        | inr more ↦
            let j : ℕ = q + i - 2 in
            let up : q + i ≡ (j + 1) + 1 = omega arith in
            let is' : e + n + 1 ≡ ((j + 1) + 1) * n + (r + k) = is ∙ ap (λ m. m * n + (r + k)) up in
            let last : (n - 1) + 1 ≡ n = omega arith in
            let at : e + n + 1 ≡ (j + 1) * n + ((n - 1) + 1) = omega arith in
            inl (east n e (ap (λ s. s + 1) (at_cell n e j (n - 1) (omega arith) at).1 ∙ last))
      ]
      | inr later ↦
          let j : ℕ = q + i - 1 in
          let s : ℕ = r + k - 1 in
          let up : q + i ≡ j + 1 = omega arith in
          let along : r + k ≡ s + 1 = omega arith in
          let at = at_cell n e j s (omega arith) (is ∙ (ap (λ m. m * n + (r + k)) up ∙ ap (λ m. (j + 1) * n + m) along)) in
          inr (beside_if n c e (record { north = omega arith; south = omega arith; west = omega arith; east = omega arith }))
    ]
  ]
]

pub run_near : (n c i k e : ℕ) → 3 ≤ n → i < 3 → k < 3 → e + n + 1 ≡ c + i * n + k → IsNear n c e
run_near n c i k e side few within is =
    let cell = cell_of n c in
    near_cell n c e (c / n) (c % n) i k side (mod-lt c (omega arith)) (ap (λ v. v / n) (ap (λ v. v) cell) ∙ row_of_cell n (c / n) (c % n) (mod-lt c (omega arith)))
    (ap (λ v. v % n) cell ∙ column_of_cell n (c / n) (c % n) (mod-lt c (omega arith))) few within (is ∙ omega arith)

-- each neighbour of c in a row is one of three successive points of that row
pub run_of : (n c i z : ℕ) → IsTrue (is_beside n c z) → z / n + 1 ≡ c / n + i → (k : ℕ) × ((k < 3) × (z + n + 1 ≡ c + i * n + k))
run_of n c i z beside row =
    let a = apart_of n c z beside in
    let cell = cell_of n c in
    let cell' = cell_of n z in
    let rows : (z / n + 1) * n ≡ (c / n + i) * n = ap (λ m. m * n) row in
    (z % n + 1 - c % n, (omega arith, omega arith))

-- if the block doesn't have all three points of a row next to c, the points of that row are on the rim
pub outer_row : (n c i z : ℕ) → 3 ≤ n → c < n * n → z < n * n → z / n + 1 ≡ c / n + i → (c + i * n ≤ n) ⊎ (n * n + n ≤ c + i * n + 1) → IsTrue (is_rim n z)
outer_row n c i z side small small' row outer = elim (cases_eq (z / n) 0) [
  | inl first ↦ top n z first
  | inr later ↦ elim (cases_eq (z / n + 1) n) [
    | inl last ↦ bottom n z last
    | inr inner ↦
        let cell = cell_of n c in
        let below : c % n < n = mod-lt c (omega arith) in
        let rows : (z / n + 1) * n ≡ (c / n + i) * n = ap (λ m. m * n) row in
        let high = row_below n z small' in
        let low : 2 * n ≤ (z / n + 1) * n = mul-le-mul_right n (omega arith) in
        let top_row : ((z / n + 1) + 1) * n ≤ n * n = mul-le-mul_right n (omega arith) in
        absurd (elim outer [ inl none ↦ omega arith | inr past ↦ omega arith ])
  ]
]
