-- The nine points of the window around a point inside a block, by their offsets.
use Rattle.std.proofs.Common.{mul-le-mul_right, ◌≡◌, ℕ, ◌+◌, ◌-◌, ◌*◌, ◌/◌, ◌%◌, ◌<◌, ◌≤◌, IsTrue, ap, ◌∙◌, subst, arith}
use Rattle.tile_flood.proofs.Prelude.{IsInWindow, is_beside}
use Rattle.labelling.proofs.Squares.{cell_of, column_of_cell, row_of_cell}
use Rattle.tile_flood.proofs.Dependence.{window_beside}

pub window_index : (n e d x : ℕ) → IsInWindow n e d x → x + n + 1 ≡ e + (d / 3) * n + d % 3
window_index n e d x at =
    let here : x ≡ (x / n) * n + x % n = cell_of n x in
    let middle : e ≡ (e / n) * n + e % n = cell_of n e in
    let rows : (x / n + 1) * n ≡ (e / n + d / 3) * n = ap (λ v. v * n) at.0 in
    let columns : x % n + 1 ≡ e % n + d % 3 = at.1 in
    omega arith

from_rows : (n i j q p z r c : ℕ) → r + 1 ≡ i + q → c + 1 ≡ j + p → z + n + 1 ≡ (i * n + j) + q * n + p → z ≡ r * n + c
from_rows n i j q p z r c up across at = let rows : (r + 1) * n ≡ (i + q) * n = ap (λ v. v * n) up in omega arith

pub index_beside : (n i j d z : ℕ) → 0 < i → 0 < j → j + 1 < n → d < 9 → z + n + 1 ≡ (i * n + j) + (d / 3) * n + d % 3 → IsTrue (is_beside n (i * n + j) z)
index_beside n i j d z row west east nine at =
    let r : ℕ = i + d / 3 - 1 in
    let c : ℕ = j + d % 3 - 1 in
    let small : c < n = omega arith in
    let is : z ≡ r * n + c = from_rows n i j (d / 3) (d % 3) z r c (omega arith) (omega arith) at in
    let row_at : z / n ≡ r = ap (λ v. v / n) is ∙ row_of_cell n r c small in
    let column_at : z % n ≡ c = ap (λ v. v % n) is ∙ column_of_cell n r c small in
    let row_here : (i * n + j) / n ≡ i = row_of_cell n i j (omega arith) in
    let column_here : (i * n + j) % n ≡ j = column_of_cell n i j (omega arith) in
    window_beside n (i * n + j) d z nine (omega arith, omega arith)

pub record IsInside (n e count d : ℕ) : Type 0 where
  pub low : n + 1 ≤ e
  pub high : e + count ≤ n * n
  pub beside : (e - n - 1 + d / 3 * n + d % 3) + count ≤ n * n

pub is_inside : (n i from count d : ℕ) → 0 < i → i + 1 < n → 0 < from → from + count < n → d < 9 → IsInside n (i * n + from) count d
is_inside n i from count d row rows west east nine =
    let first : 1 ≤ i = omega arith in
    let above : 1 * n ≤ i * n = mul-le-mul_right n first in
    let last : i + 2 ≤ n = omega arith in
    let below : (i + 2) * n ≤ n * n = mul-le-mul_right n last in
    let two : d / 3 ≤ 2 = omega arith in
    let window : (d / 3) * n ≤ 2 * n = mul-le-mul_right n two in
    record { low = omega arith; high = omega arith; beside = omega arith }

-- the points of a run and the run shifted by one offset of the window are neighbours in pairs
pub window_along : (n i from d k : ℕ) → 0 < i → 0 < from → from + k + 1 < n → d < 9 → IsTrue (is_beside n ((i * n + from) + k) ((i * n + from - n - 1 + d / 3 * n + d % 3) + k))
window_along n i from d k row west east nine =
    let z : ℕ = (i * n + from - n - 1 + d / 3 * n + d % 3) + k in
    let first : 1 ≤ i = omega arith in
    let above : 1 * n ≤ i * n = mul-le-mul_right n first in
    let at : z + n + 1 ≡ (i * n + (from + k)) + (d / 3) * n + d % 3 = omega arith in
    let is : i * n + (from + k) ≡ (i * n + from) + k = omega arith in
    subst (λ x. IsTrue (is_beside n x z)) is (index_beside n i (from + k) d z row (omega arith) (omega arith) nine at)
