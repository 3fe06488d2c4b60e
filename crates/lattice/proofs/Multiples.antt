-- Multiples of a number, which are where the edges of tiles are.
use Rattle.lattice.proofs.Prelude.{ℕ, ℤ, ap, arith, by_lt_z, cases_Bool, inl, inr, int_lt, ints, nat_abs, negsuc, pos, refl, suc, zero, ◌*ℤ◌, ◌*◌, ◌+ℤ◌, ◌-ℤ◌, ◌<ℤ◌, ◌<◌, ◌∙◌, ◌≡◌, ◌≤ℤ◌, ◌≤◌}
use Rattle.std.proofs.Math.IntN.{+ℤ_idr, suc_ℤ-*ℤ, suc_ℤ}
use Rattle.std.proofs.Math.Nat.{mul-le-mul_right}
use Rattle.lattice.proofs.Along.{distance}

one_more : (z : ℤ) → z +ℤ pos 1 ≡ suc_ℤ z
one_more (pos n) = omega (arith, ints)
one_more (negsuc zero) = refl
one_more (negsuc (suc n)) = omega (arith, ints)

pub product_plus : (a : ℤ) (d m : ℕ) → (a +ℤ pos d) *ℤ pos m ≡ a *ℤ pos m +ℤ pos (d * m)
product_plus a zero m = ap (λ (z : ℤ). z *ℤ pos m) (+ℤ_idr a) ∙ omega (arith, ints)
product_plus a (suc d) m =
    let once_more : a +ℤ pos (suc d) ≡ (a +ℤ pos d) +ℤ pos 1 = omega (arith, ints) in
    ap (λ (z : ℤ). z *ℤ pos m) (once_more ∙ one_more (a +ℤ pos d))
    ∙ suc_ℤ-*ℤ (a +ℤ pos d) (pos m)
    ∙ ap (λ (z : ℤ). z +ℤ pos m) (product_plus a d m)
    ∙ omega (arith, ints)

-- Of two multiples, the lesser is that of the lesser factor.
pub factor_less : (a b : ℤ) (m : ℕ) → (a *ℤ pos m) <ℤ (b *ℤ pos m) → a <ℤ b
factor_less a b m below = elim (cases_Bool (int_lt a b)) [
  | inl less ↦ grind (arith, ints)
  | inr more ↦
      let above : b ≤ℤ a = grind (arith, ints) in
      let times : a *ℤ pos m ≡ b *ℤ pos m +ℤ pos (nat_abs (a -ℤ b) * m) = ap (λ z. z *ℤ pos m) (distance b a above) ∙ product_plus b (nat_abs (a -ℤ b)) m in
      absurd (omega (arith, ints))
]

-- Two multiples of m with a distance less than m are equal.
pub multiples_same : (a b : ℤ) (m i k : ℕ) → 0 < i → i < m → k ≤ m → (a *ℤ pos m +ℤ pos k) ≡ b *ℤ pos m +ℤ pos i → a ≡ b
multiples_same a b m i k some inside within e =
    by_lt_z a b (λ below. absurd (less below)) (λ not_below. by_lt_z b a (λ above. absurd (more above)) (λ not_above. omega (arith, ints)))
  where
    less : a <ℤ b → ⊥
    less below =
        let d : ℕ = nat_abs (b -ℤ a) in
        let is : b ≡ a +ℤ pos d = distance a b (omega (arith, ints)) in
        let some_apart : 1 ≤ d = omega (arith, ints) in
        let far : 1 * m ≤ d * m = mul-le-mul_right m some_apart in
        let product : (b *ℤ pos m) ≡ a *ℤ pos m +ℤ pos (d * m) = ap (λ (x : ℤ). x *ℤ pos m) is ∙ product_plus a d m in
        omega (arith, ints, e, product, far)

    more : b <ℤ a → ⊥
    more above =
        let d : ℕ = nat_abs (a -ℤ b) in
        let is : a ≡ b +ℤ pos d = distance b a (omega (arith, ints)) in
        let some_apart : 1 ≤ d = omega (arith, ints) in
        let far : 1 * m ≤ d * m = mul-le-mul_right m some_apart in
        let product : (a *ℤ pos m) ≡ b *ℤ pos m +ℤ pos (d * m) = ap (λ (x : ℤ). x *ℤ pos m) is ∙ product_plus b d m in
        omega (arith, ints, e, product, far)

pub some_side : (n e : ℕ) → e < n * n → 0 < n
some_side zero e within = absurd (omega arith)
some_side (suc n) e within = omega arith
