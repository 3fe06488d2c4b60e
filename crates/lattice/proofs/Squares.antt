-- The square root of 2 is irrational: if 2 * p * p is q * q, the same is true of the halves of p and q.
use Rattle.lattice.proofs.Prelude.{ℕ, arith, cases_eq, cases_lt, inl, inr, subst, suc, zero, ◌%◌, ◌*◌, ◌+◌, ◌/◌, ◌<◌, ◌≡◌, ◌⊎◌}

-- A number is twice another, or one more than that.
halves : (n : ℕ) → (h : ℕ) × ((n ≡ h + h) ⊎ (n ≡ h + h + 1))
halves n = (n / 2, elim (cases_lt (n % 2) 1) [ inl even ↦ inl (omega arith) | inr odd ↦ inr (omega arith) ])

-- If p is at most the bound and 2 * p * p is q * q, then p is 0, if that is so for each p below the bound.
descend : (bound p q : ℕ) → ((g h : ℕ) → g < bound → 2 * (g * g) ≡ h * h → g ≡ 0) → p < suc bound → 2 * (p * p) ≡ q * q →
    (g h : ℕ) → (p ≡ g + g) ⊎ (p ≡ g + g + 1) → (q ≡ h + h) ⊎ (q ≡ h + h + 1) → p ≡ 0
descend bound p q again below e g h (inl p_even) (inl q_even) =
    let square : 2 * ((g + g) * (g + g)) ≡ (h + h) * (h + h) = subst (λ v. 2 * (v * v) ≡ (h + h) * (h + h)) p_even (subst (λ v. 2 * (p * p) ≡ v * v) q_even e) in
    let smaller : 2 * (g * g) ≡ h * h = omega arith in
    elim (cases_eq g 0) [
      | inl none ↦ omega arith
      | inr some ↦ let none : g ≡ 0 = again g h (omega arith) smaller in omega arith
    ]
descend bound p q again below e g h (inr p_odd) (inl q_even) =
    let square : 2 * ((g + g + 1) * (g + g + 1)) ≡ (h + h) * (h + h) = subst (λ v. 2 * (v * v) ≡ (h + h) * (h + h)) p_odd (subst (λ v. 2 * (p * p) ≡ v * v) q_even e) in
    absurd (omega arith)
descend bound p q again below e g h either (inr q_odd) =
    let square : 2 * (p * p) ≡ (h + h + 1) * (h + h + 1) = subst (λ v. 2 * (p * p) ≡ v * v) q_odd e in
    absurd (omega arith)

below_bound : (bound p q : ℕ) → p < bound → 2 * (p * p) ≡ q * q → p ≡ 0
below_bound zero p q below e = absurd (omega arith)
below_bound (suc bound) p q below e = descend bound p q (below_bound bound) below e (halves p).0 (halves q).0 (halves p).1 (halves q).1

pub no_double_square : (p q : ℕ) → 2 * (p * p) ≡ q * q → p ≡ 0
no_double_square p q e = below_bound (suc p) p q (omega arith) e
