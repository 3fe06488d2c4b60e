-- What tests of whole numbers show.
use Rattle.std.proofs.Common.{rules}
use Rattle.std.proofs.Common.{◌≡◌, ◌≢◌, ℤ, ◌≤ℤ◌, ◌<ℤ◌, ◌⊎◌, inl, inr, int_le, int_lt, true, false, true≢false, sym, ◌∙◌, arith}
use Rattle.lattice.proofs.Prelude.{Decides-int_eq, cases_Bool, int_eq, ints}

pub le_true : (a b : ℤ) → int_le a b ≡ true → a ≤ℤ b
le_true a b e = grind (arith, ints)

pub le_from : (a b : ℤ) → a ≤ℤ b → int_le a b ≡ true
le_from a b h = grind (arith, ints)

pub le_false : (a b : ℤ) → int_le a b ≡ false → b <ℤ a
le_false a b e = grind (arith, ints)

pub lt_true : (a b : ℤ) → int_lt a b ≡ true → a <ℤ b
lt_true a b e = grind (arith, ints)

pub lt_from : (a b : ℤ) → a <ℤ b → int_lt a b ≡ true
lt_from a b h = grind (arith, ints)

pub lt_false : (a b : ℤ) → int_lt a b ≡ false → b ≤ℤ a
lt_false a b e = grind (arith, ints)

pub eq_true : (a b : ℤ) → int_eq a b ≡ true → a ≡ b
eq_true a b e = (Decides-int_eq a b).0 e

pub eq_from : (a b : ℤ) → a ≡ b → int_eq a b ≡ true
eq_from a b h = (Decides-int_eq a b).1 h

pub int_eq-swap : (a b : ℤ) → int_eq a b ≡ int_eq b a
int_eq-swap a b = grind (arith, ints)

pub eq_or_not : (a b : ℤ) → (a ≡ b) ⊎ (a ≢ b)
eq_or_not a b = search rules

pub le_or_above : (a b : ℤ) → (a ≤ℤ b) ⊎ (b <ℤ a)
le_or_above a b = elim (cases_Bool (int_le a b)) [ inl le ↦ inl (le_true a b le) | inr above ↦ inr (le_false a b above) ]
