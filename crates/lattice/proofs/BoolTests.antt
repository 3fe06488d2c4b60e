-- What joined or counted tests show. `and_comm`, `and-true` and `or-false` are in std.
use Rattle.std.proofs.Common.{◌≡◌, ◌≤◌, Bool, true, false, cond, ◌&&◌, refl, sym, ap, arith}
use Rattle.std.proofs.lemmas.Bool.{and_right}

-- Two tests that imply each other are equal.
pub same_tests : (a b : Bool) → (a ≡ true → b ≡ true) → (b ≡ true → a ≡ true) → a ≡ b
same_tests true b there back = sym (there refl)
same_tests false true there back = back refl
same_tests false false there back = refl

pub fourth_fails : (a b c d e : Bool) → d ≡ false → (a && b && c && d && e) ≡ false
fourth_fails a b c d e off = ap (λ x. x && e) (and_right (a && b && c) d off)

pub one_at_most : (b : Bool) → cond b 1 0 ≤ 1
one_at_most true = omega arith
one_at_most false = omega arith
