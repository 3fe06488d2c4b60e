-- Bytes written one part after another.
use Rattle.std.proofs.Common.{arith, ◌≡◌, ◌∙◌, ℕ, ◌+◌, ◌-◌, ◌≤◌, min, List, ◌++◌, take, drop, length, Option, sym, ap, subst, take-add}
use Rattle.std.specs.Io.KnownBytes.{Appends}
use Rattle.std.proofs.KnownBytes.{Appends-trans}
use Rattle.std.proofs.Math.Seq.{take-append-add}
use Rattle.std.proofs.lemmas.Grind.{common_steps}
use Rattle.std.proofs.lemmas.List.{take-append-le, take_min}

-- A prefix of the bytes was written, and then a prefix of the rest.
pub Appends-next : (a b c : Option (List ℕ)) (bytes : List ℕ) (i n : ℕ) → Appends a b (take i bytes) → Appends b c (take n (take (length bytes - i) (drop i bytes))) → Appends a c (take (i + n) bytes)
Appends-next a b c bytes i n p q =
    let all : take (length bytes - i) (drop i bytes) ≡ drop i bytes = grind (arith, common_steps) in
    subst (Appends a c) (sym (take-add i n bytes)) (Appends-trans a b c _ _ p (subst (Appends b c) (ap (take n) all) q))

-- A prefix of the first part is a prefix of the whole.
pub Appends-first : (a b : Option (List ℕ)) (x y : List ℕ) (n : ℕ) → Appends a b (take n x) → (m : ℕ) × Appends a b (take m (x ++ y))
Appends-first a b x y n p =
    let m = min n (length x) in
    let inside : m ≤ length x = omega arith in
    (m, subst (Appends a b) (sym (take-append-le m x y inside ∙ take_min n x)) p)

-- The first part was written, and then a prefix of the second.
pub Appends-second : (a b c : Option (List ℕ)) (x y : List ℕ) (n : ℕ) → Appends a b x → Appends b c (take n y) → (m : ℕ) × Appends a c (take m (x ++ y))
Appends-second a b c x y n p q =
    (length x + n, subst (Appends a c) (sym (take-append-add x y n)) (Appends-trans a b c x (take n y) p q))
