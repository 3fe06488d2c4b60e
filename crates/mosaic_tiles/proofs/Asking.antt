-- Two words; and four words or more: three, those between, and the last.
use Rattle.std.proofs.Common.{arith, suc, ◌≡◌, ◌≤◌, ℕ, ◌+◌, ◌-◌, List, [], ◌∷◌, ◌++◌, length, take, drop, get_or, sym, ap, ◌∙◌, subst}
use Rattle.std.proofs.lemmas.List.{take_more, take_all}

last_apart : {X : Type 0} (xs : List X) (n : ℕ) (d : X) → length xs ≡ n + 1 → xs ≡ take n xs ++ get_or xs n d ∷ []
last_apart xs n d long = sym (take_all (n + 1) xs (omega (arith, long))) ∙ take_more xs n d (omega (arith, long))

pub parts : {X : Type 0} (xs : List X) (a b c z : X) → 4 ≤ length xs → a ≡ get_or xs 0 a → b ≡ get_or xs 1 b → c ≡ get_or xs 2 c → z ≡ get_or xs (length xs - 1) z
    → xs ≡ a ∷ b ∷ c ∷ (take (length xs - 1 - 3) (drop 3 xs) ++ z ∷ [])
parts [] a b c z long e f g h = absurd (omega (arith, long))
parts (i ∷ []) a b c z long e f g h = absurd (omega (arith, long))
parts (i ∷ j ∷ []) a b c z long e f g h = absurd (omega (arith, long))
parts (i ∷ j ∷ k ∷ []) a b c z long e f g h = absurd (omega (arith, long))
parts {X} (i ∷ j ∷ k ∷ y ∷ ys) a b c z long e f g h =
    let count : suc (suc (suc (suc (length ys)))) - 1 - 3 ≡ length ys = omega arith in
    let at : suc (suc (suc (suc (length ys)))) - 1 ≡ suc (suc (suc (length ys))) = omega arith in
    let last : z ≡ get_or (y ∷ ys) (length ys) z = h ∙ ap (λ (n : ℕ). get_or (i ∷ j ∷ k ∷ y ∷ ys) n z) at in
    let rest : y ∷ ys ≡ take (suc (suc (suc (suc (length ys)))) - 1 - 3) (y ∷ ys) ++ z ∷ [] =
    last_apart (y ∷ ys) (length ys) z (omega arith)
    ∙ ap (λ (w : X). take (length ys) (y ∷ ys) ++ w ∷ []) (sym last) ∙ ap (λ (n : ℕ). take n (y ∷ ys) ++ z ∷ []) (sym count) in
    subst (λ (w : X). i ∷ j ∷ k ∷ y ∷ ys ≡ w ∷ b ∷ c ∷ (take (suc (suc (suc (suc (length ys)))) - 1 - 3) (y ∷ ys) ++ z ∷ [])) (sym e)
    (subst (λ (w : X). i ∷ j ∷ k ∷ y ∷ ys ≡ i ∷ w ∷ c ∷ (take (suc (suc (suc (suc (length ys)))) - 1 - 3) (y ∷ ys) ++ z ∷ [])) (sym f)
    (subst (λ (w : X). i ∷ j ∷ k ∷ y ∷ ys ≡ i ∷ j ∷ w ∷ (take (suc (suc (suc (suc (length ys)))) - 1 - 3) (y ∷ ys) ++ z ∷ [])) (sym g)
    (ap (λ (l : List X). i ∷ j ∷ k ∷ l) rest)))

pub two : {X : Type 0} (xs : List X) (a b : X) → length xs ≡ 2 → a ≡ get_or xs 0 a → b ≡ get_or xs 1 b → xs ≡ a ∷ b ∷ []
two [] a b long e f = absurd (omega (arith, long))
two (i ∷ []) a b long e f = absurd (omega (arith, long))
two {X} (i ∷ j ∷ []) a b long e f = sym (ap (λ (w : X). w ∷ b ∷ []) e ∙ ap (λ (w : X). i ∷ w ∷ []) f)
two (i ∷ j ∷ k ∷ xs) a b long e f = absurd (omega (arith, long))
