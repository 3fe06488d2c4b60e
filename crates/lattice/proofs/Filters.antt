-- Which elements a filter keeps.
use Rattle.std.proofs.Common.{◌≡◌, zero, suc, Bool, true, false, cond, List, [], ◌∷◌, Contains, subst, sym, arith}
use Rattle.std.specs.List.{filter}
use Rattle.std.proofs.lemmas.List.Elements.{Contains-append_right}

pub contains_filtered : {X : Type 0} (test : X → Bool) (xs : List X) (x : X) → Contains xs x → test x ≡ true → Contains (filter test xs) x
contains_filtered test [] x has passes = absurd (omega (arith, has.1))
contains_filtered test (y ∷ rest) x (zero, lt, is) passes =
    let here : test y ≡ true = subst (λ v. test v ≡ true) (sym is) passes in
    subst (λ b. Contains (cond b (y ∷ filter test rest) (filter test rest)) x) (sym here) (0, omega arith, is)
contains_filtered test (y ∷ rest) x (suc k, lt, is) passes =
    let later = contains_filtered test rest x (k, omega arith, is) passes in
    elim (test y) as (λ b. Contains (cond b (y ∷ filter test rest) (filter test rest)) x) [ true ↦ Contains-append_right (y ∷ []) (filter test rest) x later | false ↦ later ]
