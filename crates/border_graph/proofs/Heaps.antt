-- The heap stores reversed elements, so the lowest is removed first.
use Rattle.std.proofs.Common.{◌≡◌, zero, suc, ◌<◌, ◌⊎◌, inl, inr, List, [], ◌∷◌, length, get_or, refl, sym, ap, ◌∙◌, subst, arith, map, Contains, IsPermutation}
use Rattle.border_graph.proofs.Prelude.{Contains-append_right, Contains-get_or, Contains-permutation, IsAdded, IsPermutation-sym, IsTaken, get_or-map, length-map}
use Rattle.std.specs.List.{AllByRecursion}
use Rattle.std.specs.declared.cmp.Reverse.{Reverse}

module _ {X : Type 0} where
  contains_map : (xs : List (Reverse X)) (x : Reverse X) → Contains xs x → Contains (map (λ (r : Reverse X). r.0) xs) x.0
  contains_map xs x has = (has.0, subst (λ n. has.0 < n) (sym (length-map xs (λ (r : Reverse X). r.0))) has.1, get_or-map (λ (r : Reverse X). r.0) xs has.0 x ∙ ap (λ (r : Reverse X). r.0) has.2)

  contains_unmap : (xs : List (Reverse X)) (l : X) → Contains (map (λ (r : Reverse X). r.0) xs) l → (x : Reverse X) × (Contains xs x × (x.0 ≡ l))
  contains_unmap xs l has =
      let inside : has.0 < length xs = subst (λ n. has.0 < n) (length-map xs (λ (r : Reverse X). r.0)) has.1 in
      (get_or xs has.0 (record { 0 = l }), (Contains-get_or xs has.0 (record { 0 = l }) inside, sym (get_or-map (λ (r : Reverse X). r.0) xs has.0 (record { 0 = l })) ∙ has.2))

  first_or_rest : (x y : Reverse X) (xs : List (Reverse X)) → Contains (x ∷ xs) y → (y ≡ x) ⊎ Contains xs y
  first_or_rest x y xs (zero, small, is) = inl (sym is)
  first_or_rest x y xs (suc k, small, is) = inr (k, omega arith, is)

  all_has : (P : Reverse X → Type 0) (xs : List (Reverse X)) (x : Reverse X) → AllByRecursion P xs → Contains xs x → P x
  all_has P [] x all has = let h = has.1 in absurd (omega arith)
  all_has P (y ∷ ys) x all (zero, small, is) = subst P is all.0
  all_has P (y ∷ ys) x all (suc k, small, is) = all_has P ys x all.1 (k, omega arith, is)

  pub added_to_heap : (old new : List (Reverse X)) (x : Reverse X) → IsPermutation (x ∷ old) new → IsAdded (map (λ (r : Reverse X). r.0) old) (map (λ (r : Reverse X). r.0) new) x.0
  added_to_heap old new x p = record {
    waits = contains_map new x (Contains-permutation (x ∷ old) new x p (0, omega arith, refl));
    others = λ l has.
        let there = contains_unmap old l has in
        subst (Contains (map (λ (r : Reverse X). r.0) new)) there.1.1 (contains_map new there.0 (Contains-permutation (x ∷ old) new there.0 p (Contains-append_right (x ∷ []) old there.0 there.1.0)));
    only = λ l has.
        let there = contains_unmap new l has in
        elim (first_or_rest x there.0 old (Contains-permutation new (x ∷ old) there.0 (IsPermutation-sym (x ∷ old) new p) there.1.0)) [
          | inl same ↦ inl (sym there.1.1 ∙ ap (λ (r : Reverse X). r.0) same)
          | inr rest ↦ inr (subst (Contains (map (λ (r : Reverse X). r.0) old)) there.1.1 (contains_map old there.0 rest))
        ];
  }

  pub taken_from_heap : (IsNoHigher : X → X → Type 0) (old new : List (Reverse X)) (x : Reverse X) → IsPermutation old (x ∷ new) → AllByRecursion (λ (y : Reverse X). IsNoHigher x.0 y.0) old
      → IsTaken IsNoHigher (map (λ (r : Reverse X). r.0) old) (map (λ (r : Reverse X). r.0) new) x.0
  taken_from_heap IsNoHigher old new x p least = record {
    waited = contains_map old x (Contains-permutation (x ∷ new) old x (IsPermutation-sym old (x ∷ new) p) (0, omega arith, refl));
    lowest = λ l has.
        let there = contains_unmap old l has in
        subst (λ (v : X). IsNoHigher x.0 v) there.1.1 (all_has (λ (y : Reverse X). IsNoHigher x.0 y.0) old there.0 least there.1.0);
    others = λ l has.
        let there = contains_unmap old l has in
        elim (first_or_rest x there.0 new (Contains-permutation old (x ∷ new) there.0 p there.1.0)) [
          | inl same ↦ inl (sym there.1.1 ∙ ap (λ (r : Reverse X). r.0) same)
          | inr rest ↦ inr (subst (Contains (map (λ (r : Reverse X). r.0) new)) there.1.1 (contains_map new there.0 rest))
        ];
    only = λ l has.
        let there = contains_unmap new l has in
        subst (Contains (map (λ (r : Reverse X). r.0) old)) there.1.1 (contains_map old there.0 (Contains-permutation (x ∷ new) old there.0 (IsPermutation-sym old (x ∷ new) p) (Contains-append_right (x ∷ []) new there.0 there.1.0)));
  }
