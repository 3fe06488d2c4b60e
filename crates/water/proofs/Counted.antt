-- Counts of sets of points: of one point, and of two disjoint sets.
use Rattle.std.proofs.Common.{rules}
use Rattle.std.proofs.Common.{◌≡◌, ◌≢◌, ◌⊎◌, ◌↔◌, ◌+◌, ◌-◌, ◌<◌, ℕ, List, [], ◌∷◌, ◌++◌, length, get_or, Contains, inl, inr, ⊎_elim, refl, sym, ◌∙◌, subst, arith, length-append}
use Rattle.std.specs.List.{AllPairs}
use Rattle.water.specs.Counts.{IsCountOf}
use Rattle.lattice.specs.declared.point.Point.{Point}
use Rattle.std.proofs.lemmas.Bool.{cases_lt}
use Rattle.std.proofs.lemmas.List.{get_or_append_left, get_or-append_right, get_or_default}
use Rattle.std.proofs.lemmas.List.Elements.{Contains-append_left, Contains-append_right, Contains-append_cases, Contains-push_cases, Contains-push}
use Rattle.std.specs.Prelude.{ℤ, pos, ◌+ℤ◌, ◌≤ℤ◌}
use Rattle.std.proofs.lemmas.Int.{ints}

pub int_split : (a b : ℤ) → a ≤ℤ (b +ℤ pos 1) → (a ≤ℤ b) ⊎ (a ≡ (b +ℤ pos 1))
int_split a b le = search rules

pub count_alike : (A B : Point → Type 0) (k : ℕ) → ((p : Point) → A p ↔ B p) → IsCountOf A k → IsCountOf B k
count_alike A B k same of = search rules

pub count_one : (A : Point → Type 0) (p : Point) → ((x : Point) → A x ↔ (x ≡ p)) → IsCountOf A 1
count_one A p alone = record {
  points = p ∷ [];
  once = λ i j d before within. absurd (omega arith);
  all = λ x. (
    (λ has. ⊎_elim (λ none. absurd (omega (arith, none.1))) (λ is. (alone x).1 (sym is)) (Contains-push_cases [] p x has)),
    (λ a. subst (Contains (p ∷ [])) (sym ((alone x).0 a)) (Contains-push [] p)),
  );
  count = refl;
}

module _ (A B : Point → Type 0) (i j : ℕ) (a : IsCountOf A i) (b : IsCountOf B j) (apart : (p : Point) → A p → B p → ⊥) where
  stands : (xs : List Point) (k : ℕ) (d : Point) → k < length xs → Contains xs (get_or xs k d)
  stands xs k d within = (k, within, get_or_default xs k (get_or xs k d) d within)

  both_once : AllPairs (λ p q. p ≢ q) (a.points ++ b.points)
  both_once k l d before within same = elim (cases_lt l (length a.points)) [
    | inl first ↦
        a.once k l d before first (sym (get_or_append_left a.points b.points d k (omega arith)) ∙ same ∙ get_or_append_left a.points b.points d l first)
    | inr later ↦
        let right : get_or (a.points ++ b.points) l d ≡ get_or b.points (l - length a.points) d = get_or-append_right a.points b.points (length a.points) l d refl later in
        let total = length-append a.points b.points in
        let below : l - length a.points < length b.points = omega arith in
        elim (cases_lt k (length a.points)) [
          | inl one ↦
              apart (get_or a.points k d) ((a.all (get_or a.points k d)).0 (stands a.points k d one))
              (subst B (sym (sym (get_or_append_left a.points b.points d k one) ∙ same ∙ right)) ((b.all (get_or b.points (l - length a.points) d)).0 (stands b.points (l - length a.points) d below)))
          | inr both ↦
              b.once (k - length a.points) (l - length a.points) d (omega arith) below (sym (get_or-append_right a.points b.points (length a.points) k d refl both) ∙ same ∙ right)
        ]
  ]

  pub count_both : (C : Point → Type 0) → ((p : Point) → C p ↔ (A p ⊎ B p)) → IsCountOf C (i + j)
  count_both C is = record {
    points = a.points ++ b.points;
    once = both_once;
    all = λ p. (
      (λ has. (is p).1 (⊎_elim (λ left. inl ((a.all p).0 left)) (λ right. inr ((b.all p).0 right)) (Contains-append_cases a.points b.points p has))),
      (λ c. ⊎_elim (λ left. Contains-append_left a.points b.points p ((a.all p).1 left)) (λ right. Contains-append_right a.points b.points p ((b.all p).1 right)) ((is p).0 c)),
    );
    count = omega (arith, length-append a.points b.points, a.count, b.count);
  }
