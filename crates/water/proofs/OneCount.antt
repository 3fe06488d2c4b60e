-- A set has at most one count. For a set with runs it is the sum of the runs' counts.
use Rattle.std.proofs.Common.{◌≡◌, ◌≢◌, ◌+◌, ◌-◌, ◌<◌, ◌≤◌, ℕ, zero, suc, ℤ, pos, ◌+ℤ◌, ◌-ℤ◌, ◌≤ℤ◌, nat_abs, IsTrue, List, [], ◌∷◌, length, get_or, Contains, inl, inr, ⊎_elim, refl, sym, ap, ◌∙◌, subst, arith, true≢false}
use Rattle.std.specs.List.{AllPairs, remove}
use Rattle.water.specs.FlowPath.{IsInWatershed}
use Rattle.lattice.specs.declared.point.Point.{Point}
use Rattle.water.specs.declared.run.Run.{Run}
use Rattle.lattice.specs.Terrain.{Terrain}
use Rattle.std.proofs.lemmas.Bool.{cases_Bool, cases_eq, cases_lt}
use Rattle.std.proofs.lemmas.List.{get_or_default}
use Rattle.std.proofs.lemmas.Int.{ints}
use Rattle.lattice.proofs.SamePoints.{same_place}
use Rattle.lattice.proofs.Levels.{≤ℤ_same}
use Rattle.std.proofs.lemmas.List.Edits.{length-remove, get_or-remove_below, get_or-remove_above}
use Rattle.std.proofs.lemmas.List.Sums.{sum_by-cons}
use Rattle.water.specs.CountLaws.{points_in}
use Rattle.water.specs.Counts.{IsCountOf, IsUpstreamCount}
use Rattle.water.specs.Runs.{IsInRun, AreRuns, run_count}
use Rattle.water.proofs.Counted.{count_alike, count_one, count_both}
use Rattle.water.proofs.Counted.{int_split}
use Rattle.water.proofs.OneList.{InSome, from_any, to_any, Sorted, tail_sorted, apart_from_later}

-- after one element is removed from a list, the other elements are still in it
still_in : (xs : List Point) (i : ℕ) (x p : Point) → i < length xs → get_or xs i x ≡ x → x ≢ p → Contains xs p → Contains (remove xs i) p
still_in xs i x p within here apart has =
    let shorter = length-remove xs i within in
    elim (cases_lt has.0 i) [
      | inl before ↦ (has.0, omega (arith, shorter), get_or-remove_below xs i p has.0 before within ∙ has.2)
      | inr not_before ↦ elim (cases_eq has.0 i) [
        | inl this ↦ absurd (apart (sym here ∙ get_or_default xs i x p within ∙ ap (λ k. get_or xs k p) (sym this) ∙ has.2))
        | inr after ↦
            let back : (has.0 - 1) + 1 ≡ has.0 = omega arith in
            (has.0 - 1, omega (arith, shorter, has.1), get_or-remove_above xs i p (has.0 - 1) (omega arith) within ∙ ap (λ k. get_or xs k p) back ∙ has.2)
      ]
    ]

-- a list of distinct points that are all in a second list is no longer than that list
no_longer : (xs ys : List Point) → AllPairs (λ p q. p ≢ q) xs → ((p : Point) → Contains xs p → Contains ys p) → length xs ≤ length ys
no_longer [] ys once within = omega arith
no_longer (x ∷ xs) ys once within =
    let at = within x (0, omega arith, refl) in
    let fewer = no_longer xs (remove ys at.0) (λ i j d before below. once (suc i) (suc j) d (omega arith) (omega arith))
    (λ p has. still_in ys at.0 x p at.1 at.2 (λ same. once 0 (suc has.0) p (omega arith) (omega (arith, has.1)) (same ∙ sym has.2)) (within p (suc has.0, omega (arith, has.1), has.2))) in
    omega (arith, fewer, length-remove ys at.0 at.1)

one_count : (A : Point → Type 0) (k j : ℕ) → IsCountOf A k → IsCountOf A j → k ≡ j
one_count A k j a b =
    let fewer = no_longer a.points b.points a.once (λ p has. (b.all p).1 ((a.all p).0 has)) in
    let more = no_longer b.points a.points b.once (λ p has. (a.all p).1 ((b.all p).0 has)) in
    omega (arith, fewer, more, a.count, b.count)

pub one_upstream_count : (t : Terrain Point) (level : Point → ℤ) (p : Point) (k other : ℕ) → IsUpstreamCount t level p k → IsUpstreamCount t level p other → k ≡ other
one_upstream_count t level p k other a b = elim (cases_Bool (t.is_ground p)) [
  | inl on ↦ one_count (IsInWatershed t level p) k other (a.on_ground on) (b.on_ground on)
  | inr off ↦ a.elsewhere off ∙ sym (b.elsewhere off)
]

Along : ℤ → ℤ → ℕ → Point → Type 0
Along y first n p = (p.y ≡ y) × ((first ≤ℤ p.x) × (p.x ≤ℤ (first +ℤ pos n)))

single : ℤ → ℤ → Point
single y x = record { y = y; x = x }

-- n + 1 successive points of a row
row_count : (y first : ℤ) (n : ℕ) → IsCountOf (Along y first n) (n + 1)
unfolding Along single
row_count y first zero = count_one (Along y first 0) (single y first) (λ p. (
  (λ along. same_place p (single y first) along.0 (let low = along.1.0 in let high = along.1.1 in omega (arith, ints))),
  (λ is. subst (Along y first 0) (sym is) (refl, (≤ℤ_same first, omega (arith, ints)))),
))
row_count y first (suc n) =
    let one : (n + 1) + 1 ≡ suc n + 1 = omega arith in
    subst (IsCountOf (Along y first (suc n))) one
    (count_both (Along y first n) (λ p. p ≡ single y (first +ℤ pos (suc n))) (n + 1) 1 (row_count y first n)
    (count_one (λ p. p ≡ single y (first +ℤ pos (suc n))) (single y (first +ℤ pos (suc n))) (λ p. ((λ is. is), (λ is. is))))
    (λ p along is. let far : p.x ≡ first +ℤ pos (suc n) = ap (λ (q : Point). q.x) is in let near = along.1.1 in omega (arith, ints))
    (Along y first (suc n))
    (λ p. (
      (λ along. ⊎_elim
          (λ old. inl (along.0, (along.1.0, old)))
          (λ new. inr (same_place p (single y (first +ℤ pos (suc n))) along.0 (let is : p.x ≡ (first +ℤ pos n) +ℤ pos 1 = new in omega (arith, ints))))
          (int_split p.x (first +ℤ pos n) (let high = along.1.1 in omega (arith, ints)))),
      (λ either. ⊎_elim
          (λ old. (old.0, (old.1.0, (let high = old.1.1 in omega (arith, ints)))))
          (λ is. subst (Along y first (suc n)) (sym is) (refl, (omega (arith, ints), ≤ℤ_same (first +ℤ pos (suc n)))))
          either),
    )))

count_of_run : (r : Run) → r.first ≤ℤ r.last → IsCountOf (IsInRun r) (run_count r)
unfolding Along
count_of_run r full =
    let end : (r.first +ℤ pos (nat_abs (r.last -ℤ r.first))) ≡ r.last = omega (arith, ints) in
    count_alike (Along r.y r.first (nat_abs (r.last -ℤ r.first))) (IsInRun r) (run_count r)
    (λ p. ((λ along. (along.0, (along.1.0, subst (λ x. p.x ≤ℤ x) end along.1.1))), (λ within. (within.0, (within.1.0, subst (λ x. p.x ≤ℤ x) (sym end) within.1.1)))))
    (row_count r.y r.first (nat_abs (r.last -ℤ r.first)))

runs_count : (rs : List Run) → Sorted rs → IsCountOf (InSome rs) (points_in rs)
runs_count [] is = record {
  points = [];
  once = λ i j d before below. absurd (omega arith);
  all = λ p. ((λ has. absurd (omega (arith, has.1))), (λ none. absurd none));
  count = refl;
}
runs_count (r ∷ rest) is =
    subst (IsCountOf (InSome (r ∷ rest))) (sym (sum_by-cons run_count r rest))
    (count_both (IsInRun r) (InSome rest) (run_count r) (points_in rest) (count_of_run r (is.full 0 r (omega arith))) (runs_count rest (tail_sorted r rest is))
    (apart_from_later r rest is) (InSome (r ∷ rest)) (λ p. ((λ some. some), (λ some. some))))

pub count_of_runs : (t : Terrain Point) (level : Point → ℤ) (p : Point) (runs : List Run) → IsTrue (t.is_ground p) → AreRuns (IsInWatershed t level p) runs → IsUpstreamCount t level p (points_in runs)
count_of_runs t level p runs solid are = record {
  on_ground = λ on. count_alike (InSome runs) (IsInWatershed t level p) (points_in runs)
      (λ q. ((λ some. (are.covers q).0 (to_any runs q some)), (λ within. from_any runs q ((are.covers q).1 within))))
      (runs_count runs (record { full = are.full; in_order = are.in_order }));
  elsewhere = λ off. absurd (true≢false (sym solid ∙ off));
}
