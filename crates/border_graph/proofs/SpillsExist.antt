-- Levels and labels of a block have spills.
use Rattle.std.proofs.Common.{rules}
use Rattle.std.proofs.Common.{◌≡◌, ℕ, zero, suc, ◌+◌, ◌*◌, ◌/◌, ◌%◌, ◌<◌, ◌⊎◌, inl, inr, ℤ, ◌≤ℤ◌, List, [], ◌∷◌, get_or, slice_index, slice_index_or, min, max, refl, sym, ap, ◌∙◌, subst, arith, true≢false, int_le, All, Contains, AllPairs}
use Rattle.border_graph.proofs.Prelude.{All-contains, Contains-append_right, Contains-get_or, Spill, bare_block, cases_Bool, cases_eq, cases_lt, int_max, ints, is_linked, linked_parts, solid_below, void, ≤ℤ_same}
use Rattle.std.proofs.lemmas.List.Kept.{AllPairs-cons}
use Rattle.lattice.proofs.IntTests.{le_true, le_false}
use Rattle.labelling.specs.Spills.{HaveSameLabels, AreSpills}
use Rattle.labelling.specs.Passing.{IsPassage, IsListed, ArePassages, IsFound}
use Rattle.labelling.proofs.Squares.{in_square, linked_below, solid_height, test_if, row_of_cell, column_of_cell}
use Rattle.labelling.proofs.Squares.{apart_if}
use Rattle.labelling.proofs.Passages.{listed_last, passages_more, found_still, found_now, spills_are}

abbrev Once : List Spill → Type 0
Once spills = AllPairs (λ p q. ¬ HaveSameLabels p q) spills

same_turned : (p q : Spill) → HaveSameLabels p q → HaveSameLabels q p
same_turned p q same = record { same_a = sym same.same_a; same_b = sym same.same_b }

same_on : (p q r : Spill) → HaveSameLabels p q → HaveSameLabels q r → HaveSameLabels p r
same_on p q r one other = record { same_a = one.same_a ∙ other.same_a; same_b = one.same_b ∙ other.same_b }

same_or_not : (p q : Spill) → HaveSameLabels p q ⊎ (¬ HaveSameLabels p q)
same_or_not p q = search rules

lower_or_not : (a b : ℤ) → (a ≤ℤ b) ⊎ (b ≤ℤ a)
lower_or_not a b = elim (cases_Bool (int_le a b)) [ inl le ↦ inl (le_true a b le) | inr above ↦ inr (let more = le_false a b above in omega (arith, ints)) ]

in_rest : (p q : Spill) (spills : List Spill) → Contains spills q → Contains (p ∷ spills) q
in_rest p q spills has = Contains-append_right (p ∷ []) spills q has

first_or_rest : (p q : Spill) (spills : List Spill) → Contains (p ∷ spills) q → (q ≡ p) ⊎ Contains spills q
first_or_rest p q spills (zero, small, is) = inl (sym is)
first_or_rest p q spills (suc k, small, is) = inr (k, omega arith, is)

each_of : (P : Spill → Type 0) (spills : List Spill) → ((q : Spill) → Contains spills q → P q) → All P spills
each_of P spills h = λ k d small. h (get_or spills k d) (Contains-get_or spills k d small)

once_rest : (q : Spill) (spills : List Spill) → Once (q ∷ spills) → Once spills
once_rest q spills once = λ i j d before small. once (suc i) (suc j) d (omega arith) (omega arith)

once_first : (q : Spill) (spills : List Spill) → Once (q ∷ spills) → All (λ r. ¬ HaveSameLabels q r) spills
once_first q spills once = λ j d small. once 0 (suc j) d (omega arith) (omega arith)

same_itself : (p : Spill) → HaveSameLabels p p
same_itself p = record { same_a = refl; same_b = refl }

-- a passage is added to the list, or lowers the listed one with the same labels
put : (p : Spill) (old : List Spill) → Once old → (new : List Spill) × (IsListed old new p × Once new)
put p [] once = (p ∷ [], (listed_last [] (p ∷ []) p refl, λ i j d before small. absurd (omega arith)))
put p (q ∷ rest) once = elim (same_or_not q p) [
  | inl same ↦ elim (lower_or_not q.level p.level) [
    | inl lower ↦ (
      q ∷ rest,
      (record { only = λ r has. inl has; still = λ r has. (r, (has, (same_itself r, ≤ℤ_same r.level))); listed = (q, ((0, omega arith, refl), (same, lower))) }, once),
    )
    | inr lower ↦ (
      p ∷ rest,
      (
        record {
          only = λ r has. elim (first_or_rest p r rest has) [ inl is ↦ inr (sym is) | inr later ↦ inl (in_rest q r rest later) ];
          still = λ r has. elim (first_or_rest q r rest has) [
            | inl is ↦ (p, ((0, omega arith, refl), (subst (HaveSameLabels p) (sym is) (same_turned q p same), subst (λ (s : Spill). p.level ≤ℤ s.level) (sym is) lower)))
            | inr later ↦ (r, (in_rest p r rest later, (same_itself r, ≤ℤ_same r.level)))
          ];
          listed = (p, ((0, omega arith, refl), (same_itself p, ≤ℤ_same p.level)));
        },
        AllPairs-cons (λ a b. ¬ HaveSameLabels a b) p rest (each_of (λ r. ¬ HaveSameLabels p r) rest (λ r has also. All-contains (λ s. ¬ HaveSameLabels q s) rest r (once_first q rest once) has (same_on q p r same also))) (once_rest q rest once),
      ),
    )
  ]
  | inr apart ↦
      let on = put p rest (once_rest q rest once) in (
        q ∷ on.0,
        (
          record {
            only = λ r has. elim (first_or_rest q r on.0 has) [
              | inl is ↦ inl (0, omega arith, sym is)
              | inr later ↦ elim (on.1.0.only r later) [ inl old ↦ inl (in_rest q r rest old) | inr is ↦ inr is ]
            ];
            still = λ r has. elim (first_or_rest q r rest has) [
              | inl is ↦ (r, ((0, omega arith, sym is), (same_itself r, ≤ℤ_same r.level)))
              | inr later ↦ let t = on.1.0.still r later in (t.0, (in_rest q t.0 on.0 t.1.0, t.1.1))
            ];
            listed = let t = on.1.0.listed in (t.0, (in_rest q t.0 on.0 t.1.0, t.1.1));
          },
          AllPairs-cons (λ a b. ¬ HaveSameLabels a b) q on.0 (each_of (λ r. ¬ HaveSameLabels q r) on.0 (λ r has. elim (on.1.0.only r has) [
            | inl old ↦ All-contains (λ s. ¬ HaveSameLabels q s) rest r (once_first q rest once) old
            | inr is ↦ λ also. apart (subst (HaveSameLabels q) (sym is) also)
          ])) on.1.1,
        ),
      )
]

module _ (n : ℕ) (levels : List ℤ) (labels : List ℕ) where
  -- the list has the passages of all pairs of points with a number below k
  record AreSoFar (k : ℕ) (spills : List Spill) : Type 0 where
    each : ArePassages n levels labels spills
    all : (e f : ℕ) → e * (n * n) + f < k → IsFound n levels labels spills e f
    once : Once spills

  -- the passages of one more pair of points are listed
  next : (k : ℕ) (spills : List Spill) → ((e f : ℕ) → e * (n * n) + f < k → IsFound n levels labels spills e f) → IsFound n levels labels spills (k / (n * n)) (k % (n * n)) →
      (e f : ℕ) → e * (n * n) + f < k + 1 → IsFound n levels labels spills e f
  next k spills before here e f below link = elim (cases_lt (e * (n * n) + f) k) [
    | inl earlier ↦ before e f earlier link
    | inr later ↦
        let at : k ≡ e * (n * n) + f = omega arith in
        let small = linked_below n levels e f link in
        subst (λ i. IsFound n levels labels spills i f) (ap (λ v. v / (n * n)) at ∙ row_of_cell (n * n) e f small)
        (subst (λ j. IsFound n levels labels spills (k / (n * n)) j) (ap (λ v. v % (n * n)) at ∙ column_of_cell (n * n) e f small) here) link
  ]

  one_more : (k : ℕ) (spills : List Spill) → AreSoFar k spills → (new : List Spill) × AreSoFar (k + 1) new
  one_more k spills s =
      let e : ℕ = k / (n * n) in
      let f : ℕ = k % (n * n) in
      elim (cases_Bool (is_linked (bare_block n levels) e f)) [
        | inr apart ↦ (spills, record { each = s.each; all = next k spills s.all (λ link. absurd (true≢false (sym link ∙ apart))); once = s.once })
        | inl link ↦ elim (cases_eq (slice_index labels e) (slice_index labels f)) [
          | inl same ↦ (spills, record { each = s.each; all = next k spills s.all (λ _ other. absurd (other same)); once = s.once })
          | inr other ↦
              let p : Spill = record { a = min (slice_index labels e) (slice_index labels f); b = max (slice_index labels e) (slice_index labels f); level = int_max (slice_index_or levels e void) (slice_index_or levels f void) } in
              let parts = linked_parts n levels e f link in
              let is : IsPassage levels labels e f p = record {
                from = test_if (slice_index_or levels e void) (solid_height n levels e parts.from);
                to = test_if (slice_index_or levels f void) (solid_height n levels f parts.to);
                apart = other;
                lower = refl;
                higher = refl;
                level = refl;
              } in
              let on = put p spills s.once in (
                on.0,
                record {
                  each = passages_more n levels labels spills on.0 p e f on.1.0 s.each (solid_below n levels e parts.from) (solid_below n levels f parts.to) (apart_if e f parts.apart) parts.beside is;
                  all = next k on.0 (λ i j below. found_still n levels labels spills on.0 i j on.1.0.still (s.all i j below)) (found_now n levels labels spills on.0 p e f on.1.0 is);
                  once = on.1.1;
                },
              )
        ]
      ]

  so_far : (k : ℕ) → (spills : List Spill) × AreSoFar k spills
  so_far zero = ([], record { each = λ p has. let h = has.1 in absurd (omega arith); all = λ e f below. absurd (omega arith); once = λ i j d before small. absurd (omega arith) })
  so_far (suc k) =
      let before = so_far k in
      let more = one_more k before.0 before.1 in
      let same : k + 1 ≡ suc k = omega arith in
      (more.0, subst (λ i. AreSoFar i more.0) same more.1)

  pub spills_exist : (spills : List Spill) × AreSpills n levels levels labels spills
  spills_exist =
      let found = so_far ((n * n) * (n * n)) in (
        found.0,
        spills_are n levels labels found.0 found.0 found.1.each (λ e f low less link. found.1.all e f (in_square (n * n) e f low (linked_below n levels e f link)) link)
            (λ p has. has) (λ p has. (p, (has, (same_itself p, ≤ℤ_same p.level)))) found.1.once,
      )
