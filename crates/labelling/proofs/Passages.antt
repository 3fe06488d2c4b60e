-- The passages between labels. Each pair of adjacent points is visited once, and the lowest passage between two labels comes
-- first in the order.
use Rattle.std.proofs.Common.{◌≡◌, ◌≢◌, ℕ, ◌+◌, ◌*◌, ◌-◌, ◌/◌, ◌%◌, ◌<◌, ◌≤◌, ◌⊎◌, inl, inr, ℤ, ◌≤ℤ◌, false, not, IsTrue, ◌&&◌, List, [], ◌∷◌, ◌++◌, length, get_or, set, get_or-set_same, get_or-set_other, length-set, slice_index, refl, sym, ap, ap₂, ◌∙◌, subst, arith, true≢false, cond, int_lt, nat_eq, All, Contains, Less, Equal, Greater, AllPairs, IsPermutation, mul-le-mul_right}
use Rattle.labelling.specs.Passing.{AreFoundBelow, AreFoundStill, ArePassages, IsFound}
use Rattle.labelling.specs.Spills.{AreSpills}
use Rattle.std.proofs.lemmas.Bool.Decides.{Decides-int_eq}
use Rattle.labelling.specs.Labelling.{IsLabelling}
use Rattle.labelling.specs.declared.spill.Spill.{Spill}
use Rattle.labelling.specs.Blocks.{bare_block, block_of, is_marked}
use Rattle.lattice.proofs.Lawful.{block_is_lawful}
use Rattle.lattice.specs.Block.{block_terrain, is_beside, is_linked, is_solid}
use Rattle.std.proofs.lemmas.Bool.{cases_Bool, cases_eq, cases_lt, eq-eqb, ne_eqb, not-true}
use Rattle.std.proofs.Math.ListN.{get_or-eq_default}
use Rattle.std.proofs.lemmas.List.{get_or_default}
use Rattle.std.specs.Int.{int_max}
use Rattle.std.proofs.lemmas.Int.{ints}
use Rattle.lattice.specs.Mosaic.{void}
use Rattle.lattice.proofs.Levels.{≤ℤ_same, ≤ℤ_trans}
use Rattle.std.specs.Ordering.{int_eq, is_lt, nat_cmp, int_cmp, ordering_then}
use Rattle.std.specs.Cmp.{nat_cmp_is}
use Rattle.std.proofs.lemmas.List.Quantifiers.{all_pairs_push}
use Rattle.std.proofs.lemmas.List.Elements.{Contains-get_or, Contains-append_left, Contains-push, Contains-push_cases}
use Rattle.std.proofs.lemmas.List.Sorted.{Contains-permutation, IsPermutation-sym}
use Rattle.lattice.specs.Mosaic.{IsSample}
use Rattle.lattice.proofs.Levels.{height-le_level, max-swap}
use Rattle.labelling.specs.Spills.{Meets, HaveSameLabels}
use Rattle.labelling.specs.Passing.{IsPassage, IsNoPassage, IsMetBy, IsListed, AreBeside, IsInOrder, AreFirsts, AreFirstsBelow, HasLowerLabels}
use Rattle.labelling.proofs.Squares.{linked_parts, linked_from, linked_apart, beside_if, solid_below, solid_if, row_of_cell, column_of_cell, cell_of, row_below, test_if, solid_height}

differ : (e f : ℕ) → IsTrue (not (nat_eq e f)) → e ≢ f
differ e f h same = absurd (true≢false (sym h ∙ ap not (ap (nat_eq e) (sym same) ∙ eq-eqb e e refl)))

-- two spills of the list with the same labels are the same
one_of_each : (spills : List Spill) → AllPairs (λ p q. ¬ HaveSameLabels p q) spills → (p q : Spill) → Contains spills p → Contains spills q → HaveSameLabels p q → p ≡ q
one_of_each spills once p q has_p has_q same = elim (cases_lt has_p.0 has_q.0) [
  | inl before ↦ absurd (once has_p.0 has_q.0 p before has_q.1 (of_labels _ _ p q (at_p p) (at_q p) same))
  | inr not_before ↦ elim (cases_lt has_q.0 has_p.0) [
    | inl after ↦ absurd (once has_q.0 has_p.0 p after has_p.1 (of_labels _ _ q p (at_q p) (at_p p) (record { same_a = sym same.same_a; same_b = sym same.same_b })))
    | inr not_after ↦
        let one : has_p.0 ≡ has_q.0 = omega arith in
        sym (at_p p) ∙ (ap (λ k. get_or spills k p) one ∙ at_q p)
  ]
]
  where
    at_p : (d : Spill) → get_or spills has_p.0 d ≡ p
    at_p d = get_or_default spills has_p.0 d p has_p.1 ∙ has_p.2

    at_q : (d : Spill) → get_or spills has_q.0 d ≡ q
    at_q d = get_or_default spills has_q.0 d q has_q.1 ∙ has_q.2

    of_labels : (a b x y : Spill) → a ≡ x → b ≡ y → HaveSameLabels x y → HaveSameLabels a b
    of_labels a b x y is_x is_y h = subst (λ u. HaveSameLabels u b) (sym is_x) (subst (HaveSameLabels x) (sym is_y) h)

-- two cells at most one row and one column apart are neighbours
pub beside_cells : (n i j i' j' e f : ℕ) → e ≡ i * n + j → f ≡ i' * n + j' → j < n → j' < n → i ≤ i' + 1 → i' ≤ i + 1 → j ≤ j' + 1 → j' ≤ j + 1 → IsTrue (is_beside n e f)
beside_cells n i j i' j' e f at_e at_f small small' north south west east =
    let row : e / n ≡ i = ap (λ v. v / n) at_e ∙ row_of_cell n i j small in
    let row' : f / n ≡ i' = ap (λ v. v / n) at_f ∙ row_of_cell n i' j' small' in
    let column : e % n ≡ j = ap (λ v. v % n) at_e ∙ column_of_cell n i j small in
    let column' : f % n ≡ j' = ap (λ v. v % n) at_f ∙ column_of_cell n i' j' small' in
    beside_if n e f (record { north = omega arith; south = omega arith; west = omega arith; east = omega arith })

last_row : (n i : ℕ) → i < n → i * n + n ≤ n * n
last_row n i inside = let more : i + 1 ≤ n = omega arith in omega (arith, mul-le-mul_right n more)

pub beside_east : (n i : ℕ) → i < n → AreBeside n (i * n) (i * n + 1) (n - 1)
beside_east n i inside =
    let room = last_row n i inside in record {
      first = omega arith;
      second = omega arith;
      beside = λ k less. beside_cells n i k i (k + 1) (i * n + k) (i * n + 1 + k) refl (omega arith) (omega arith) (omega arith) (omega arith) (omega arith) (omega arith) (omega arith);
      apart = omega arith;
    }

-- the pairs of points of a row and the next row
module _ (n i : ℕ) (above : i + 1 < n) where
  room : i * n + n + n ≤ n * n
  room = let more = last_row n (i + 1) above in omega arith

  pub beside_south : AreBeside n (i * n) (i * n + n) n
  beside_south = let enough = room in record {
    first = omega arith;
    second = omega arith;
    beside = λ k less. beside_cells n i k (i + 1) k (i * n + k) (i * n + n + k) refl (omega arith) (omega arith) (omega arith) (omega arith) (omega arith) (omega arith) (omega arith);
    apart = omega arith;
  }

  pub beside_south_east : AreBeside n (i * n) (i * n + n + 1) (n - 1)
  beside_south_east = let enough = room in record {
    first = omega arith;
    second = omega arith;
    beside = λ k less. beside_cells n i k (i + 1) (k + 1) (i * n + k) (i * n + n + 1 + k) refl (omega arith) (omega arith) (omega arith) (omega arith) (omega arith) (omega arith) (omega arith);
    apart = omega arith;
  }

  pub beside_south_west : AreBeside n (i * n + 1) (i * n + n) (n - 1)
  beside_south_west = let enough = room in record {
    first = omega arith;
    second = omega arith;
    beside = λ k less. beside_cells n i (k + 1) (i + 1) k (i * n + 1 + k) (i * n + n + k) (omega arith) (omega arith) (omega arith) (omega arith) (omega arith) (omega arith) (omega arith) (omega arith);
    apart = omega arith;
  }

-- a passage that the old list meets is met by the new list
pub met_still : (old new : List Spill) (p : Spill) → AreFoundStill old new → IsMetBy old p → IsMetBy new p
met_still old new p still (q, (has, (same, low))) =
    let on = still q has in
    (on.0, (on.1.0, (record { same_a = on.1.1.0.same_a ∙ same.same_a; same_b = on.1.1.0.same_b ∙ same.same_b }, ≤ℤ_trans on.0.level q.level p.level on.1.1.1 low)))

-- a passage added at the list's end is listed
pub listed_last : (found found' : List Spill) (p : Spill) → found' ≡ found ++ p ∷ [] → IsListed found found' p
listed_last found found' p is = subst (λ l. IsListed found l p) (sym is) (record {
  only = λ q has. Contains-push_cases found p q has;
  still = λ q has. (q, (Contains-append_left found (p ∷ []) q has, (record { same_a = refl; same_b = refl }, ≤ℤ_same q.level)));
  listed = (p, (Contains-push found p, (record { same_a = refl; same_b = refl }, ≤ℤ_same p.level)));
})

-- a passage that replaces a higher one with the same labels is listed
module _ (found : List Spill) (k : ℕ) (p : Spill) (small : k < length found) (same : (d : Spill) → HaveSameLabels (get_or found k d) p) where
  there : Contains (set found k p) p
  there = (k, subst (λ n. k < n) (sym (length-set found k p)) small, get_or-set_same found k p p small)

  pub listed_in_place : p.level ≤ℤ (get_or found k p).level → IsListed found (set found k p) p
  listed_in_place low = record {
    only = λ q has. elim (cases_eq has.0 k) [
      | inl here ↦ inr (sym (get_or-set_same found k p q small) ∙ (ap (λ i. get_or (set found k p) i q) (sym here) ∙ has.2))
      | inr other ↦ inl (has.0, subst (λ n. has.0 < n) (length-set found k p) has.1, sym (get_or-set_other found k has.0 p q other) ∙ has.2)
    ];
    still = λ q has. elim (cases_eq has.0 k) [
      | inl here ↦
          let is : get_or found k p ≡ q = get_or_default found k p q small ∙ (ap (λ i. get_or found i q) (sym here) ∙ has.2) in
          (p, (there, subst (λ (r : Spill). HaveSameLabels p r × (p.level ≤ℤ r.level)) is (record { same_a = sym (same p).same_a; same_b = sym (same p).same_b }, low)))
      | inr other ↦ (q, ((has.0, subst (λ n. has.0 < n) (sym (length-set found k p)) has.1, get_or-set_other found k has.0 p q other ∙ has.2), (record { same_a = refl; same_b = refl }, ≤ℤ_same q.level)))
    ];
    listed = (p, (there, (record { same_a = refl; same_b = refl }, ≤ℤ_same p.level)));
  }

module _ (n : ℕ) (levels : List ℤ) (labels : List ℕ) where
  -- a passage between two neighbours is a place where their labels meet
  pub passage_meets : (e f : ℕ) (p : Spill) → e < n * n → f < n * n → e ≢ f → IsTrue (is_beside n e f) → IsPassage levels labels e f p →
      (p.a < p.b) × Meets n levels levels labels p.a p.b p.level
  passage_meets e f p in_e in_f other beside h =
      let solid_e : IsTrue (is_solid (bare_block n levels) e) = solid_of e in_e h.from in
      let solid_f : IsTrue (is_solid (bare_block n levels) f) = solid_of f in_f h.to in
      let link : IsTrue (is_linked (bare_block n levels) e f) = linked_from n levels e f (record { from = solid_e; to = solid_f; apart = ap not (ne_eqb e f other); beside = beside }) in (
        omega arith,
        elim (cases_lt (slice_index labels e) (slice_index labels f)) [
          | inl less ↦ record { points = (e, f, (link, (sym (omega arith), (sym (omega arith), sym h.level)))) }
          | inr more ↦ record { points = (f, e, ((block_is_lawful (bare_block n levels)).both_ways e f link, (sym (omega arith), (sym (omega arith), max-swap (get_or levels f void) (get_or levels e void) ∙ sym h.level)))) }
        ],
      )
    where
      solid_of : (e : ℕ) → e < n * n → IsTrue (is_marked levels e) → IsTrue (is_solid (bare_block n levels) e)
      solid_of e below on = solid_if n levels e below (not-true (int_eq (get_or levels e void) void) on)

  pub found_still : (old new : List Spill) (e f : ℕ) → AreFoundStill old new → IsFound n levels labels old e f → IsFound n levels labels new e f
  found_still old new e f still was link apart = let h = was link apart in (h.0, (met_still old new h.0 still h.1.0, h.1.1))

  -- listing one more passage keeps the list a list of passages
  pub passages_more : (found found' : List Spill) (p : Spill) (e f : ℕ) → IsListed found found' p → ArePassages n levels labels found →
      e < n * n → f < n * n → e ≢ f → IsTrue (is_beside n e f) → IsPassage levels labels e f p → ArePassages n levels labels found'
  passages_more found found' p e f is all in_e in_f other beside h q has = elim (is.only q has) [
    | inl old ↦ all q old
    | inr new ↦ subst (λ r. (r.a < r.b) × Meets n levels levels labels r.a r.b r.level) new (passage_meets e f p in_e in_f other beside h)
  ]

  pub found_now : (found found' : List Spill) (p : Spill) (e f : ℕ) → IsListed found found' p → IsPassage levels labels e f p → IsFound n levels labels found' e f
  found_now found found' p e f is h link apart = (p, (is.listed, h))

  pub none_there : (found : List Spill) (e f : ℕ) → IsNoPassage levels labels e f → IsFound n levels labels found e f
  none_there found e f h link apart = elim h [
    | inl off ↦ absurd (true≢false (sym (marked_of e (linked_parts n levels e f link).from) ∙ off))
    | inr more ↦ elim more [
      | inl off ↦ absurd (true≢false (sym (marked_of f (linked_parts n levels e f link).to) ∙ off))
      | inr same ↦ absurd (apart same)
    ]
  ]
    where
      marked_of : (e : ℕ) → IsTrue (is_solid (bare_block n levels) e) → IsTrue (is_marked levels e)
      marked_of e solid = test_if (get_or levels e void) (solid_height n levels e solid)

  -- `IsFound` for points x and y is `IsFound` for equal numbers e and f
  pub found_at : (found : List Spill) (e f x y : ℕ) → e ≡ x → f ≡ y → IsFound n levels labels found x y → IsFound n levels labels found e f
  found_at found e f x y ex fy h = subst (λ v. IsFound n levels labels found v f) (sym ex) (subst (λ v. IsFound n levels labels found x v) (sym fy) h)

  -- the points of a row, with those of the same row and of the next one; from some point on, also those of earlier rows
  pub row_found : (found : List Spill) (i : ℕ) → i < n →
      ((k : ℕ) → k < n - 1 → IsFound n levels labels found (i * n + k) (i * n + 1 + k)) →
      (i + 1 < n → (k : ℕ) → k < n → IsFound n levels labels found (i * n + k) (i * n + n + k)) →
      (i + 1 < n → (k : ℕ) → k < n - 1 → IsFound n levels labels found (i * n + k) (i * n + n + 1 + k)) →
      (i + 1 < n → (k : ℕ) → k < n - 1 → IsFound n levels labels found (i * n + 1 + k) (i * n + n + k)) →
      (from : ℕ) → ((e f : ℕ) → from ≤ e → e < i * n → e < f → IsFound n levels labels found e f) → (e f : ℕ) → from ≤ e → e < (i + 1) * n → e < f → IsFound n levels labels found e f
  row_found found i inside east south south_east south_west from before e f on low less link = elim (cases_lt e (i * n)) [
    | inl earlier ↦ before e f on earlier less link
    | inr here ↦
        let parts = linked_parts n levels e f link in
        let apart = linked_apart n levels e f link in
        let in_f : f < n * n = solid_below n levels f parts.to in
        let in_row : f / n < n = row_below n f in_f in
        let column : e % n < n = column_below e in
        let column' : f % n < n = column_below f in
        let cell : e ≡ (e / n) * n + e % n = cell_of n e in
        let cell' : f ≡ (f / n) * n + f % n = cell_of n f in
        let row : e / n ≡ i = row_is e i here low in
        let at : e ≡ i * n + e % n = cell ∙ ap (λ r. r * n + e % n) row in
        let north = apart.north in let southward = apart.south in let westward = apart.west in let eastward = apart.east in
        elim (cases_eq (f / n) i) [
          | inl same ↦
              let at' : f ≡ i * n + f % n = cell' ∙ ap (λ r. r * n + f % n) same in
              found_at found e f (i * n + e % n) (i * n + 1 + e % n) at (omega arith) (east (e % n) (omega arith)) link
          | inr other ↦
              let below : f / n ≡ i + 1 = later f i (at_least f i (omega arith)) other (omega arith) in
              let at' : f ≡ (i + 1) * n + f % n = cell' ∙ ap (λ r. r * n + f % n) below in
              let more : i + 1 < n = omega arith in
              elim (cases_eq (f % n) (e % n)) [
                | inl same ↦ found_at found e f (i * n + e % n) (i * n + n + e % n) at (omega arith) (south more (e % n) column) link
                | inr aside ↦ elim (cases_lt (e % n) (f % n)) [
                  | inl right ↦ found_at found e f (i * n + e % n) (i * n + n + 1 + e % n) at (omega arith) (south_east more (e % n) (omega arith)) link
                  | inr left ↦ found_at found e f (i * n + 1 + f % n) (i * n + n + f % n) (omega arith) (omega arith) (south_west more (f % n) (omega arith)) link
                ]
              ]
        ]
  ]
    where
      column_below : (v : ℕ) → v % n < n
      column_below v = omega arith

      row_is : (e i : ℕ) → i * n ≤ e → e < (i + 1) * n → e / n ≡ i
      row_is e i from to =
          let at : e ≡ i * n + (e - i * n) = omega arith in
          ap (λ v. v / n) at ∙ row_of_cell n i (e - i * n) (omega arith)

      at_least : (f i : ℕ) → i * n ≤ f → i ≤ f / n
      at_least f i from = elim (cases_lt (f / n) i) [
        | inl less ↦
            let next : f / n + 1 ≤ i = omega arith in
            let more : (f / n + 1) * n ≤ i * n = mul-le-mul_right n next in
            let cell : f ≡ (f / n) * n + f % n = cell_of n f in
            let small : f % n < n = omega arith in
            absurd (omega arith)
        | inr enough ↦ enough
      ]

      later : (f i : ℕ) → i ≤ f / n → f / n ≢ i → f / n ≤ i + 1 → f / n ≡ i + 1
      later f i low other high = omega arith

  -- the lowest passage of each two labels is their spill
  pub spills_are : (found firsts : List Spill) → ArePassages n levels labels found → AreFoundBelow n levels labels found (n * n) → ((p : Spill) → Contains firsts p → Contains found p) →
      AreFoundStill found firsts → AllPairs (λ p q. ¬ HaveSameLabels p q) firsts → AreSpills n levels levels labels firsts
  spills_are found firsts passages below from still once = record {
    each = λ p has. record {
      in_order = (passages p (from p has)).0;
      meets = (passages p (from p has)).1;
      least = λ level m.
          let low = lowest p.a p.b level (passages p (from p has)).0 m in
          subst (λ (q : Spill). q.level ≤ℤ level) (one_of_each firsts once low.0 p low.1.0 has (record { same_a = low.1.1.0; same_b = low.1.1.1.0 })) low.1.1.1.1;
    };
    all = λ a b level less m. let low = lowest a b level less m in (low.0, (low.1.0, (low.1.1.0, low.1.1.1.0)));
    once = once;
  }
    where
      first_of : (r : Spill) → IsMetBy found r → IsMetBy firsts r
      first_of r met = met_still found firsts r still met

      -- adjacent points with two labels were visited, so a passage at most as high is listed
      lowest : (a b : ℕ) (level : ℤ) → a < b → Meets n levels levels labels a b level → (q : Spill) × (Contains firsts q × ((q.a ≡ a) × ((q.b ≡ b) × (q.level ≤ℤ level))))
      lowest a b level less m =
          let e = m.points.0 in
          let f = m.points.1 in
          let link = m.points.2.0 in
          let label_e : slice_index labels e ≡ a = m.points.2.1.0 in
          let label_f : slice_index labels f ≡ b = m.points.2.1.1.0 in
          let at : int_max (get_or levels e void) (get_or levels f void) ≡ level = m.points.2.1.1.1 in
          elim (cases_lt e f) [
            | inl before ↦
                let met = below e f (solid_below n levels e (linked_parts n levels e f link).from) before link (λ same. absurd (omega arith)) in
                let lower = met.1.1.lower in let higher = met.1.1.higher in
                let q = first_of met.0 met.1.0 in
                let same_a = q.1.1.0.same_a in let same_b = q.1.1.0.same_b in
                (q.0, (q.1.0, (omega arith, (omega arith, subst (λ v. q.0.level ≤ℤ v) (met.1.1.level ∙ at) q.1.1.1))))
            | inr after ↦
                let other : e ≢ f = differ e f (linked_parts n levels e f link).apart in
                let back = (block_is_lawful (bare_block n levels)).both_ways e f link in
                let met = below f e (solid_below n levels f (linked_parts n levels e f link).to) (omega arith) back (λ same. absurd (omega arith)) in
                let lower = met.1.1.lower in let higher = met.1.1.higher in
                let q = first_of met.0 met.1.0 in
                let same_a = q.1.1.0.same_a in let same_b = q.1.1.0.same_b in
                (q.0, (q.1.0, (omega arith, (omega arith, subst (λ v. q.0.level ≤ℤ v) (met.1.1.level ∙ max-swap (get_or levels f void) (get_or levels e void) ∙ at) q.1.1.1))))
          ]

-- the first passage of each run in the sorted list is the lowest with its labels
pub spills_in_order : (n : ℕ) (levels : List ℤ) (labels : List ℕ) (found sorted firsts : List Spill) → ArePassages n levels labels found → AreFoundBelow n levels labels found (n * n) →
    IsPermutation found sorted → AreFirsts sorted firsts → AreSpills n levels levels labels firsts
spills_in_order n levels labels found sorted firsts passages below moved is =
    spills_are n levels labels found firsts passages below (λ p has. Contains-permutation sorted found p (IsPermutation-sym found sorted moved) (is.from p has))
    (λ r has.
    let there = Contains-permutation found sorted r moved has in
    subst (λ (v : Spill). (q : Spill) × (Contains firsts q × (HaveSameLabels q v × (q.level ≤ℤ v.level)))) there.2 (is.each there.0 r there.1)) is.once

-- a pair of labels that is lower than a second, which is at most a third, is lower than the third
lower_labels : (p q r : Spill) → HasLowerLabels p q ⊎ HaveSameLabels p q → HasLowerLabels q r → HasLowerLabels p r
lower_labels p q r (inl less) low = lower p q r less low
  where
    lower : (p q r : Spill) → HasLowerLabels p q → HasLowerLabels q r → HasLowerLabels p r
    lower p q r (inl a) (inl b) = inl (omega arith)
    lower p q r (inl a) (inr b) = inl (omega (arith, b.0))
    lower p q r (inr a) (inl b) = inl (omega (arith, a.0))
    lower p q r (inr a) (inr b) = inr (a.0 ∙ b.0, omega (arith, a.1, b.1))
lower_labels p q r (inr same) (inl a) = let h = same.same_a in inl (omega arith)
lower_labels p q r (inr same) (inr a) = let h = same.same_b in inr (same.same_a ∙ a.0, omega (arith, a.1))

not_lower_labels : (p q r : Spill) → HasLowerLabels p q ⊎ HaveSameLabels p q → HaveSameLabels q r → HasLowerLabels p r ⊎ HaveSameLabels p r
not_lower_labels p q r (inl (inl a)) same = let h = same.same_a in inl (inl (omega arith))
not_lower_labels p q r (inl (inr a)) same = let h = same.same_b in inl (inr (a.0 ∙ same.same_a, omega (arith, a.1)))
not_lower_labels p q r (inr was) same = inr (record { same_a = was.same_a ∙ same.same_a; same_b = was.same_b ∙ same.same_b })

lower_is_other : (p q : Spill) → HasLowerLabels p q → HaveSameLabels p q → ⊥
lower_is_other p q (inl a) same = let h = same.same_a in absurd (omega arith)
lower_is_other p q (inr a) same = let h = same.same_b in absurd (omega (arith, a.1))

module _ (sorted firsts : List Spill) (k : ℕ) (order : IsInOrder sorted) (small : k < length sorted) (s : AreFirstsBelow sorted firsts k) where
  in_turn : (d : Spill) → 0 < k → HasLowerLabels (get_or sorted (k - 1) d) (get_or sorted k d)
      ⊎ (HaveSameLabels (get_or sorted (k - 1) d) (get_or sorted k d) × ((get_or sorted (k - 1) d).level ≤ℤ (get_or sorted k d).level))
  in_turn d some =
      let next : k - 1 + 1 ≡ k = omega arith in
      let T : ℕ → Type 0 = λ j. HasLowerLabels (get_or sorted (k - 1) d) (get_or sorted j d)
      ⊎ (HaveSameLabels (get_or sorted (k - 1) d) (get_or sorted j d) × ((get_or sorted (k - 1) d).level ≤ℤ (get_or sorted j d).level)) in
      subst T next (order (k - 1) d (omega arith))

  not_empty : (p : Spill) → Contains firsts p → 0 < length firsts
  not_empty p has = let h = has.1 in omega arith

  -- the passages kept so far have labels up to those of the next one
  up_to : (p d : Spill) → Contains firsts p → HasLowerLabels p (get_or sorted k d) ⊎ HaveSameLabels p (get_or sorted k d)
  up_to p d has =
      let some : 0 < length firsts = not_empty p has in
      let below = s.last p d has in
      elim (in_turn d (s.some some)) [
        | inl lower ↦ inl (lower_labels p (get_or sorted (k - 1) d) (get_or sorted k d) below lower)
        | inr same ↦ not_lower_labels p (get_or sorted (k - 1) d) (get_or sorted k d) below same.0
      ]

  last_now : (k + 1) - 1 ≡ k
  last_now = omega arith

  -- the next passage is the first with its labels
  pub first_taken : (firsts' : List Spill) (d : Spill) → firsts' ≡ firsts ++ get_or sorted k d ∷ [] →
      (0 < k → HaveSameLabels (get_or sorted (k - 1) d) (get_or sorted k d) → ⊥) → AreFirstsBelow sorted firsts' (k + 1)
  first_taken firsts' d is new = subst (λ l. AreFirstsBelow sorted l (k + 1)) (sym is) (record {
    from = λ p has. elim (Contains-push_cases firsts (get_or sorted k d) p has) [
      | inl old ↦ s.from p old
      | inr same ↦ subst (λ q. Contains sorted q) same (Contains-get_or sorted k d small)
    ];
    each = λ j e less. elim (cases_lt j k) [
      | inl earlier ↦ let q = s.each j e earlier in (q.0, (Contains-append_left firsts (get_or sorted k d ∷ []) q.0 q.1.0, q.1.1))
      | inr here ↦
          let now : k ≡ j = omega arith in
          let at : get_or sorted k d ≡ get_or sorted j e = get_or_default sorted k d e small ∙ ap (λ i. get_or sorted i e) now in
          (get_or sorted k d, (Contains-push firsts (get_or sorted k d), (record { same_a = ap (λ (q : Spill). q.a) at; same_b = ap (λ (q : Spill). q.b) at }, subst (λ (q : Spill). (get_or sorted k d).level ≤ℤ q.level) at (≤ℤ_same (get_or sorted k d).level))))
    ];
    once = all_pairs_push (λ p q. ¬ HaveSameLabels p q) firsts (get_or sorted k d) s.once (λ j e less same. other (get_or firsts j e) (Contains-get_or firsts j e less) same);
    last = λ p e has. subst (λ j. HasLowerLabels p (get_or sorted j e) ⊎ HaveSameLabels p (get_or sorted j e)) (sym last_now) (elim (Contains-push_cases firsts (get_or sorted k d) p has) [
      | inl old ↦ up_to p e old
      | inr same ↦ let at : p ≡ get_or sorted k e = sym same ∙ get_or_default sorted k d e small in
          inr (record { same_a = ap (λ (q : Spill). q.a) at; same_b = ap (λ (q : Spill). q.b) at })
    ]);
    some = λ _. omega arith;
  })
    where
      other : (p : Spill) → Contains firsts p → HaveSameLabels p (get_or sorted k d) → ⊥
      other p has same =
          let some : 0 < k = s.some (not_empty p has) in
          let below = s.last p d has in
          elim (in_turn d some) [
            | inl lower ↦ lower_is_other p (get_or sorted k d) (lower_labels p (get_or sorted (k - 1) d) (get_or sorted k d) below lower) same
            | inr tied ↦ absurd (new some tied.0)
          ]

  -- the next passage has the labels of the one before it
  pub same_passed : (d : Spill) → 0 < k → HaveSameLabels (get_or sorted (k - 1) d) (get_or sorted k d) → AreFirstsBelow sorted firsts (k + 1)
  same_passed d some tied = record {
    from = s.from;
    each = λ j e less. elim (cases_lt j k) [
      | inl earlier ↦ s.each j e earlier
      | inr here ↦
          let now : k ≡ j = omega arith in
          let q = s.each (k - 1) d (omega arith) in
          let at : get_or sorted k d ≡ get_or sorted j e = get_or_default sorted k d e small ∙ ap (λ i. get_or sorted i e) now in
          subst (λ (v : Spill). (q : Spill) × (Contains firsts q × (HaveSameLabels q v × (q.level ≤ℤ v.level)))) at
          (q.0, (q.1.0, (record { same_a = q.1.1.0.same_a ∙ tied.same_a; same_b = q.1.1.0.same_b ∙ tied.same_b }, ≤ℤ_trans q.0.level (get_or sorted (k - 1) d).level (get_or sorted k d).level q.1.1.1 (no_lower (in_turn d some)))))
    ];
    once = s.once;
    last = λ p e has. subst (λ j. HasLowerLabels p (get_or sorted j e) ⊎ HaveSameLabels p (get_or sorted j e)) (sym last_now) (up_to p e has);
    some = λ _. omega arith;
  }
    where
      no_lower : HasLowerLabels (get_or sorted (k - 1) d) (get_or sorted k d)
          ⊎ (HaveSameLabels (get_or sorted (k - 1) d) (get_or sorted k d) × ((get_or sorted (k - 1) d).level ≤ℤ (get_or sorted k d).level)) → (get_or sorted (k - 1) d).level ≤ℤ (get_or sorted k d).level
      no_lower (inl lower) = absurd (lower_is_other (get_or sorted (k - 1) d) (get_or sorted k d) lower tied)
      no_lower (inr both) = both.1

-- the sort orders passages by labels, then by level
pub rises : (p q : Spill) → is_lt (ordering_then (nat_cmp q.a p.a) (ordering_then (nat_cmp q.b p.b) (int_cmp q.level p.level))) ≡ false →
    HasLowerLabels p q ⊎ (HaveSameLabels p q × (p.level ≤ℤ q.level))
rises p q h = elim (cases_lt p.a q.a) [
  | inl less ↦ inl (inl less)
  | inr more ↦ elim (cases_eq p.a q.a) [
    | inr other ↦ absurd (true≢false (ap (λ o. is_lt (ordering_then o (ordering_then (nat_cmp q.b p.b) (int_cmp q.level p.level)))) (nat_cmp_is q.a p.a Less (omega arith)) ∙ h))
    | inl same ↦
        let on : is_lt (ordering_then (nat_cmp q.b p.b) (int_cmp q.level p.level)) ≡ false = ap (λ o. is_lt (ordering_then o (ordering_then (nat_cmp q.b p.b) (int_cmp q.level p.level)))) (nat_cmp_is q.a p.a Equal (sym same)) ∙ h in
        elim (cases_lt p.b q.b) [
          | inl less ↦ inl (inr (same, less))
          | inr more' ↦ elim (cases_eq p.b q.b) [
            | inr other ↦ absurd (true≢false (ap (λ o. is_lt (ordering_then o (int_cmp q.level p.level))) (nat_cmp_is q.b p.b Less (omega arith)) ∙ on))
            | inl same' ↦ inr (record { same_a = same; same_b = same' }, not_less q.level p.level (ap (λ o. is_lt (ordering_then o (int_cmp q.level p.level))) (nat_cmp_is q.b p.b Equal (sym same')) ∙ on))
          ]
        ]
  ]
]
  where
    not_less : (a b : ℤ) → is_lt (int_cmp a b) ≡ false → b ≤ℤ a
    not_less a b e = elim (cases_Bool (int_lt a b)) [
      | inl less ↦ absurd (true≢false (sym (ap (λ t. is_lt (cond t Less (cond (int_lt b a) Greater Equal))) less) ∙ e))
      | inr more ↦ grind (arith, ints)
    ]

pub not_void : (v : ℤ) → v ≢ void → int_eq v void ≡ false
not_void v other = elim (cases_Bool (int_eq v void)) [ inl same ↦ absurd (other ((Decides-int_eq v void).0 same)) | inr differs ↦ differs ]

-- the heights fit into 16 bits
pub no_lower : (heights : List ℤ) → All IsSample heights → (e : ℕ) → void ≤ℤ get_or heights e void
no_lower heights samples e = elim (cases_lt e (length heights)) [
  | inl inside ↦ (samples e void inside).0
  | inr beyond ↦ subst (λ v. void ≤ℤ v) (sym (get_or-eq_default heights void beyond)) (≤ℤ_same void)
]

-- with a valid labelling, exactly the ground points have levels
module _ (n : ℕ) (heights : List ℤ) (sinks : List ℕ) (levels : List ℤ) (labels : List ℕ) (least : (e : ℕ) → void ≤ℤ get_or heights e void) (is : IsLabelling (block_of n heights sinks) levels labels) where
  pub solid_has_level : (e : ℕ) → IsTrue (is_solid (bare_block n heights) e) → get_or levels e void ≢ void
  solid_has_level e solid same =
      let low : get_or heights e void ≤ℤ get_or levels e void = height-le_level (block_terrain (block_of n heights sinks)) e (get_or levels e void) (is.level e solid) in
      let at_least : void ≤ℤ get_or heights e void = least e in
      solid_height n heights e solid (omega (arith, ints))

  pub same_solid : (e : ℕ) → is_solid (bare_block n heights) e ≡ is_solid (bare_block n levels) e
  same_solid e = elim (cases_Bool (is_solid (bare_block n heights) e)) [
    | inl solid ↦ solid ∙ sym (solid_if n levels e (solid_below n heights e solid) (not_void (get_or levels e void) (solid_has_level e solid)))
    | inr off ↦ elim (cases_Bool (is_solid (bare_block n levels) e)) [
      | inl on ↦ absurd (solid_height n levels e on (is.void_points e (solid_below n levels e on) off).0)
      | inr off' ↦ off ∙ sym off'
    ]
  ]

  pub same_links : (e f : ℕ) → is_linked (bare_block n heights) e f ≡ is_linked (bare_block n levels) e f
  same_links e f = ap₂ (λ a b. a && b && not (nat_eq e f) && is_beside n e f) (same_solid e) (same_solid f)

  meets_down : (a b : ℕ) (level : ℤ) → Meets n heights levels labels a b level → Meets n levels levels labels a b level
  meets_down a b level m = record { points = (m.points.0, m.points.1, (sym (same_links m.points.0 m.points.1) ∙ m.points.2.0, m.points.2.1)) }

  meets_up : (a b : ℕ) (level : ℤ) → Meets n levels levels labels a b level → Meets n heights levels labels a b level
  meets_up a b level m = record { points = (m.points.0, m.points.1, (same_links m.points.0 m.points.1 ∙ m.points.2.0, m.points.2.1)) }

  pub spills_of_ground : (spills : List Spill) → AreSpills n levels levels labels spills → AreSpills n heights levels labels spills
  spills_of_ground spills s = record {
    each = λ p has. record {
      in_order = (s.each p has).in_order;
      meets = meets_up p.a p.b p.level (s.each p has).meets;
      least = λ level m. (s.each p has).least level (meets_down p.a p.b level m);
    };
    all = λ a b level less m. s.all a b level less (meets_down a b level m);
    once = s.once;
  }
