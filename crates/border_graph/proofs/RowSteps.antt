-- Rows of spills by the labels from which they lead.
use Rattle.std.proofs.Common.{rules}
use Rattle.std.proofs.Common.{◌≡◌, ℕ, ◌+◌, ◌-◌, ◌<◌, ◌≤◌, inl, inr, pos, true, false, List, [], ◌∷◌, ◌++◌, length, map, drop, get_or, refl, sym, ap, ◌∙◌, subst, arith, Contains, leb, ltb, leb-true, leb-false, ltb-true, ltb-false, length-drop, ◌↔◌, ◌*◌, slice_range}
use Rattle.border_graph.proofs.Prelude.{Contains-append_left, Contains-permutation, Contains-push, Contains-push_cases, IsPermutation-sym, Spill, Summary, cases_lt, get_or-map, length-map, rim_point, turned}
use Rattle.std.specs.List.Sorted.{IsPartitionPoint, IsPermutation}
use Rattle.std.proofs.lemmas.List.{get_or-take, get_or-drop, length-take-le}
use Rattle.border_graph.specs.Rows.{IsFromLabel, AreTurned, AreLabelsTurned}

-- the row is between the first spill from a label and the first one after that label
module _ (spills : List Spill) (label from to : ℕ) (first : IsPartitionPoint (λ (s : Spill). ltb s.a label ≡ true) (λ (s : Spill). ltb s.a label ≡ false) spills from)
    (last : IsPartitionPoint (λ (s : Spill). leb s.a label ≡ true) (λ (s : Spill). leb s.a label ≡ false) spills to) (from_in : from ≤ length spills) (to_in : to ≤ length spills) where
  none : Spill
  none = record { a = 0; b = 0; level = pos 0 }

  pub from-le-to : from ≤ to
  from-le-to = elim (cases_lt to from) [
    | inr le ↦ le
    | inl less ↦
        let low = ltb-true (get_or spills to none).a label (first.0 to none (omega arith) less) in
        let high = leb-false (get_or spills to none).a label (last.1 to none (omega arith) (omega arith)) in
        absurd (omega arith)
  ]

  in_row : (i : ℕ) (d : Spill) → i < to - from → get_or (slice_range spills from to) i d ≡ get_or spills (from + i) d
  in_row i d small = get_or-take (to - from) (drop from spills) i d small ∙ get_or-drop from spills i d

  length_row : length (slice_range spills from to) ≡ to - from
  length_row = length-take-le (to - from) (drop from spills) (let l = length-drop from spills in omega arith)

  pub row_is : (s : Spill) → Contains (slice_range spills from to) s ↔ (Contains spills s × (s.a ≡ label))
  row_is s = (forth, back)
    where
      forth : Contains (slice_range spills from to) s → Contains spills s × (s.a ≡ label)
      forth (i, small, is) =
          let inside : i < to - from = subst (λ n. i < n) length_row small in
          let at : get_or spills (from + i) s ≡ s = sym (in_row i s inside) ∙ is in
          let high = ltb-false (get_or spills (from + i) s).a label (first.1 (from + i) s (omega arith) (omega arith)) in
          let low = leb-true (get_or spills (from + i) s).a label (last.0 (from + i) s (omega arith) (omega arith)) in
          let here : (get_or spills (from + i) s).a ≡ label = omega arith in
          ((from + i, omega arith, at), sym (ap (λ (x : Spill). x.a) at) ∙ here)

      back : Contains spills s × (s.a ≡ label) → Contains (slice_range spills from to) s
      back ((k, small, is), label_is) =
          let at : (get_or spills k s).a ≡ label = ap (λ (x : Spill). x.a) is ∙ label_is in
          elim (cases_lt k from) [
            | inl before ↦ let less = ltb-true (get_or spills k s).a label (first.0 k s (omega arith) before) in absurd (omega arith)
            | inr past ↦ elim (cases_lt k to) [
              | inr late ↦ let more = leb-false (get_or spills k s).a label (last.1 k s late small) in absurd (omega arith)
              | inl early ↦
                  let same : from + (k - from) ≡ k = omega arith in
                  let inside : k - from < to - from = omega arith in
                  (k - from, subst (λ n. k - from < n) (sym length_row) inside, in_row (k - from) s inside ∙ (ap (λ i. get_or spills i s) same ∙ is))
            ]
          ]

-- exchanging the labels of one more spill
pub turned_more : (b : Summary) (back : List Spill) → back ≡ map turned b.spills → (spill : Spill) → Contains b.spills spill → Contains back (turned spill)
turned_more b back is spill (k, small, at) =
    (k, subst (λ n. k < n) (sym (ap length is ∙ length-map b.spills turned)) small, ap (λ (l : List Spill). get_or l k (turned spill)) is ∙ (get_or-map turned b.spills k spill ∙ ap turned at))

pub turned_back : (b : Summary) (back : List Spill) → back ≡ map turned b.spills → (link : Spill) → Contains back link → Contains b.spills (turned link)
turned_back b back is link (k, small, at) =
    (k, subst (λ n. k < n) (ap length is ∙ length-map b.spills turned) small, ap turned (sym (get_or-map turned b.spills k (turned link)) ∙ (sym (ap (λ (l : List Spill). get_or l k link) is) ∙ at)))

-- the links are complete after those from labels are listed too, and sorted
pub all_turned : (n : ℕ) (b : Summary) (spills back sorted : List Spill) → spills ≡ map turned b.spills → AreLabelsTurned n b (4 * (n - 1)) spills back → IsPermutation back sorted → AreTurned n b sorted
all_turned n b spills back sorted is listed moved = record {
  each = λ link has. elim (listed.each link (Contains-permutation sorted back link (IsPermutation-sym back sorted moved) has)) [
    | inl spill ↦ inl (turned_back b spills is link spill)
    | inr label ↦ inr label
  ];
  spills = λ spill has. Contains-permutation back sorted (turned spill) moved (listed.still (turned spill) (turned_more b spills is spill has));
  labels = λ link label. Contains-permutation back sorted link moved (listed.labels link label.there.number label);
}

-- one more rim point: the link from its label is listed, if that is another point's number
module _ (n : ℕ) (b : Summary) (i : ℕ) (old mid : List Spill) (so : AreLabelsTurned n b i old mid) where
  pub labels_more : (link : Spill) (new : List Spill) → link.b ≡ i → IsFromLabel n b link → new ≡ mid ++ link ∷ [] → AreLabelsTurned n b (i + 1) old new
  labels_more link new at from is = record {
    still = λ x has. subst (λ (l : List Spill). Contains l x) (sym is) (Contains-append_left mid (link ∷ []) x (so.still x has));
    each = λ x has. elim (Contains-push_cases mid link x (subst (λ (l : List Spill). Contains l x) is has)) [
      | inl before ↦ so.each x before
      | inr last ↦ inr (subst (IsFromLabel n b) last from)
    ];
    labels = λ x small label. elim (cases_lt x.b i) [
      | inl earlier ↦ subst (λ (l : List Spill). Contains l x) (sym is) (Contains-append_left mid (link ∷ []) x (so.labels x earlier label))
      | inr later ↦
          let same : link.b ≡ x.b = omega (arith, at) in
          let a : link.a ≡ x.a = sym from.label.names ∙ (ap (λ k. (rim_point b k).label) same ∙ label.label.names) in
          let level : link.level ≡ x.level = sym from.label.height ∙ (ap (λ k. (rim_point b k).height) same ∙ label.label.height) in
          subst (λ (l : List Spill). Contains l x) (sym is) (subst (Contains (mid ++ link ∷ [])) (alike link x a same level) (Contains-push mid link))
    ];
  }
    where
      alike : (x y : Spill) → x.a ≡ y.a → x.b ≡ y.b → x.level ≡ y.level → x ≡ y
      alike x y a b level = subst (λ v. x ≡ record { a = v; b = y.b; level = y.level }) a (subst (λ v. x ≡ record { a = x.a; b = v; level = y.level }) b (subst (λ v. x ≡ record { a = x.a; b = x.b; level = v }) level refl))

  pub labels_less : ((link : Spill) → link.b ≡ i → IsFromLabel n b link → ⊥) → AreLabelsTurned n b (i + 1) old mid
  labels_less none = search rules
