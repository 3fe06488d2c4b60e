-- Points that a mending changes are listed with their labels before.
use Rattle.tile_flood.proofs.Prelude.{Affected, AreChangesListed, IsListed, IsTrue, List, StayListed, ℕ, ℤ, [], ap, arith, bare_block, cases_eq, cases_lt, false, get_or, get_or-append, get_or-append_seam, get_or-set_other, inl, inr, is_marked, is_solid, length, length-append, refl, set, slice_index, subst, sym, void, ◌*◌, ◌++◌, ◌+◌, ◌<◌, ◌∙◌, ◌∷◌, ◌≡◌, ◌≢◌}
use Rattle.labelling.proofs.Squares.{not_void_if}
use Rattle.tile_flood.proofs.Steps.{unmarked_void}

-- before the first change no point has to be listed
pub none_changed : (n : ℕ) (heights levels : List ℤ) (labels : List ℕ) → ((e : ℕ) → IsTrue (is_solid (bare_block n heights) e) → IsTrue (is_marked levels e)) → AreChangesListed n heights levels labels levels labels []
none_changed n heights levels labels full = record { full = full; inside = λ j d below. absurd (omega arith); others = λ e. inl (refl, refl) }

-- a point is listed with its label and then changed
pub listed_more : (n : ℕ) (heights levels levels' : List ℤ) (labels labels' : List ℕ) (affected affected' : List Affected) (e : ℕ) (x : Affected) → e < n * n → x.point ≡ e → x.label ≡ slice_index labels e →
    ((z : ℕ) → z ≢ e → get_or levels' z void ≡ get_or levels z void) → ((z : ℕ) → z ≢ e → slice_index labels' z ≡ slice_index labels z) → affected' ≡ affected ++ x ∷ [] → StayListed n heights levels labels affected levels' labels' affected'
listed_more n heights levels levels' labels labels' affected affected' e x small point label same_levels same_labels grew levels₀ labels₀ was =
    subst (λ xs. AreChangesListed n heights levels₀ labels₀ levels' labels' xs) (sym grew) (record {
      full = was.full;
      inside = λ j d below. elim (cases_lt j (length affected)) [
        | inl less ↦ subst (λ y. y.point < n * n) (sym (get_or-append affected (x ∷ []) d j less)) (was.inside j d less)
        | inr ge ↦
            let long = longer in
            let same : length affected ≡ j = omega arith in
            subst (λ k. (get_or (affected ++ x ∷ []) k d).point < n * n) same (subst (λ y. y.point < n * n) (sym (last d)) (subst (λ k. k < n * n) (sym point) small))
      ];
      others = λ z. elim (cases_eq z e) [
        | inl same ↦ elim (was.others z) [
          | inl is ↦ inr (length affected, (let long = longer in omega arith, λ d. (ap (λ y. y.point) (last d) ∙ (point ∙ sym same), ap (λ y. y.label) (last d) ∙ (label ∙ (ap (slice_index labels) (sym same) ∙ is.1)))))
          | inr listed ↦ inr (still z listed)
        ]
        | inr other ↦ elim (was.others z) [
          | inl is ↦ inl (same_levels z other ∙ is.0, same_labels z other ∙ is.1)
          | inr listed ↦ inr (still z listed)
        ]
      ];
    })
  where
    longer : length (affected ++ x ∷ []) ≡ length affected + 1
    longer = length-append affected (x ∷ [])

    last : (d : Affected) → get_or (affected ++ x ∷ []) (length affected) d ≡ x
    last d = get_or-append_seam affected x [] d

    still : (z : ℕ) → IsListed affected z (slice_index labels₀ z) → IsListed (affected ++ x ∷ []) z (slice_index labels₀ z)
    still z a = (a.0, (let long = longer in let less = a.1.0 in omega arith, λ d. let at = get_or-append affected (x ∷ []) d a.0 a.1.0 in (ap (λ y. y.point) at ∙ (a.1.1 d).0, ap (λ y. y.label) at ∙ (a.1.1 d).1)))

-- listing a point and writing its new level and label keeps all changes listed
pub listed_as : (n : ℕ) (heights levels levels' : List ℤ) (labels labels' : List ℕ) (affected affected' : List Affected) (e : ℕ) (l : ℤ) (a : ℕ) → e < n * n → levels' ≡ set levels e l → labels' ≡ set labels e a →
    affected' ≡ affected ++ record { point = e; label = slice_index labels e } ∷ [] → StayListed n heights levels labels affected levels' labels' affected'
listed_as n heights levels levels' labels labels' affected affected' e l a small at_levels at_labels grew =
    listed_more n heights levels levels' labels labels' affected affected' e (record { point = e; label = slice_index labels e }) small refl refl
    (λ z other. ap (λ ls. get_or ls z void) at_levels ∙ get_or-set_other levels e z l void other) (λ z other. ap (λ bs. slice_index bs z) at_labels ∙ get_or-set_other labels e z a 0 other) grew

-- an open ground point was listed when its level was removed
pub marked_listed : (n : ℕ) (heights levels levels' : List ℤ) (labels labels' : List ℕ) (affected : List Affected) (e : ℕ) (l : ℤ) (a : ℕ) → IsTrue (is_solid (bare_block n heights) e) → is_marked levels e ≡ false → levels' ≡ set levels e l → labels' ≡ set labels e a →
    StayListed n heights levels labels affected levels' labels' affected
marked_listed n heights levels levels' labels labels' affected e l a solid off at_levels at_labels levels₀ labels₀ was = record {
  full = was.full;
  inside = was.inside;
  others = λ z. elim (cases_eq z e) [
    | inl same ↦ elim (was.others z) [
      | inl is ↦ absurd (not_void_if levels₀ e (was.full e solid) (subst (λ v. get_or levels₀ v void ≡ void) same (sym is.0 ∙ (ap (λ v. get_or levels v void) same ∙ unmarked_void levels e off))))
      | inr listed ↦ inr listed
    ]
    | inr other ↦ elim (was.others z) [
      | inl is ↦ inl (ap (λ ls. get_or ls z void) at_levels ∙ (get_or-set_other levels e z l void other ∙ is.0), ap (λ bs. slice_index bs z) at_labels ∙ (get_or-set_other labels e z a 0 other ∙ is.1))
      | inr listed ↦ inr listed
    ]
  ];
}

pub listed_twice : (n : ℕ) (heights levels levels' levels'' : List ℤ) (labels labels' labels'' : List ℕ) (affected affected' affected'' : List Affected) → StayListed n heights levels labels affected levels' labels' affected' → StayListed n heights levels' labels' affected' levels'' labels'' affected''
    → StayListed n heights levels labels affected levels'' labels'' affected''
listed_twice n heights levels levels' levels'' labels labels' labels'' affected affected' affected'' one two levels₀ labels₀ was = two levels₀ labels₀ (one levels₀ labels₀ was)

pub listed_same : (n : ℕ) (heights levels : List ℤ) (labels : List ℕ) (affected : List Affected) → StayListed n heights levels labels affected levels labels affected
listed_same n heights levels labels affected levels₀ labels₀ was = was
