-- Members next to an exit are added to the first wave.
use Rattle.std.proofs.Common.{rules}
use Rattle.flow_d8.proofs.Prelude.{Begins, Flow, IsBeside, IsMember, List, Lists, Unknown, ℕ, ap, arith, cases_eq, cases_lt, get_or-set_other, get_or-set_same, get_or_past, inl, inr, length, length-set, mark_at, set, slice_index_or, subst, sym, ⊎_elim, ◌<◌, ◌∙◌, ◌≡◌}
use Rattle.flow_d8.proofs.Waves.Listing.{IsLonger, lists_kept, lists_last, lists_either}

pub member_small : (marks : List ℕ) (k : ℕ) → IsMember marks k → k < length marks
member_small marks k member = ⊎_elim (λ lt. lt) (λ ge. absurd (member (get_or_past marks k 3 ge))) (cases_lt k (length marks))

pub begun_at : (flows : List Flow) (marks wave longer : List ℕ) (k : ℕ) → IsBeside (slice_index_or flows k Unknown) → IsMember marks k → IsLonger wave longer k → Begins flows marks wave (set marks k 0) longer
begun_at flows marks wave longer k beside member more = record {
  whole = length-set marks k 0;
  changed = λ j. elim (cases_eq j k) [
    | inl same ↦ inr (subst (λ n. IsBeside (slice_index_or flows n Unknown)) (sym same) beside, ap (mark_at (set marks k 0)) same ∙ here, subst (IsMember marks) (sym same) member)
    | inr other ↦ inl (apart j other)
  ];
  kept = λ j is. lists_kept wave longer k j more is;
  listed = λ j zero. elim (cases_eq j k) [
    | inl same ↦ inr (subst (Lists longer) (sym same) (lists_last wave longer k more))
    | inr other ↦ inl (sym (apart j other) ∙ zero)
  ];
  only = λ j is. ⊎_elim (λ old. inl old) (λ same. inr (ap (mark_at (set marks k 0)) same ∙ here)) (lists_either wave longer k j more is);
}
  where
    here : mark_at (set marks k 0) k ≡ 0
    here = get_or-set_same marks k 0 3 (member_small marks k member)

    apart : (j : ℕ) → (j ≡ k → ⊥) → mark_at (set marks k 0) j ≡ mark_at marks j
    apart j other = get_or-set_other marks k j 0 3 other

module _ (flows : List Flow) (a wa b wb : List ℕ) (first : Begins flows a wa b wb) where
  pub member_still : (k : ℕ) → IsMember a k → IsMember b k
  member_still k member out = ⊎_elim (λ same. member (sym same ∙ out)) (λ now. absurd (omega (arith, now.1))) (first.changed k)

  member_before : (k : ℕ) → IsMember b k → IsMember a k
  member_before k member = ⊎_elim (λ same out. member (same ∙ out)) (λ now. now.2) (first.changed k)

  -- a reached place stays reached
  pub zero_on : (k : ℕ) → mark_at a k ≡ 0 → mark_at b k ≡ 0
  zero_on k zero = ⊎_elim (λ same. same ∙ zero) (λ now. now.1) (first.changed k)

  pub begins_on : (c wc : List ℕ) → Begins flows b wb c wc → Begins flows a wa c wc
  begins_on c wc then = search rules
