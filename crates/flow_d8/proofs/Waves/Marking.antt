-- Marks that are written one by one.
use Rattle.flow_d8.proofs.Prelude.{Dir, FlatTo, Flow, List, Lists, Reaches, Unknown, ℕ, ap, arith, back_of, cases_eq, cases_lt, get_or, get_or-set_other, get_or-set_same, get_or_past, inl, inr, length, length-set, mark_at, set, subst, sum_by-set, sym, ⊎_elim, ◌<◌, ◌∙◌, ◌≡◌}
use Rattle.flow_d8.proofs.Waves.Listing.{IsLonger, lists_kept, lists_last, longer_all}

pub in_range : (marks : List ℕ) (k v : ℕ) → mark_at marks k ≡ v → v < 3 → k < length marks
in_range marks k v is small = ⊎_elim (λ lt. lt) (λ ge. absurd (omega (arith, get_or_past marks k 3 ge))) (cases_lt k (length marks))

-- a place that is in no wave afterwards was in none before
pub reaches_two : (by : ℕ → Dir → ℕ) (wave : List ℕ) (d : Dir) (marks next : List ℕ) (flows : List Flow) (new new_next : List ℕ) (new_flows : List Flow) → Reaches by wave d marks next flows new new_next new_flows
    → (k : ℕ) → mark_at new k ≡ 2 → mark_at marks k ≡ 2
reaches_two by wave d marks next flows new new_next new_flows a k two = elim (cases_eq (mark_at marks k) 2) [ inl is ↦ is | inr other ↦ sym (a.others k other) ∙ two ]

-- two parts of a wave, one after the other
pub reaches_on : (by : ℕ → Dir → ℕ) (wave : List ℕ) (d : Dir) (marks next : List ℕ) (flows : List Flow) (mid mid_next : List ℕ) (mid_flows : List Flow) (new new_next : List ℕ) (new_flows : List Flow)
    → Reaches by wave d marks next flows mid mid_next mid_flows → Reaches by wave d mid mid_next mid_flows new new_next new_flows → Reaches by wave d marks next flows new new_next new_flows
reaches_on by wave d marks next flows mid mid_next mid_flows new new_next new_flows a b = record {
  whole = b.whole ∙ a.whole;
  flows_whole = b.flows_whole ∙ a.flows_whole;
  joined = λ k two. ⊎_elim
      (λ still. b.joined k still)
      (λ before. inr (
        b.others k (λ at. absurd (omega (arith, before.0))) ∙ before.0,
        b.kept k (λ at. absurd (omega (arith, before.0))) ∙ before.1,
        before.2,
        b.listed k before.3,
      ))
      (a.joined k two);
  others = λ k not. b.others k (λ two. not (was k two)) ∙ a.others k not;
  kept = λ k not. b.kept k (λ two. not (was k two))
      ∙ a.kept k (λ two. ⊎_elim (λ still. still) (λ before. absurd (omega (arith, not two, before.0, b.others k (λ at. absurd (omega (arith, before.0)))))) (a.joined k two));
  listed = λ k at. b.listed k (a.listed k at);
  reached = λ at. b.reached (a.reached at);
  fewer = omega (arith, a.fewer, b.fewer);
}
  where
    was : (k : ℕ) → mark_at mid k ≡ 2 → mark_at marks k ≡ 2
    was = reaches_two by wave d marks next flows mid mid_next mid_flows a

-- one sample is reached, directed and listed in the next wave
module _ (by : ℕ → Dir → ℕ) (marks next longer : List ℕ) (flows : List Flow) (from : ℕ) (d : Dir) (back : by (by from (back_of d)) d ≡ from) (whole : length flows ≡ length marks)
    (two : mark_at marks (by from (back_of d)) ≡ 2) (more : IsLonger next longer (by from (back_of d))) where
  abbrev to : ℕ
  to = by from (back_of d)

  abbrev new : List ℕ
  new = set marks to 0

  small : to < length marks
  small = in_range marks to 2 two (omega arith)

  there : mark_at new to ≡ 0
  there = get_or-set_same marks to 0 3 small

  apart : (k : ℕ) → (k ≡ to → ⊥) → mark_at new k ≡ mark_at marks k
  apart k other = get_or-set_other marks to k 0 3 other

  two_at : (k : ℕ) → k ≡ to → mark_at marks k ≡ 2
  two_at k same = ap (mark_at marks) same ∙ two

  pub reaches_one : (wave : List ℕ) → Lists wave from → Reaches by wave d marks next flows new longer (set flows to (FlatTo d))
  reaches_one wave at = record {
    whole = length-set marks to 0;
    flows_whole = length-set flows to (FlatTo d);
    joined = λ k is. elim (cases_eq k to) [
      | inl same ↦ inr (
        ap (mark_at new) same ∙ there,
        ap (λ n. get_or (set flows to (FlatTo d)) n Unknown) same ∙ get_or-set_same flows to (FlatTo d) Unknown (omega (arith, small, whole)),
        subst (Lists wave) (sym (ap (λ n. by n d) same ∙ back)) at,
        subst (Lists longer) (sym same) (lists_last next longer to more),
      )
      | inr other ↦ inl (apart k other ∙ is)
    ];
    others = λ k not. apart k (λ same. not (two_at k same));
    kept = λ k not. get_or-set_other flows to k (FlatTo d) Unknown (λ same. absurd (omega (arith, not (two_at k same), ap (mark_at new) same, there)));
    listed = λ k was. lists_kept next longer to k more was;
    reached = λ was. longer_all (λ q. mark_at new q ≡ 0) next longer to more
        (λ i before. apart (get_or next i 0) (λ same. absurd (omega (arith, was i before, two_at (get_or next i 0) same))) ∙ was i before) there;
    fewer = omega (arith, more.longer, two, sum_by-set (λ x. x) marks to 0 3 small);
  }
