-- How the parents of places change, step by step.
use Rattle.border_graph.proofs.Prelude.{AreJoined, AreOver, Bool, List, Pass, ℕ, ℤ, ap, arith, cases_eq, eqb_tells, false, get_or, get_or-set_other, get_or-set_same, inl, inr, length, length-set, refl, roots, set, subst, suc, sym, true, zero, ◌<◌, ◌==◌, ◌∙◌, ◌≡◌, ◌≤◌}
use Rattle.border_graph.specs.UnionFind.{IsFalling, IsRoot, one_if}
use Rattle.border_graph.proofs.Forests.Connected.{joined_on}

-- the roots are the same, and no other place's parent is later than before
pub record IsHigher (old new : List ℕ) : Type 0 where
  pub whole : length new ≡ length old
  pub falling : IsFalling new
  pub same : (x : ℕ) → IsRoot old x → IsRoot new x
  pub only : (x : ℕ) → IsRoot new x → IsRoot old x
  pub over : (passes : List Pass) (level : ℤ) → AreOver passes level old → AreOver passes level new

-- setting a place's parent to its grandparent
module _ (old mid : List ℕ) (r : IsHigher old mid) (x : ℕ) (inside : x < length mid) (other : get_or mid x 0 ≡ x → ⊥) where
  up : ℕ
  up = get_or mid x 0

  next : ℕ
  next = get_or mid up 0

  up_less : up < x
  unfolding up
  up_less = let low = r.falling x inside in omega arith

  next_less : next < x
  unfolding next
  next_less = let a = up_less in let b = r.falling up (let h = inside in omega arith) in omega arith

  here : get_or (set mid x next) x 0 ≡ next
  here = get_or-set_same mid x next 0 inside

  elsewhere : (y : ℕ) → (y ≡ x → ⊥) → get_or (set mid x next) y 0 ≡ get_or mid y 0
  elsewhere y apart = get_or-set_other mid x y next 0 (λ same. apart same)

  pub higher_once : IsHigher old (set mid x (get_or mid (get_or mid x 0) 0))
  unfolding up next
  higher_once = record {
    whole = length-set mid x next ∙ r.whole;
    falling = λ y small. elim (cases_eq y x) [
      | inl is ↦ let a = next_less in let b : get_or (set mid x next) y 0 ≡ next = ap (λ v. get_or (set mid x next) v 0) is ∙ here in omega arith
      | inr apart ↦ let b = elsewhere y apart in let c = r.falling y (subst (λ n. y < n) (length-set mid x next) small) in omega arith
    ];
    same = λ y top. elsewhere y (λ is. other (subst (λ v. get_or mid v 0 ≡ v) is (r.same y top))) ∙ r.same y top;
    only = λ y top. elim (cases_eq y x) [
      | inl is ↦ let a = next_less in let b : get_or (set mid x next) y 0 ≡ next = ap (λ v. get_or (set mid x next) v 0) is ∙ here in absurd (omega arith)
      | inr apart ↦ r.only y (sym (elsewhere y apart) ∙ top)
    ];
    over = λ passes level over y small. elim (cases_eq y x) [
      | inl is ↦
          let mids = r.over passes level over in
          let low = up_less in
          subst (λ v. AreJoined passes level v (get_or (set mid x next) v 0)) (sym is) (subst (AreJoined passes level x) (sym here)
          (joined_on passes level x up next (mids x inside) (mids up (let h = inside in omega arith))))
      | inr apart ↦ subst (AreJoined passes level y) (sym (elsewhere y apart)) (r.over passes level over y (subst (λ n. y < n) (length-set mid x next) small))
    ];
  }

-- two parent lists with the same roots have the same number of roots
pub same_tops : (n : ℕ) (a b : List ℕ) → ((x : ℕ) → x < n → IsRoot a x → IsRoot b x) → ((x : ℕ) → x < n → IsRoot b x → IsRoot a x) → roots n b ≡ roots n a
same_tops zero a b forth back = refl
same_tops (suc n) a b forth back =
    let rest : roots n b ≡ roots n a = same_tops n a b (λ x small. forth x (omega arith)) (λ x small. back x (omega arith)) in
    elim (eqb_tells (get_or a n 0) n) [
      | inl is ↦ elim (eqb_tells (get_or b n 0) n) [
        | inl is' ↦ both true is.0 is'.0 rest
        | inr not' ↦ absurd (not'.1 (forth n (omega arith) is.1))
      ]
      | inr not ↦ elim (eqb_tells (get_or b n 0) n) [
        | inl is' ↦ absurd (not.1 (back n (omega arith) is'.1))
        | inr not' ↦ both false not.0 not'.0 rest
      ]
    ]
  where
    both : (c : Bool) → (get_or a n 0 == n) ≡ c → (get_or b n 0 == n) ≡ c → roots n b ≡ roots n a → roots (suc n) b ≡ roots (suc n) a
    both c at_a at_b rest =
        let one : one_if (get_or a n 0 == n) ≡ one_if (get_or b n 0 == n) = ap (λ v. one_if v) (at_a ∙ sym at_b) in
        omega arith

-- if a root gets a parent, there is one root fewer
pub fewer_tops : (n : ℕ) (parent : List ℕ) (later earlier : ℕ) → later < n → later < length parent → earlier < later → IsRoot parent later → roots n (set parent later earlier) < roots n parent
fewer_tops zero parent later earlier small inside before top = absurd (omega arith)
fewer_tops (suc n) parent later earlier small inside before top = elim (cases_eq n later) [
  | inl is ↦
      let was : one_if (get_or parent n 0 == n) ≡ 1 = at parent n (subst (λ v. get_or parent v 0 ≡ v) (sym is) top) in
      let now : one_if (get_or (set parent later earlier) n 0 == n) ≡ 0 = off (set parent later earlier) n (λ same. absurd (let e = get_or-set_same parent later earlier 0 inside in let s = subst (λ v. get_or (set parent later earlier) v 0 ≡ v) is same in omega arith)) in
      let rest : roots n (set parent later earlier) ≡ roots n parent = same_tops n parent (set parent later earlier) (λ x low t. get_or-set_other parent later x earlier 0 (λ e. absurd (omega arith)) ∙ t) (λ x low t. sym (get_or-set_other parent later x earlier 0 (λ e. absurd (omega arith))) ∙ t) in
      omega arith
  | inr apart ↦
      let same : one_if (get_or (set parent later earlier) n 0 == n) ≡ one_if (get_or parent n 0 == n) = ap (λ v. one_if (v == n)) (get_or-set_other parent later n earlier 0 apart) in
      let rest = fewer_tops n parent later earlier (omega arith) inside before top in
      omega arith
]
  where
    at : (parent : List ℕ) (n : ℕ) → get_or parent n 0 ≡ n → one_if (get_or parent n 0 == n) ≡ 1
    at parent n top = elim (eqb_tells (get_or parent n 0) n) [ inl is ↦ ap (λ v. one_if v) is.0 | inr not ↦ absurd (not.1 top) ]

    off : (parent : List ℕ) (n : ℕ) → (get_or parent n 0 ≡ n → ⊥) → one_if (get_or parent n 0 == n) ≡ 0
    off parent n other = elim (eqb_tells (get_or parent n 0) n) [ inl is ↦ absurd (other is.1) | inr not ↦ ap (λ v. one_if v) not.0 ]

-- there are at most as many roots as places
pub tops_few : (n : ℕ) (parent : List ℕ) → roots n parent ≤ n
tops_few zero parent = omega arith
tops_few (suc n) parent = let rest = tops_few n parent in elim (eqb_tells (get_or parent n 0) n) [
  | inl is ↦ let one : one_if (get_or parent n 0 == n) ≡ 1 = ap (λ v. one_if v) is.0 in omega arith
  | inr not ↦ let one : one_if (get_or parent n 0 == n) ≡ 0 = ap (λ v. one_if v) not.0 in omega arith
]

-- the first place is a root
pub tops_some : (n : ℕ) (parent : List ℕ) → IsFalling parent → 0 < length parent → 0 < n → 0 < roots n parent
tops_some zero parent falling inside some = absurd (omega arith)
tops_some (suc n) parent falling inside some = elim (cases_eq n 0) [
  | inl first ↦ elim (eqb_tells (get_or parent n 0) n) [
    | inl is ↦ let one : one_if (get_or parent n 0 == n) ≡ 1 = ap (λ v. one_if v) is.0 in omega arith
    | inr not ↦ absurd (not.1 (subst (λ v. get_or parent v 0 ≡ v) (sym first) (let low = falling 0 inside in omega arith)))
  ]
  | inr later ↦ let rest = tops_some n parent falling inside (omega arith) in omega arith
]

pub set_over : (parent : List ℕ) (later earlier : ℕ) → later < length parent → (passes : List Pass) (level : ℤ) → AreJoined passes level later earlier → AreOver passes level parent → AreOver passes level (set parent later earlier)
set_over parent later earlier inside passes level joined over y small = elim (cases_eq y later) [
  | inl is ↦ subst (λ v. AreJoined passes level v (get_or (set parent later earlier) v 0)) (sym is) (subst (AreJoined passes level later) (sym (get_or-set_same parent later earlier 0 inside)) joined)
  | inr apart ↦ subst (AreJoined passes level y) (sym (get_or-set_other parent later y earlier 0 apart)) (over y (subst (λ n. y < n) (length-set parent later earlier) small))
]
