-- The kept passes are a least spanning forest.
use Rattle.std.proofs.Common.{rules}
use Rattle.border_graph.proofs.Prelude.{AreJoined, AreOver, Contains, Contains-append_left, Contains-get_or, Contains-push, Contains-push_cases, Equal, Greater, IsFalling, IsForestSoFar, Less, List, Pass, SpanAll, ℕ, ℤ, [], ap, arith, cases_Bool, cases_eq, cases_lt, cond, false, get_or, get_or_default, inl, inr, int_cmp, int_lt, ints, is_lt, length, length-append, nat_cmp, ordering_then, roots, subst, suc, sym, true≢false, zero, ≤ℤ_same, ≤ℤ_trans, ◌++◌, ◌+◌, ◌<◌, ◌∙◌, ◌∷◌, ◌≡◌, ◌≤ℤ◌, ◌≤◌}
use Rattle.border_graph.specs.Forest.{IsRisingBy, IsOverAll}
use Rattle.border_graph.proofs.Forests.Connected.{joined_self, joined_by, joined_more}
use Rattle.border_graph.proofs.Forests.Roots.{tops_few, tops_some}

module _ (count : ℕ) (sorted : List Pass) where
  pub none_kept : (parent : List ℕ) → length parent ≡ count → ((x : ℕ) → x < count → get_or parent x 0 ≡ x) → IsForestSoFar count sorted 0 parent []
  none_kept parent whole all = record {
    whole = whole;
    falling = λ x small. let same = all x (subst (λ n. x < n) whole small) in omega arith;
    only = λ p has. let h = has.1 in absurd (omega arith);
    over = λ level over x small. subst (AreJoined [] level x) (sym (all x (subst (λ n. x < n) whole small))) (joined_self [] level x);
    done = λ j d small. absurd (omega arith);
    few = let f = tops_few count parent in omega arith;
  }

  module _ (k : ℕ) (small : k < length sorted) (rising : IsRisingBy sorted) (d : Pass) (parent parent' : List ℕ) (kept : List Pass) (r : IsForestSoFar count sorted k parent kept) where
    -- a level at least as high as the first k + 1 passes
    before : (level : ℤ) → IsOverAll count sorted (k + 1) level → IsOverAll count sorted k level
    before level over j e less = over j e (omega arith)

    -- the pass is at least as high as those before it
    over_this : IsOverAll count sorted k (get_or sorted k d).level
    over_this j e less = subst (λ (p : Pass). (get_or sorted j e).level ≤ℤ p.level) (sym (get_or_default sorted k d e small)) (rising j k e (omega arith) small)

    at : (j : ℕ) (e : Pass) → j < k + 1 → k ≤ j → get_or sorted k d ≡ get_or sorted j e
    at j e less last = let same : k ≡ j = omega arith in get_or_default sorted k d e small ∙ ap (λ i. get_or sorted i e) same

    module _ (whole : length parent' ≡ length parent) (falling : IsFalling parent') where
      -- a pass that joins places already joined is left out
      pub passed_over : ((passes : List Pass) (level : ℤ) → AreJoined passes level (get_or sorted k d).a (get_or sorted k d).b → AreOver passes level parent → AreOver passes level parent')
          → ((passes : List Pass) (level : ℤ) → AreOver passes level parent → AreJoined passes level (get_or sorted k d).a (get_or sorted k d).b)
          → roots count parent' ≤ roots count parent → IsForestSoFar count sorted (k + 1) parent' kept
      passed_over moves together no_more = record {
        whole = whole ∙ r.whole;
        falling = falling;
        only = r.only;
        over = λ level over. let was = r.over level (before level over) in moves kept level (together kept level was) was;
        done = λ j e less. elim (cases_lt j k) [
          | inl earlier ↦ r.done j e earlier
          | inr last ↦ subst (λ (p : Pass). AreJoined kept p.level p.a p.b) (at j e less last) (together kept (get_or sorted k d).level (r.over (get_or sorted k d).level over_this))
        ];
        few = let f = r.few in omega arith;
      }

      -- a pass that joins separate parts is kept
      pub kept_too : ((passes : List Pass) (level : ℤ) → AreJoined passes level (get_or sorted k d).a (get_or sorted k d).b → AreOver passes level parent → AreOver passes level parent')
          → roots count parent' < roots count parent → (kept' : List Pass) → kept' ≡ kept ++ get_or sorted k d ∷ [] → IsForestSoFar count sorted (k + 1) parent' kept'
      kept_too moves fewer kept' is = record {
        whole = whole ∙ r.whole;
        falling = falling;
        only = λ p has. elim (Contains-push_cases kept (get_or sorted k d) p (subst (λ (l : List Pass). Contains l p) is has)) [
          | inl earlier ↦ r.only p earlier
          | inr last ↦ subst (Contains sorted) last (Contains-get_or sorted k d small)
        ];
        over = λ level over. moves kept' level (joined_by kept' level (get_or sorted k d).a (get_or sorted k d).b (get_or sorted k d).level (over k d (omega arith)) this)
            (λ x inside. joined_more kept kept' more level x (get_or parent x 0) (r.over level (before level over) x inside));
        done = λ j e less. elim (cases_lt j k) [
          | inl earlier ↦ joined_more kept kept' more (get_or sorted j e).level (get_or sorted j e).a (get_or sorted j e).b (r.done j e earlier)
          | inr last ↦ subst (λ (p : Pass). AreJoined kept' p.level p.a p.b) (at j e less last) (joined_by kept' (get_or sorted k d).level (get_or sorted k d).a (get_or sorted k d).b (get_or sorted k d).level (≤ℤ_same (get_or sorted k d).level) this)
        ];
        few = let f = r.few in let longer : length kept' ≡ length kept + 1 = ap length is ∙ length-append kept (get_or sorted k d ∷ []) in omega arith;
      }
        where
          this : Contains kept' (get_or sorted k d)
          this = subst (λ (l : List Pass). Contains l (get_or sorted k d)) (sym is) (Contains-push kept (get_or sorted k d))

          more : (p : Pass) → Contains kept p → Contains kept' p
          more p has = subst (λ (l : List Pass). Contains l p) (sym is) (Contains-append_left kept (get_or sorted k d ∷ []) p has)

  -- after all passes, the kept ones span them
  module _ (parent : List ℕ) (kept : List Pass) (k : ℕ) (past : length sorted ≤ k) (r : IsForestSoFar count sorted k parent kept) where
    pub all_spanned : SpanAll sorted kept
    all_spanned = record {
      only = r.only;
      joined = λ p has. subst (λ (q : Pass). AreJoined kept q.level q.a q.b) has.2 (r.done has.0 p (let below = has.1 in omega arith));
    }

    pub fewer_kept : 0 < count → length kept < count
    fewer_kept some = let f = r.few in let top = tops_some count parent r.falling (subst (λ n. 0 < n) (sym r.whole) some) some in omega arith

-- the sort orders passes by level
pub rises : (p q : Pass) → is_lt (ordering_then (int_cmp q.level p.level) (ordering_then (nat_cmp q.a p.a) (nat_cmp q.b p.b))) ≡ false → p.level ≤ℤ q.level
rises p q h = search rules

pub rising_from : (sorted : List Pass) → ((k : ℕ) (d : Pass) → k + 1 < length sorted → (get_or sorted k d).level ≤ℤ (get_or sorted (k + 1) d).level) → IsRisingBy sorted
rising_from sorted step j zero d le small = subst (λ i. (get_or sorted i d).level ≤ℤ (get_or sorted 0 d).level) (let none : 0 ≡ j = omega arith in none) (≤ℤ_same (get_or sorted 0 d).level)
rising_from sorted step j (suc k) d le small = elim (cases_eq j (suc k)) [
  | inl same ↦ subst (λ i. (get_or sorted i d).level ≤ℤ (get_or sorted (suc k) d).level) (sym same) (≤ℤ_same (get_or sorted (suc k) d).level)
  | inr earlier ↦
      let next : k + 1 ≡ suc k = omega arith in
      ≤ℤ_trans (get_or sorted j d).level (get_or sorted k d).level (get_or sorted (suc k) d).level (rising_from sorted step j k d (omega arith) (omega arith))
      (subst (λ i. (get_or sorted k d).level ≤ℤ (get_or sorted i d).level) next (step k d (omega arith)))
]

-- the kept passes also span the unsorted passes
pub span_moved : (all sorted kept : List Pass) → ((p : Pass) → Contains all p → Contains sorted p) → ((p : Pass) → Contains sorted p → Contains all p) → SpanAll sorted kept → SpanAll all kept
span_moved all sorted kept forth back span = record { only = λ p has. back p (span.only p has); joined = λ p has. span.joined p (forth p has) }
