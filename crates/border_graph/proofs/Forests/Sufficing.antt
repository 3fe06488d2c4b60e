-- The spills that a spanning forest keeps suffice.
use Rattle.std.proofs.Common.{rules}
use Rattle.border_graph.proofs.Prelude.{ArePassesOf, Contains, Contains-append_left, Contains-permutation, Contains-push, Contains-push_cases, Corner, IsPass, IsPermutation-sym, IsReordered, IsSummaryOf, IsWayBelow, List, Mosaic, OUT, Pass, RimPoint, SpanAll, Spill, Summarizes, Summary, ℕ, ℤ, [], ap, ap₂, arith, cases_eq, cases_lt, get_or, inl, inr, length, map, refl, subst, suc, sym, zero, ≤ℤ_same, ◌++◌, ◌+◌, ◌<◌, ◌∙◌, ◌∷◌, ◌≡◌, ◌⊎◌}
use Rattle.border_graph.specs.Reduced.{IsCrossing, IsLabelOf, Suffice, label_of, spill_of, IsPassListed}

map_has : (f : Pass → Spill) (passes : List Pass) (p : Pass) → Contains passes p → Contains (map f passes) (f p)
map_has f [] p (k, less, is) = absurd (omega (arith, less))
map_has f (q ∷ rest) p (zero, less, is) = (0, omega arith, ap f is)
map_has f (q ∷ rest) p (suc k, less, is) = let later = map_has f rest p (k, omega arith, is) in (suc later.0, omega (arith, later.1), later.2)

map_from : (f : Pass → Spill) (passes : List Pass) (s : Spill) → Contains (map f passes) s → (p : Pass) × (Contains passes p × (f p ≡ s))
map_from f [] s (k, less, is) = absurd (omega (arith, less))
map_from f (q ∷ rest) s (zero, less, is) = (q, ((0, omega arith, refl), is))
map_from f (q ∷ rest) s (suc k, less, is) = let later = map_from f rest s (k, omega arith, is) in (later.0, ((suc later.1.0.0, omega (arith, later.1.0.1), later.1.0.2), later.1.1))

-- all spills suffice
pub suffice_all : (size : ℕ) (all : List Spill) → Suffice size all all
suffice_all size all = record {
  only = λ s has. has;
  crossed = λ x y level _ _ crossing. inl (y ∷ [], ((level, (crossing, ≤ℤ_same level)), refl));
}

module _ (size : ℕ) (spills : List Spill) where
  pub no_passes : ArePassesOf size spills 0 []
  no_passes = record {
    inside = λ p has. absurd (let below = has.1 in omega arith);
    from = λ p has. absurd (let below = has.1 in omega arith);
    listed = λ j d less. absurd (omega arith);
  }

  -- one more spill, which becomes a pass or is left out
  module _ (k : ℕ) (small : k < length spills) (spill : Spill) (at : (d : Spill) → get_or spills k d ≡ spill) (passes passes' : List Pass) (so : ArePassesOf size spills k passes) where
    left : ((passes' ≡ passes) × (IsLabelOf size spill.a → IsLabelOf size spill.b → ⊥)) → ArePassesOf size spills (k + 1) passes'
    left is = subst (ArePassesOf size spills (k + 1)) (sym is.0) (record {
      inside = so.inside;
      from = so.from;
      listed = λ j d less a b. elim (cases_lt j k) [
        | inl earlier ↦ so.listed j d earlier a b
        | inr last ↦
            let same : j ≡ k = omega arith in
            let here : get_or spills j d ≡ spill = ap (λ i. get_or spills i d) same ∙ at d in
            absurd (is.1 (subst (λ (s : Spill). IsLabelOf size s.a) here a) (subst (λ (s : Spill). IsLabelOf size s.b) here b))
      ];
    })

    taken : ((pass : Pass) × ((passes' ≡ passes ++ pass ∷ []) × ((spill_of size pass ≡ spill) × ((pass.a < size + 1) × (pass.b < size + 1))))) → ArePassesOf size spills (k + 1) passes'
    taken (pass, (is, (spilled, inside))) = subst (ArePassesOf size spills (k + 1)) (sym is) (record {
      inside = λ p has. elim (Contains-push_cases passes pass p has) [
        | inl earlier ↦ so.inside p earlier
        | inr last ↦ subst (λ (q : Pass). (q.a < size + 1) × (q.b < size + 1)) last inside
      ];
      from = λ p has. elim (Contains-push_cases passes pass p has) [
        | inl earlier ↦ so.from p earlier
        | inr last ↦ (k, small, at (spill_of size p) ∙ (sym spilled ∙ ap (spill_of size) last))
      ];
      listed = λ j d less a b. elim (cases_lt j k) [
        | inl earlier ↦ let there = so.listed j d earlier a b in (there.0, (Contains-append_left passes (pass ∷ []) there.0 there.1.0, there.1.1))
        | inr last ↦ let same : j ≡ k = omega arith in (pass, (Contains-push passes pass, spilled ∙ (sym (at d) ∙ ap (λ i. get_or spills i d) (sym same))))
      ];
    })

    pub one_more_pass : IsPassListed size spill passes passes' → ArePassesOf size spills (k + 1) passes'
    one_more_pass (inl is) = left is
    one_more_pass (inr is) = taken is

  module _ (passes kept : List Pass) (of : ArePassesOf size spills (length spills) passes) (span : SpanAll passes kept) where
    less : List Spill
    less = map (spill_of size) kept

    hop : (x y : ℕ) (level : ℤ) → IsPass kept x y level
        → Contains less (record { a = label_of size x; b = label_of size y; level = level }) ⊎ Contains less (record { a = label_of size y; b = label_of size x; level = level })
    unfolding less
    hop x y level (inl there) = inl (map_has (spill_of size) kept (record { level = level; a = x; b = y }) there)
    hop x y level (inr back) = inr (map_has (spill_of size) kept (record { level = level; a = y; b = x }) back)

    -- a path over passes is a path over spills, at least up to its first OUT
    cross : (y x : ℕ) (level : ℤ) (rest : List ℕ) → IsWayBelow (IsPass kept) y level x rest
        → ((rest : List ℕ) × IsWayBelow (IsCrossing less) (label_of size y) level (label_of size x) rest) ⊎ ((rest : List ℕ) × IsWayBelow (IsCrossing less) OUT level (label_of size x) rest)
    cross y x level [] way = inl ([], ap (label_of size) way)
    cross y x level (z ∷ rest) way = elim (cases_eq (label_of size x) OUT) [
      | inl out ↦ inr ([], out)
      | inr other ↦ elim (cross y z level rest way.1) [
        | inl there ↦ inl (label_of size z ∷ there.0, ((way.0.0, ((other, hop x z way.0.0 way.0.1.0), way.0.1.1)), there.1))
        | inr gone ↦ inr (label_of size z ∷ gone.0, ((way.0.0, ((other, hop x z way.0.0 way.0.1.0), way.0.1.1)), gone.1))
      ]
    ]

    -- a path in either direction over one spill
    over : (s : Spill) → Contains spills s → IsLabelOf size s.a → IsLabelOf size s.b
        → (((rest : List ℕ) × IsWayBelow (IsCrossing less) s.b s.level s.a rest) ⊎ ((rest : List ℕ) × IsWayBelow (IsCrossing less) OUT s.level s.a rest))
        × (((rest : List ℕ) × IsWayBelow (IsCrossing less) s.a s.level s.b rest) ⊎ ((rest : List ℕ) × IsWayBelow (IsCrossing less) OUT s.level s.b rest))
    over s has a b =
        let here : get_or spills has.0 s ≡ s = has.2 in
        let found = of.listed has.0 s has.1 (subst (λ (t : Spill). IsLabelOf size t.a) (sym here) a) (subst (λ (t : Spill). IsLabelOf size t.b) (sym here) b) in
        let is : spill_of size found.0 ≡ s = found.1.1 ∙ here in
        let joined = span.joined found.0 found.1.0 in
        subst (λ (t : Spill).
        (((rest : List ℕ) × IsWayBelow (IsCrossing less) t.b t.level t.a rest) ⊎ ((rest : List ℕ) × IsWayBelow (IsCrossing less) OUT t.level t.a rest))
        × (((rest : List ℕ) × IsWayBelow (IsCrossing less) t.a t.level t.b rest) ⊎ ((rest : List ℕ) × IsWayBelow (IsCrossing less) OUT t.level t.b rest))) is
        (cross found.0.b found.0.a found.0.level joined.0.0 joined.0.1, cross found.0.a found.0.b found.0.level joined.1.0 joined.1.1)

    pub forest_suffices : (less' : List Spill) → less' ≡ map (spill_of size) kept → Suffice size spills less'
    unfolding less
    forest_suffices less' is = subst (Suffice size spills) (sym is) (record {
      only = λ s has. let p = map_from (spill_of size) kept s has in subst (Contains spills) p.1.1 (of.from p.0 (span.only p.0 p.1.0));
      crossed = crossed;
    })
      where
        crossed : (x y : ℕ) (level : ℤ) → IsLabelOf size x → IsLabelOf size y → IsCrossing spills x y level
            → ((rest : List ℕ) × IsWayBelow (IsCrossing less) y level x rest) ⊎ ((rest : List ℕ) × IsWayBelow (IsCrossing less) OUT level x rest)
        crossed x y level here there (other, inl has) = (over (record { a = x; b = y; level = level }) has here there).0
        crossed x y level here there (other, inr has) = (over (record { a = y; b = x; level = level }) has there here).1

-- ---- summaries

-- a summary with all spills
pub summarizes_all : (m : Mosaic) (b : Summary) → IsSummaryOf m b → Summarizes m b
summarizes_all m b is = record { all = b.spills; of = is; kept = suffice_all (length b.rim) b.spills }

-- a summary with only spills that suffice
pub summarizes_less : (m : Mosaic) (b less : Summary) → less.corner ≡ b.corner → less.rim ≡ b.rim → Suffice (length b.rim) b.spills less.spills → IsSummaryOf m b → Summarizes m less
summarizes_less m b less corner rim suffice is = search rules

-- a summary of the same spills in another order
pub summarizes_reordered : (m : Mosaic) (b b' : Summary) → IsReordered b b' → Summarizes m b → Summarizes m b'
summarizes_reordered m b b' moved is = record {
  all = is.all;
  of = subst (IsSummaryOf m) (ap₂ (λ (c : Corner) (r : List RimPoint). record { corner = c; rim = r; spills = is.all }) (sym moved.corner) (sym moved.rim)) is.of;
  kept = record {
    only = λ s has. is.kept.only s (Contains-permutation b'.spills b.spills s (IsPermutation-sym b.spills b'.spills moved.spills) has);
    crossed = λ x y level here there crossing. elim (is.kept.crossed x y level (subst (λ (r : List RimPoint). IsLabelOf (length r) x) moved.rim here) (subst (λ (r : List RimPoint). IsLabelOf (length r) y) moved.rim there) crossing) [
      | inl way ↦ inl (way.0, along y level x way.0 way.1)
      | inr way ↦ inr (way.0, along OUT level x way.0 way.1)
    ];
  };
}
  where
    hop : (x y : ℕ) (level : ℤ) → IsCrossing b.spills x y level → IsCrossing b'.spills x y level
    hop x y level (other, inl has) = (other, inl (Contains-permutation b.spills b'.spills (record { a = x; b = y; level = level }) moved.spills has))
    hop x y level (other, inr has) = (other, inr (Contains-permutation b.spills b'.spills (record { a = y; b = x; level = level }) moved.spills has))

    along : (out : ℕ) (level : ℤ) (x : ℕ) (rest : List ℕ) → IsWayBelow (IsCrossing b.spills) out level x rest → IsWayBelow (IsCrossing b'.spills) out level x rest
    along out level x [] way = way
    along out level x (y ∷ rest) way = ((way.0.0, (hop x y way.0.0 way.0.1.0, way.0.1.1)), along out level y rest way.1)
