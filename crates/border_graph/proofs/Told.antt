-- The listed edges inside a tile, from the rows of its rim points.
use Rattle.std.proofs.Common.{rules}
use Rattle.std.proofs.Common.{◌≡◌, ℕ, zero, suc, ◌+◌, inl, inr, ℤ, List, [], ◌∷◌, length, refl, sym, ap, ◌∙◌, subst, arith, Contains, IsTrue, IsFalse, true, false, true≢false, ◌↔◌, ◌⊎◌, Option, Some, None, IfSome, IfNone, is_some}
use Rattle.border_graph.proofs.Prelude.{AreListed, Edge, IsInnerLink, IsLabelLink, IsLink, IsOutletLink, IsSpillLink, IsThere, OUT, Rim, RimPoint, Spill, Summary, across, cases_Bool, cases_eq, out_at, rim_point, turned}
use Rattle.border_graph.specs.TileGraph.{AreTileRows, AreEdgesOut, AreEdgesAcross}
use Rattle.border_graph.proofs.Listing.{listed_all}

pub inner_turned : (n : ℕ) (bs : List Summary) (t k l : ℕ) (level : ℤ) → IsInnerLink n bs t k l level → IsInnerLink n bs t l k level
inner_turned n bs t k l level (inl label) = inr (inl label)
inner_turned n bs t k l level (inr (inl label)) = inl label
inner_turned n bs t k l level (inr (inr (inl spill))) = inr (inr (inr spill))
inner_turned n bs t k l level (inr (inr (inr spill))) = inr (inr (inl spill))

-- a rim point that is found is ground
pub there_if : (There : Type 0) (IsIt : RimPoint → Type 0) (found : Option RimPoint) → IfSome found (λ point. There × IsIt point) → is_some found ≡ true → There
there_if There IsIt (Some point) told on = told.0
there_if There IsIt None told on = absurd (true≢false (sym on))

pub not_there_if : (There : Type 0) (found : Option RimPoint) → IfNone found (There → ⊥) → is_some found ≡ false → There → ⊥
not_there_if There (Some point) told off = absurd (true≢false off)
not_there_if There None told off = told

-- a spill is given by its labels and its level
spill_is : (s : Spill) (x y : ℕ) (l : ℤ) → s.a ≡ x → s.b ≡ y → s.level ≡ l → s ≡ record { a = x; b = y; level = l }
spill_is s x y l a b level = subst (λ v. s ≡ record { a = v; b = y; level = l }) a (subst (λ v. s ≡ record { a = s.a; b = v; level = l }) b (subst (λ v. s ≡ record { a = s.a; b = s.b; level = v }) level refl))

only_one : (x s : Spill) → Contains (x ∷ []) s → s ≡ x
only_one x s (zero, small, is) = sym is
only_one x s (suc k, small, is) = absurd (omega arith)

module _ (n : ℕ) (b : Summary) (k : ℕ) where
  -- the row has the spills that lead from the rim point
  abbrev IsRow : List Spill → List Spill → Type 0
  IsRow row spills = (s : Spill) → Contains row s ↔ (Contains spills s × (s.a ≡ k))

  module _ (there : IsThere n (b ∷ []) 0 k) (point : RimPoint) (is : rim_point b k ≡ point) (own : Spill) (height : own.level ≡ point.height) where
    at_height : (level : ℤ) → level ≡ own.level → (rim_point b k).height ≡ level
    at_height level at = ap (λ (p : RimPoint). p.height) is ∙ (sym height ∙ sym at)

    -- edges for the spills from the rim point to the outlet node
    pub edges_out : (IsTrue point.outlet → own.b ≡ OUT) → (IsFalse point.outlet → own.b ≡ point.label) → (row : List Spill) → IsRow row b.spills → (old mid new : List Edge)
        → AreListed (λ s. s.b ≡ OUT) out_at (own ∷ []) 1 old mid → AreListed (λ s. s.b ≡ OUT) out_at row (length row) mid new → AreEdgesOut n b k old new
    edges_out outlet label row row_is old mid new one more = record {
      still = λ way has. more.still way (one.still way has);
      only = λ way has. elim (more.only way has) [
        | inr (s, (in_row, (out, at))) ↦
            let from = (row_is s).0 in_row in
            inr (ap (λ (w : Edge). w.to) at, (there, inr (inr (subst (Contains b.spills) (spill_is s k OUT way.level from.1 out (sym (ap (λ (w : Edge). w.level) at))) from.0))))
        | inl before ↦ elim (one.only way before) [
          | inl first ↦ inl first
          | inr (s, (in_one, (out, at))) ↦
              let same = only_one own s in_one in
              let level : way.level ≡ own.level = ap (λ (w : Edge). w.level) at ∙ ap (λ (x : Spill). x.level) same in
              let leads : own.b ≡ OUT = sym (ap (λ (x : Spill). x.b) same) ∙ out in
              inr (
                ap (λ (w : Edge). w.to) at,
                (
                  there,
                  elim (cases_Bool point.outlet) [
                    | inl on ↦ inl (record { outlet = ap (λ (p : RimPoint). p.outlet) is ∙ on; height = at_height way.level level })
                    | inr off ↦ inr (inl (record { names = ap (λ (p : RimPoint). p.label) is ∙ (sym (label off) ∙ leads); height = at_height way.level level }))
                  ],
                ),
              )
        ]
      ];
      all = λ level link. listed level link.1;
    }
      where
        own_listed : (level : ℤ) → (rim_point b k).height ≡ level → own.b ≡ OUT → Contains new (record { level = level; to = 0 })
        own_listed level at out = more.still (record { level = level; to = 0 }) (subst (λ v. Contains mid (record { level = v; to = 0 })) (height ∙ (sym (ap (λ (p : RimPoint). p.height) is) ∙ at)) (listed_all (λ s. s.b ≡ OUT) out_at (own ∷ []) old mid one own (0, omega arith, refl) out))

        listed : (level : ℤ) → IsOutletLink n (b ∷ []) 0 k level ⊎ (IsLabelLink n (b ∷ []) 0 k OUT level ⊎ IsSpillLink n (b ∷ []) 0 k OUT level) → Contains new (record { level = level; to = 0 })
        listed level (inl o) = own_listed level o.height (outlet (sym (ap (λ (p : RimPoint). p.outlet) is) ∙ o.outlet))
        listed level (inr (inl l)) = own_listed level l.height (elim (cases_Bool point.outlet) [ inl on ↦ outlet on | inr off ↦ label off ∙ (sym (ap (λ (p : RimPoint). p.label) is) ∙ l.names) ])
        listed level (inr (inr spill)) = listed_all (λ s. s.b ≡ OUT) out_at row mid new more (record { a = k; b = OUT; level = level }) ((row_is (record { a = k; b = OUT; level = level })).1 (spill, refl)) refl

    -- edges for the spills from the rim point to others of its tile
    module _ (back : List Spill) (rows : AreTileRows n b back) (first : ℕ) (label : own.b ≡ point.label) (row row' : List Spill) (row_is : IsRow row b.spills) (row_is' : IsRow row' back) (old mid mid' new : List Edge)
        (one : AreListed (λ s. IsThere n (b ∷ []) 0 s.b) (across first) (own ∷ []) 1 old mid) (more : AreListed (λ s. IsThere n (b ∷ []) 0 s.b) (across first) row (length row) mid mid')
        (rest : AreListed (λ s. IsThere n (b ∷ []) 0 s.b) (across first) row' (length row') mid' new) where
      -- an edge to the node to which a spill leads, if that is a link from this rim point
      edge_is : (s : Spill) (way : Edge) → IsThere n (b ∷ []) 0 s.b → way ≡ across first s → IsInnerLink n (b ∷ []) 0 k s.b s.level → (l : ℕ) × ((way.to ≡ first + (1 + l)) × IsLink n (b ∷ []) (Rim 0 k) (Rim 0 l) way.level)
      edge_is s way on at inner = (s.b, (ap (λ (w : Edge). w.to) at, (there, (on, inl (refl, subst (IsInnerLink n (b ∷ []) 0 k s.b) (sym (ap (λ (w : Edge). w.level) at)) inner)))))

      from_back : (s : Spill) → Contains back s → s.a ≡ k → IsInnerLink n (b ∷ []) 0 k s.b s.level
      from_back s has from = search rules

      from_own : (s : Spill) → s ≡ own → IsInnerLink n (b ∷ []) 0 k s.b s.level
      from_own s same = search rules

      own_listed : (l : ℕ) (level : ℤ) → IsThere n (b ∷ []) 0 l → (rim_point b k).label ≡ l → (rim_point b k).height ≡ level → Contains new (record { level = level; to = first + (1 + l) })
      own_listed l level on names at =
          let same : own ≡ record { a = own.a; b = l; level = level } = spill_is own own.a l level refl (label ∙ (sym (ap (λ (p : RimPoint). p.label) is) ∙ names)) (height ∙ (sym (ap (λ (p : RimPoint). p.height) is) ∙ at)) in
          let has = listed_all (λ s. IsThere n (b ∷ []) 0 s.b) (across first) (own ∷ []) old mid one own (0, omega arith, refl) (subst (λ (s : Spill). IsThere n (b ∷ []) 0 s.b) (sym same) on) in
          rest.still (record { level = level; to = first + (1 + l) }) (more.still (record { level = level; to = first + (1 + l) }) (subst (λ (s : Spill). Contains mid (across first s)) same has))

      back_listed : (l : ℕ) (level : ℤ) → IsThere n (b ∷ []) 0 l → Contains back (record { a = k; b = l; level = level }) → Contains new (record { level = level; to = first + (1 + l) })
      back_listed l level on has = listed_all (λ s. IsThere n (b ∷ []) 0 s.b) (across first) row' mid' new rest (record { a = k; b = l; level = level }) ((row_is' (record { a = k; b = l; level = level })).1 (has, refl)) on

      inner_listed : (l : ℕ) (level : ℤ) → IsThere n (b ∷ []) 0 l → IsInnerLink n (b ∷ []) 0 k l level → Contains new (record { level = level; to = first + (1 + l) })
      inner_listed l level on (inl name) = own_listed l level on name.names name.height
      inner_listed l level on (inr (inl name)) = elim (cases_eq k l) [
        | inl same ↦ own_listed l level on (ap (λ j. (rim_point b j).label) same ∙ (name.names ∙ same)) (ap (λ j. (rim_point b j).height) same ∙ name.height)
        | inr other ↦ back_listed l level on (rows.turned.labels (record { a = k; b = l; level = level }) (record { there = on; apart = other; label = record { names = name.names; height = name.height } }))
      ]
      inner_listed l level on (inr (inr (inl spill))) =
          rest.still (record { level = level; to = first + (1 + l) }) (listed_all (λ s. IsThere n (b ∷ []) 0 s.b) (across first) row mid mid' more (record { a = k; b = l; level = level }) ((row_is (record { a = k; b = l; level = level })).1 (spill, refl)) on)
      inner_listed l level on (inr (inr (inr spill))) = back_listed l level on (rows.turned.spills (record { a = l; b = k; level = level }) spill)

      pub edges_across : AreEdgesAcross n b k first old new
      edges_across = record {
        still = λ way has. rest.still way (more.still way (one.still way has));
        only = λ way has. elim (rest.only way has) [
          | inr (s, (in_row, (on, at))) ↦ let from = (row_is' s).0 in_row in inr (edge_is s way on at (from_back s from.0 from.1))
          | inl before ↦ elim (more.only way before) [
            | inr (s, (in_row, (on, at))) ↦ let from = (row_is s).0 in_row in inr (edge_is s way on at (inr (inr (inl (subst (Contains b.spills) (spill_is s k s.b s.level from.1 refl refl) from.0)))))
            | inl earlier ↦ elim (one.only way earlier) [
              | inl first ↦ inl first
              | inr (s, (in_one, (on, at))) ↦ inr (edge_is s way on at (from_own s (only_one own s in_one)))
            ]
          ]
        ];
        all = λ l level link. among l level link;
      }
        where
          among : (l : ℕ) (level : ℤ) → IsLink n (b ∷ []) (Rim 0 k) (Rim 0 l) level → Contains new (record { level = level; to = first + (1 + l) })
          among l level (here, (on, inl inner)) = inner_listed l level on inner.1
          among l level (here, (on, inr shared)) = absurd (shared.apart refl)
