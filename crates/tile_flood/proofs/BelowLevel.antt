-- If a point's height changes but stays below its level, no level and no label changes.
use Rattle.tile_flood.proofs.Prelude.{AreCarried, AreRelaxed, Block, IsLabelling, IsMending, IsPath, IsTrue, LeadsOut, List, Names, ℕ, ℤ, [], arith, block_of, block_terrain, cases_eq, clamps, crest, end_of, get_or, get_or-set_other, get_or-set_same, inl, inr, int_max, ints, is_exit, is_solid, length, refl, set, slice_index, subst, sym, void, ≤ℤ_antisym, ≤ℤ_same, ◌<ℤ◌, ◌<◌, ◌∙◌, ◌∷◌, ◌≡◌, ◌≢◌, ◌≤ℤ◌}
use Rattle.lattice.proofs.Multiples.{some_side}
use Rattle.labelling.proofs.Squares.{linked_parts, solid_below}
use Rattle.tile_flood.proofs.Dependence.{same_exit, same_inner, same_link, same_names, labelling_relaxed, relaxed_least, max_mono}
use Rattle.tile_flood.proofs.Held.{not_below}
use Rattle.tile_flood.proofs.Steps.{labelled_state, heights_state, mended}

low_link : (level was now beside : ℤ) → level ≤ℤ int_max was beside → was <ℤ level → level ≤ℤ int_max now beside
low_link level was now beside relaxed below = omega (arith, ints, clamps)

max_low : (h c h₀ c₀ l : ℤ) → h ≤ℤ l → l ≤ℤ int_max h₀ c₀ → c ≤ℤ c₀ → int_max h c ≤ℤ int_max h₀ c₀
max_low h c h₀ c₀ l low least on = omega (arith, ints, clamps)

module _ (n : ℕ) (heights : List ℤ) (sinks : List ℕ) (levels : List ℤ) (labels : List ℕ) (labelling : IsLabelling (block_of n heights sinks) levels labels)
    (e : ℕ) (h : ℤ) (inside : e < length heights) (same : (z : ℕ) → is_solid (block_of n heights sinks) z ≡ is_solid (block_of n (set heights e h) sinks) z)
    (below : get_or heights e void <ℤ get_or levels e void) (low : h ≤ℤ get_or levels e void) where
  height_at : get_or (set heights e h) e void ≡ h
  height_at = get_or-set_same heights e h void inside

  height_else : (z : ℕ) → z ≢ e → get_or (set heights e h) z void ≡ get_or heights z void
  height_else z other = get_or-set_other heights e z h void other

  -- the point isn't an outlet, since an outlet's level is its height
  no_exit : (z : ℕ) → IsTrue (is_exit (block_of n heights sinks) z) → z ≢ e
  no_exit z out is = not_below (get_or levels e void) (get_or heights e void) (subst (λ x. get_or levels x void ≤ℤ get_or heights x void) is ((labelling_relaxed n heights sinks levels labels labelling).exits z out)) below

  abbrev before : Block
  before = block_of n heights sinks

  abbrev now : Block
  now = block_of n (set heights e h) sinks

  -- changing point e's height makes no link lower a level
  link_low : (x y : ℕ) → get_or levels y void ≤ℤ int_max (get_or heights y void) (get_or levels x void) → get_or levels y void ≤ℤ int_max (get_or (set heights e h) y void) (get_or levels x void)
  link_low x y le = elim (cases_eq y e) [
    | inl is ↦ subst (λ z. get_or levels z void ≤ℤ int_max (get_or (set heights e h) z void) (get_or levels x void)) (sym is)
        (low_link (get_or levels e void) (get_or heights e void) (get_or (set heights e h) e void) (get_or levels x void) (subst (λ z. get_or levels z void ≤ℤ int_max (get_or heights z void) (get_or levels x void)) is le) below)
    | inr other ↦ subst (λ v. get_or levels y void ≤ℤ int_max v (get_or levels x void)) (sym (height_else y other)) le
  ]

  low_now : (z : ℕ) → z ≡ e → get_or (set heights e h) z void ≤ℤ get_or levels z void
  low_now z is = subst (λ x. get_or (set heights e h) x void ≤ℤ get_or levels x void) (sym is) (subst (λ v. v ≤ℤ get_or levels e void) (sym height_at) low)

  relaxed : AreRelaxed now levels
  relaxed = record {
    exits = λ z out.
        let was = same_exit n heights (set heights e h) sinks same z ∙ out in
        subst (λ v. get_or levels z void ≤ℤ v) (sym (height_else z (no_exit z was))) ((labelling_relaxed n heights sinks levels labels labelling).exits z was);
    links = λ x y link. link_low x y ((labelling_relaxed n heights sinks levels labels labelling).links x y (same_link n heights (set heights e h) sinks same x y ∙ link));
  }

  path_now : (z : ℕ) (rest : List ℕ) → IsPath (block_terrain before) z rest → IsPath (block_terrain now) z rest
  path_now z [] path = sym (same z) ∙ path
  path_now z (f ∷ rest) path = (sym (same_link n heights (set heights e h) sinks same z f) ∙ path.0, path_now f rest path.1)

  ends : (z : ℕ) (rest : List ℕ) → end_of (block_terrain before) z rest ≡ end_of (block_terrain now) z rest
  ends z [] = refl
  ends z (f ∷ rest) = ends f rest

  -- the crest of a path to an outlet doesn't rise, since from the changed point on it is at least that point's level
  no_higher : (z : ℕ) (rest : List ℕ) → LeadsOut (block_terrain before) z rest → crest (block_terrain now) z rest ≤ℤ crest (block_terrain before) z rest
  no_higher z [] way = subst (λ v. v ≤ℤ get_or heights z void) (sym (height_else z (no_exit z way.outlet))) (≤ℤ_same (get_or heights z void))
  no_higher z (f ∷ rest) way =
      let on = no_higher f rest (record { path = way.path.1; outlet = way.outlet }) in
      elim (cases_eq z e) [
        | inl is ↦ max_low (get_or (set heights e h) z void) (crest (block_terrain now) f rest) (get_or heights z void) (crest (block_terrain before) f rest) (get_or levels z void) (low_now z is)
            ((labelling.level z (linked_parts n heights z f way.path.0).from).least (f ∷ rest) way) on
        | inr other ↦ subst (λ v. int_max v (crest (block_terrain now) f rest) ≤ℤ crest (block_terrain before) z (f ∷ rest)) (sym (height_else z other))
            (max_mono (get_or heights z void) (crest (block_terrain now) f rest) (get_or heights z void) (crest (block_terrain before) f rest) (≤ℤ_same (get_or heights z void)) on)
      ]

  -- the path of each label is still a path, with the same crest
  pub labelling_still : IsLabelling now levels labels
  labelling_still = record {
    levels_whole = labelling.levels_whole;
    labels_whole = labelling.labels_whole;
    level = λ z solid. let w = way z solid in record { reached = (w.0, (w.1.0, w.1.1)); least = relaxed_least n (set heights e h) sinks levels relaxed z };
    label = λ z solid.
        let was = labelling.label z (same z ∙ solid) in
        let w = way z solid in
        record {
          way = (w.0, (w.1.0.path, (w.1.1, (w.1.0.outlet, subst (Names now (slice_index labels z)) (ends z w.0) (same_names n heights (set heights e h) sinks same (slice_index labels z) (end_of (block_terrain before) z w.0) was.way.1.1.1.1)))));
          inner_outlet = λ out. was.inner_outlet (same_inner n heights (set heights e h) sinks same z ∙ out);
        };
    void_points = λ z small gap. labelling.void_points z small (same z ∙ gap);
  }
    where
      way : (z : ℕ) → IsTrue (is_solid now z) → (rest : List ℕ) × (LeadsOut (block_terrain now) z rest × (crest (block_terrain now) z rest ≡ get_or levels z void))
      way z solid =
          let was = (labelling.label z (same z ∙ solid)).way in
          let rest = was.0 in
          let led : LeadsOut (block_terrain before) z rest = record { path = was.1.0; outlet = was.1.1.1.0 } in
          let leads : LeadsOut (block_terrain now) z rest = record {
            path = path_now z rest was.1.0;
            outlet = subst (λ x. IsTrue (is_exit now x)) (ends z rest) (sym (same_exit n heights (set heights e h) sinks same (end_of (block_terrain before) z rest)) ∙ was.1.1.1.0);
          } in (
            rest,
            (
              leads,
              ≤ℤ_antisym (crest (block_terrain now) z rest) (get_or levels z void) (subst (λ v. crest (block_terrain now) z rest ≤ℤ v) was.1.1.0 (no_higher z rest led))
                  (relaxed_least n (set heights e h) sinks levels relaxed z rest leads),
            ),
          )

  module _ (carried : AreCarried before levels labels) where
    state : IsMending n (set heights e h) sinks levels labels (λ _. ⊥) (λ _. ⊥)
    state = heights_state n heights (set heights e h) sinks levels labels (λ _. ⊥) (λ _. ⊥) (λ _. ⊥) (labelled_state n heights sinks levels labels (λ _. ⊥) (λ _. ⊥) labelling carried) same
        (λ z out. height_else z (no_exit z (same_exit n heights (set heights e h) sinks same z ∙ out)))
        (λ z solid high. elim (cases_eq z e) [ inl is ↦ low_now z is | inr other ↦ subst (λ v. v ≤ℤ get_or levels z void) (sym (height_else z other)) high ])
        (λ z w. w) (λ x y on link le. inr (link_low x y le))

    pub carried_still : IsTrue (is_solid before e) → AreCarried now levels labels
    carried_still ground = (mended n (set heights e h) sinks levels labels (λ _. ⊥) (λ _. ⊥) (λ _. ⊥) (λ _. ⊥) state (some_side n e (solid_below n heights e ground)) (λ z w. w) (λ z w. w)).1
