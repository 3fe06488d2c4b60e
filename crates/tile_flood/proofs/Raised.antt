-- Raising computes the mosaic's filled levels at all points of a tile.
use Rattle.std.proofs.Common.{rules}
use Rattle.std.proofs.Common.{◌≡◌, ◌≢◌, ℕ, ◌+◌, ◌*◌, ◌-◌, ◌<◌, ◌≤◌, inl, inr, ℤ, ◌≤ℤ◌, IsTrue, IsFalse, List, [], ◌∷◌, ◌++◌, length-append, get_or, slice_index, refl, sym, ap, ◌∙◌, subst, arith, true≢false, nat_eq, Some, None}
use Rattle.tile_flood.proofs.Prelude.{AreRaisedBelow, Corner, IsFilledLevel, IsLabelling, IsMosaic, IsPath, Mosaic, NO_LABEL, OUT, bare_block, block_is_lawful, block_of, block_terrain, cases_Bool, cond-false, crest, end_of, get_or-append, get_or-append_seam, height-le_level, height_of, int_max, is_exit, is_ground, is_inner_outlet, is_present, is_rim, is_solid, is_void, metres, ne_eqb, point_of, raised_level, terrain, terrain_is_lawful, void, ≤ℤ_antisym}
use borrow.Author.Count.{below_more}
use Rattle.lattice.specs.Block.{IsBlockOf, rim_number}
use Rattle.lattice.specs.Limits.{largest_side}
use Rattle.labelling.specs.Raising.{AreRimLevels, IsRimFilled, AreRaised, CannotBeRaised}
use Rattle.water.specs.TileLevels.{AreTileLevels}
use Rattle.labelling.proofs.Parts.{level_of_part, level_at_outlet}
use Rattle.labelling.proofs.InMosaic.{block_is_part, ground_is, inner_outlet_is_outlet}
use Rattle.labelling.proofs.Passages.{not_void, solid_has_level}
use Rattle.labelling.proofs.Heights.{lowest_height, rim_number_below}
use Rattle.labelling.proofs.Squares.{solid_below, solid_height}

-- the result of raising a label and a level
module _ (rim : List ℤ) (level : ℤ) (label : ℕ) where
  pub raised_over : label ≢ NO_LABEL → level ≢ void → label ≢ OUT → get_or rim label void ≢ void → raised_level rim level label ≡ Some (int_max level (get_or rim label void))
  raised_over some full inner there =
      cond-false (nat_eq label NO_LABEL) _ _ (ne_eqb label NO_LABEL some)
      ∙ (cond-false (is_void level) _ _ (not_void level full)
      ∙ (cond-false (nat_eq label OUT) _ _ (ne_eqb label OUT inner)
      ∙ cond-false (is_void (get_or rim label void)) _ _ (not_void (get_or rim label void) there)))

  pub raised_out : label ≡ OUT → level ≢ void → raised_level rim level label ≡ Some level
  raised_out out full = search rules

  pub raised_void : label ≡ NO_LABEL → level ≡ void → raised_level rim level label ≡ Some void
  raised_void none gap = search rules

module _ (m : Mosaic) (is : IsMosaic m) (c : Corner) (present : IsTrue (is_present m c)) (heights : List ℤ) (sinks : List ℕ) (of : IsBlockOf m c (block_of m.side heights sinks))
    (levels : List ℤ) (labels : List ℕ) (labelling : IsLabelling (block_of m.side heights sinks) levels labels) (rim : List ℤ) (rims : AreRimLevels m c rim) where
  least_height : (e : ℕ) → void ≤ℤ get_or heights e void
  least_height e = lowest_height m is c heights of.heights e

  record IsRaised (e : ℕ) : Type 0 where
    level : ℤ
    raised : raised_level rim (get_or levels e void) (slice_index labels e) ≡ Some level
    filled : IsTrue (is_ground m (point_of m.side c e)) → IsFilledLevel (terrain m) (point_of m.side c e) level
    gap : IsFalse (is_ground m (point_of m.side c e)) → level ≡ void

  module _ (e : ℕ) (solid : IsTrue (is_solid (bare_block m.side heights) e)) (r : ℕ) (rest : List ℕ) (path : IsPath (block_terrain (block_of m.side heights sinks)) e rest)
      (at_level : crest (block_terrain (block_of m.side heights sinks)) e rest ≡ get_or levels e void) (last : end_of (block_terrain (block_of m.side heights sinks)) e rest ≡ r)
      (exit : IsTrue (is_exit (block_of m.side heights sinks) r)) where
    solid_r : IsTrue (is_solid (bare_block m.side heights) r)
    solid_r = (block_is_lawful (block_of m.side heights sinks)).outlet_ground r exit

    grounded : (q : ℕ) → IsTrue (is_solid (bare_block m.side heights) q) → IsTrue (is_ground m (point_of m.side c q))
    grounded q on = sym (ground_is m is c present heights sinks of q (solid_below m.side heights q on)) ∙ on

    solid_there : IsFalse (is_ground m (point_of m.side c e)) → ⊥
    solid_there off = true≢false (sym (grounded e solid) ∙ off)

    full : get_or levels e void ≢ void
    full = solid_has_level m.side heights sinks levels labels least_height labelling e solid

    by_rim : IsTrue (is_rim m.side r) → slice_index labels e ≡ rim_number m.side r → IsRaised e
    by_rim on_rim label =
        let low : 3 ≤ m.side = is.side_low in
        let high : m.side ≤ largest_side = is.side_high in
        let small : rim_number m.side r < 4 * (m.side - 1) = rim_number_below m.side r low (solid_below m.side heights r solid_r) in
        let some : slice_index labels e ≢ NO_LABEL = λ same. absurd (omega arith) in
        let inner : slice_index labels e ≢ OUT = λ same. absurd (omega arith) in
        let fill : IsFilledLevel (terrain m) (point_of m.side c r) (get_or rim (slice_index labels e) void) =
        subst (λ l. IsFilledLevel (terrain m) (point_of m.side c r) (get_or rim l void)) (sym label) (rims.filled r (solid_below m.side heights r solid_r) on_rim (grounded r solid_r)) in
        record {
          level = int_max (get_or levels e void) (get_or rim (slice_index labels e) void);
          raised = raised_over rim (get_or levels e void) (slice_index labels e) some full inner (above fill);
          filled = λ _. level_of_part (block_terrain (block_of m.side heights sinks)) (terrain m) (λ e. point_of m.side c e) (is_rim m.side) (block_is_part m is c present heights sinks of) (block_is_lawful (block_of m.side heights sinks)) (terrain_is_lawful m)
              e (get_or levels e void) (get_or rim (slice_index labels e) void) rest solid (labelling.level e solid) path at_level
              (subst (λ q. IsFilledLevel (terrain m) (point_of m.side c q) (get_or rim (slice_index labels e) void)) (sym last) fill);
          gap = λ off. absurd (solid_there off);
        }
      where
        above : {l : ℤ} → IsFilledLevel (terrain m) (point_of m.side c r) l → l ≢ void
        above {l} fill same =
            let high : metres (height_of m (point_of m.side c r)) ≤ℤ l = height-le_level (terrain m) (point_of m.side c r) l fill in
            let at : get_or heights r void ≡ metres (height_of m (point_of m.side c r)) = of.heights.values r (solid_below m.side heights r solid_r) in
            let low : void ≤ℤ get_or heights r void = least_height r in
            solid_height m.side heights r solid_r (≤ℤ_antisym (get_or heights r void) void (subst (λ v. v ≤ℤ void) (sym at) (subst (λ v. metres (height_of m (point_of m.side c r)) ≤ℤ v) same high)) low)

    by_out : IsTrue (is_inner_outlet (block_of m.side heights sinks) r) → slice_index labels e ≡ OUT → IsRaised e
    by_out inner label = record {
      level = get_or levels e void;
      raised = raised_out rim (get_or levels e void) (slice_index labels e) label full;
      filled = λ _. level_at_outlet (block_terrain (block_of m.side heights sinks)) (terrain m) (λ e. point_of m.side c e) (is_rim m.side) (block_is_part m is c present heights sinks of) (block_is_lawful (block_of m.side heights sinks)) (terrain_is_lawful m)
          e (get_or levels e void) rest solid (labelling.level e solid) path at_level
          (subst (λ q. IsTrue ((terrain m).is_outlet (point_of m.side c q))) (sym last) (inner_outlet_is_outlet m is c present heights sinks of r inner));
      gap = λ off. absurd (solid_there off);
    }

  raised_at : (e : ℕ) → e < m.side * m.side → IsRaised e
  raised_at e small = elim (cases_Bool (is_solid (bare_block m.side heights) e)) [
    | inl solid ↦
        let label = labelling.label e solid in
        let rest = label.way.0 in
        let last = end_of (block_terrain (block_of m.side heights sinks)) e rest in
        elim label.way.1.1.1.1 [
          | inl rim ↦ by_rim e solid last rest label.way.1.0 label.way.1.1.0 refl label.way.1.1.1.0 rim.0 rim.1
          | inr out ↦ by_out e solid last rest label.way.1.0 label.way.1.1.0 refl label.way.1.1.1.0 out.0 out.1
        ]
    | inr off ↦
        let none = labelling.void_points e small off in
        record {
          level = void;
          raised = raised_void rim (get_or levels e void) (slice_index labels e) none.1 none.0;
          filled = λ on. absurd (true≢false (sym on ∙ (sym (ground_is m is c present heights sinks of e small) ∙ off)));
          gap = λ _. refl;
        }
  ]

  pub filled_at : (e : ℕ) → e < m.side * m.side →
      (level : ℤ) × ((raised_level rim (get_or levels e void) (slice_index labels e) ≡ Some level) × (IsTrue (is_ground m (point_of m.side c e)) → IsFilledLevel (terrain m) (point_of m.side c e) level))
  filled_at e small = let at = raised_at e small in (at.level, (at.raised, at.filled))

  pub tile_levels : (filled : List ℤ) → AreRaised m.side levels labels rim filled → AreTileLevels m c filled
  tile_levels filled each = record {
    whole = each.whole;
    filled = λ e small on. subst (IsFilledLevel (terrain m) (point_of m.side c e)) (same e small) ((raised_at e small).filled on);
    void_points = λ e small off. sym (same e small) ∙ (raised_at e small).gap off;
  }
    where
      same : (e : ℕ) (small : e < m.side * m.side) → (raised_at e small).level ≡ get_or filled e void
      same e small = one_value (sym (raised_at e small).raised ∙ each.each e small)
        where
          one_value : {a b : ℤ} → Some a ≡ Some b → a ≡ b
          one_value h = cc

  pub can_be_raised : CannotBeRaised m.side levels labels rim → ⊥
  can_be_raised (inl size) = size rims.whole
  can_be_raised (inr point) = none_is_some (sym (raised_at point.0 point.1.0).raised ∙ point.1.1)
    where
      none_is_some : {a : ℤ} → Some a ≡ None → ⊥
      none_is_some h = cc

pub rim_filled_levels : (m : Mosaic) (c : Corner) (n : ℕ) (levels : List ℤ) (labels : List ℕ) (rim filled : List ℤ) → IsRimFilled m c n levels labels rim → AreRaised n levels labels rim filled → AreTileLevels m c filled
rim_filled_levels m c n levels labels rim filled h each =
    tile_levels m h.mosaic c h.present h.labelled.0.heights h.labelled.0.sinks
    (subst (λ s. IsBlockOf m c (block_of s h.labelled.0.heights h.labelled.0.sinks)) h.labelled.1.0.side h.labelled.1.0) levels labels
    (subst (λ s. IsLabelling (block_of s h.labelled.0.heights h.labelled.0.sinks) levels labels) h.labelled.1.0.side h.labelled.1.1) rim h.rim_levels filled
    (subst (λ s. AreRaised s levels labels rim filled) h.side each)

pub rim_filled_can : (m : Mosaic) (c : Corner) (n : ℕ) (levels : List ℤ) (labels : List ℕ) (rim : List ℤ) → IsRimFilled m c n levels labels rim → CannotBeRaised n levels labels rim → ⊥
rim_filled_can m c n levels labels rim h cannot =
    can_be_raised m h.mosaic c h.present h.labelled.0.heights h.labelled.0.sinks
    (subst (λ s. IsBlockOf m c (block_of s h.labelled.0.heights h.labelled.0.sinks)) h.labelled.1.0.side h.labelled.1.0) levels labels
    (subst (λ s. IsLabelling (block_of s h.labelled.0.heights h.labelled.0.sinks) levels labels) h.labelled.1.0.side h.labelled.1.1) rim h.rim_levels
    (subst (λ s. CannotBeRaised s levels labels rim) h.side cannot)

pub rim_filled_at : (m : Mosaic) (c : Corner) (n : ℕ) (levels : List ℤ) (labels : List ℕ) (rim : List ℤ) (e : ℕ) → IsRimFilled m c n levels labels rim → e < n * n →
    (level : ℤ) × ((raised_level rim (get_or levels e void) (slice_index labels e) ≡ Some level) × (IsTrue (is_ground m (point_of m.side c e)) → IsFilledLevel (terrain m) (point_of m.side c e) level))
rim_filled_at m c n levels labels rim e h small =
    filled_at m h.mosaic c h.present h.labelled.0.heights h.labelled.0.sinks
    (subst (λ s. IsBlockOf m c (block_of s h.labelled.0.heights h.labelled.0.sinks)) h.labelled.1.0.side h.labelled.1.0) levels labels
    (subst (λ s. IsLabelling (block_of s h.labelled.0.heights h.labelled.0.sinks) levels labels) h.labelled.1.0.side h.labelled.1.1) rim h.rim_levels
    e (subst (λ s. e < s * s) h.side small)

-- the levels raised so far, with one more
pub raised_more : (n : ℕ) (levels : List ℤ) (labels : List ℕ) (rim filled filled' : List ℤ) (k : ℕ) (level : ℤ) → AreRaisedBelow n levels labels rim filled k →
    filled' ≡ filled ++ level ∷ [] → raised_level rim (get_or levels k void) (slice_index labels k) ≡ Some level → AreRaisedBelow n levels labels rim filled' (k + 1)
raised_more n levels labels rim filled filled' k level s is here = subst (λ l. AreRaisedBelow n levels labels rim l (k + 1)) (sym is) (record {
  whole = length-append filled (level ∷ []) ∙ ap (λ l. l + 1) s.whole;
  each = below_more (λ e. raised_level rim (get_or levels e void) (slice_index labels e) ≡ Some (get_or (filled ++ level ∷ []) e void)) k
      (λ e less. s.each e less ∙ ap Some (sym (get_or-append filled (level ∷ []) void e (subst (λ l. e < l) (sym s.whole) less))))
      (here ∙ ap Some (sym (ap (λ e. get_or (filled ++ level ∷ []) e void) (sym s.whole) ∙ get_or-append_seam filled level [] void)));
})
