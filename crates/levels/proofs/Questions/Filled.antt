-- The filled level of a point, from its own tile and the water's way out.
use Rattle.std.proofs.Common.{◌≡◌, ◌≢◌, ℕ, ◌<◌, ℤ, IsTrue, List, length, slice_index, slice_index_or, refl, sym, ◌∙◌, subst}
use Rattle.levels.proofs.Prelude.{Corner, Height, IsFalse, IsFilledLevel, IsFlooded, IsGroundNode, IsIndexOf, IsMosaic, IsRight, IsRimLevel, Known, LabelledGround, Mosaic, NO_LABEL, OUT, Point, Rim, corner_at, height_of, int_max, is_ground, is_height, metres, node_number, point_of, terrain, void}
use Rattle.lattice.specs.declared.height.Height.TheVariants.{Outside, Void, At}
use Rattle.levels.proofs.Tiles.Agreeing.{joined_at}
use Rattle.levels.proofs.Questions.Asked.{IsAt, is_at}
use Rattle.levels.proofs.Flows.Over.{ground_by_label, void_by_label, out_level, ground_node, over_level}

no_metres : (h : Height) → IsFalse (is_height h) → metres h ≡ void
no_metres (At v) none = absurd (cc)
no_metres Void none = refl
no_metres Outside none = refl

-- a point, by its index in a tile that holds it, with its level and label from a valid labelling of the tile's block
module _ (m : Mosaic) (is : IsMosaic m) (p : Point) (known : Known) (right : IsRight m known) (seen : List Corner) (same_seen : seen ≡ known.corners) (t e : ℕ) (some : (t < length seen) × IsIndexOf known.side (corner_at seen t) p e)
    (level : ℤ) (label : ℕ)
    (label_at : (labelled : LabelledGround) × (IsFlooded m (corner_at known.corners t) labelled × ((level ≡ slice_index_or labelled.levels e void) × (label ≡ slice_index labelled.labels e)))) where
  small : t < length known.corners
  small = subst (λ (cs : List Corner). t < length cs) same_seen some.0

  at_point : IsAt m (corner_at known.corners t) p e
  at_point = is_at m (corner_at known.corners t) known.side p e right.ready.same_side (subst (λ (cs : List Corner). IsIndexOf known.side (corner_at cs t) p e) same_seen some.1)

  -- a point with the label NO_LABEL isn't ground
  pub void_there : label ≡ NO_LABEL → IsFalse (is_ground m p)
  void_there none = subst (λ q. IsFalse (is_ground m q)) at_point.point
      (void_by_label m is known.side known.corners known.loaded right.ready t small label_at.0 label_at.1.0 e at_point.below (sym label_at.1.1.1 ∙ none))

  pub no_height_there : label ≡ NO_LABEL → metres (height_of m p) ≡ void
  no_height_there none = no_metres (height_of m p) (void_there none)

  -- a ground point, whose label isn't NO_LABEL
  module _ (ground : label ≢ NO_LABEL) where
    on_ground : IsTrue (is_ground m (point_of m.side (corner_at known.corners t) e))
    on_ground = ground_by_label m is known.side known.corners known.loaded right.ready t small label_at.0 label_at.1.0 e at_point.below (λ none. ground (label_at.1.1.1 ∙ none))

    -- the point's filled level if its label is OUT
    pub level_inside : label ≡ OUT → IsFilledLevel (terrain m) p level
    level_inside out = subst (IsFilledLevel (terrain m) p) (sym label_at.1.1.0) (subst (λ q. IsFilledLevel (terrain m) q (slice_index_or label_at.0.levels e void)) at_point.point
        (out_level m is known.side known.corners known.loaded right.ready t small label_at.0 label_at.1.0 e at_point.below on_ground (sym label_at.1.1.1 ∙ out)))

    -- the point's filled level if its label names a rim point
    module _ (named : label ≢ OUT) where
      pub rim_there : IsGroundNode m known.corners t label
      rim_there = subst (IsGroundNode m known.corners t) (sym label_at.1.1.1)
          (ground_node m is known.side known.corners known.loaded right.ready t small label_at.0 label_at.1.0 e at_point.below on_ground (λ out. named (label_at.1.1.1 ∙ out)))

      pub level_over : (v : ℤ) → IsRimLevel m known.corners (node_number m.side (Rim t label)) v → IsFilledLevel (terrain m) p (int_max level v)
      level_over v rim = subst (λ l. IsFilledLevel (terrain m) p (int_max l v)) (sym label_at.1.1.0)
          (subst (λ q. IsFilledLevel (terrain m) q (int_max (slice_index_or label_at.0.levels e void) v)) at_point.point
          (over_level m is known.side known.corners known.loaded right.ready t small label_at.0 label_at.1.0 e at_point.below on_ground (λ out. named (label_at.1.1.1 ∙ out)) v
          (joined_at m is known right (node_number m.side (Rim t (slice_index label_at.0.labels e))) v
          (subst (λ k. IsRimLevel m known.corners (node_number m.side (Rim t k)) v) label_at.1.1.1 rim))))
