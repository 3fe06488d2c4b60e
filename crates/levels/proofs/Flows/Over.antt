-- A point's filled level is its in-tile level, or the greater of that and the filled level of the rim point that its label
-- names.
use Rattle.std.proofs.Common.{◌≡◌, ◌≢◌, ℕ, ◌*◌, ◌-◌, ◌<◌, inl, inr, ℤ, pos, Bool, true, false, IsTrue, List, length, slice_index, slice_index_or, refl, sym, ◌∙◌, subst, arith, Contains}
use Rattle.levels.proofs.Prelude.{AreReady, Corner, IsBlockOf, IsFalse, IsFilledLevel, IsFlooded, IsGroundNode, IsJoinedLevel, IsLabelling, IsMosaic, IsPath, IsPlacedLink, LabelledGround, Mosaic, NO_LABEL, OUT, Option, Rim, TileGraph, bare_block, block_is_lawful, block_of, block_terrain, corner_at, crest, end_of, get_or_default, int_max, is_ground, is_present, is_rim, is_solid, node_number, point_of, present_iff, rim_number, rim_number_below, terrain, terrain_is_lawful, void}
use Rattle.labelling.proofs.InMosaic.{block_is_part, ground_is, solid_is_ground, inner_outlet_is_outlet}
use Rattle.labelling.proofs.Parts.{level_of_part, level_at_outlet}
use Rattle.labelling.proofs.Squares.{solid_below}
use Rattle.levels.proofs.Tiles.RimNodes.{filled_by_joined}
use Rattle.levels.proofs.Tiles.Whole.{summaries}

-- a point whose label isn't NO_LABEL is ground
pub ground_labelled : (m : Mosaic) (is : IsMosaic m) (c : Corner) (present : IsTrue (is_present m c)) (heights : List ℤ) (sinks : List ℕ) (of : IsBlockOf m c (block_of m.side heights sinks)) (levels : List ℤ) (labels : List ℕ)
    (labelling : IsLabelling (block_of m.side heights sinks) levels labels) (e : ℕ) (inside : e < m.side * m.side) → slice_index labels e ≢ NO_LABEL → IsTrue (is_ground m (point_of m.side c e))
ground_labelled m is c present heights sinks of levels labels labelling e inside some = by (is_ground m (point_of m.side c e)) refl
  where
    by : (on : Bool) → is_ground m (point_of m.side c e) ≡ on → IsTrue (is_ground m (point_of m.side c e))
    by true ground = ground
    by false none = absurd (some (labelling.void_points e inside (ground_is m is c present heights sinks of e inside ∙ none)).1)

-- a point of a tile, with a valid labelling of the tile's block
module _ (m : Mosaic) (is : IsMosaic m) (c : Corner) (present : IsTrue (is_present m c)) (heights : List ℤ) (sinks : List ℕ) (of : IsBlockOf m c (block_of m.side heights sinks)) (levels : List ℤ) (labels : List ℕ)
    (labelling : IsLabelling (block_of m.side heights sinks) levels labels) (e : ℕ) (inside : e < m.side * m.side) (on : IsTrue (is_ground m (point_of m.side c e))) where
  solid : IsTrue (is_solid (bare_block m.side heights) e)
  solid = ground_is m is c present heights sinks of e inside ∙ on

  -- the rim point that the label names
  record Named : Type 0 where
    pub r : ℕ
    pub solid_r : IsTrue (is_solid (bare_block m.side heights) r)
    pub rim : IsTrue (is_rim m.side r)
    pub number : rim_number m.side r ≡ slice_index labels e
    pub rest : List ℕ
    pub path : IsPath (block_terrain (block_of m.side heights sinks)) e rest
    pub at_level : crest (block_terrain (block_of m.side heights sinks)) e rest ≡ slice_index_or levels e void
    pub ends : end_of (block_terrain (block_of m.side heights sinks)) e rest ≡ r

  named : slice_index labels e ≢ OUT → Named
  named some =
      let label = labelling.label e solid in
      let last = end_of (block_terrain (block_of m.side heights sinks)) e label.way.0 in
      elim label.way.1.1.1.1 [
        | inl by_rim ↦ record {
          r = last;
          solid_r = (block_is_lawful (block_of m.side heights sinks)).outlet_ground last label.way.1.1.1.0;
          rim = by_rim.0;
          number = sym by_rim.1;
          rest = label.way.0;
          path = label.way.1.0;
          at_level = label.way.1.1.0;
          ends = refl;
        }
        | inr out ↦ absurd (some out.1)
      ]

  number_of : (r : ℕ) → IsTrue (is_solid (bare_block m.side heights) r) → rim_number m.side r < 4 * (m.side - 1)
  number_of r on_r = rim_number_below m.side r is.side_low (solid_below m.side heights r on_r)

  ground_of : (r : ℕ) → IsTrue (is_solid (bare_block m.side heights) r) → IsTrue (is_ground m (point_of m.side c r))
  ground_of r on_r = solid_is_ground m is c present heights sinks of r on_r

  -- the filled level of a point whose label is OUT
  level_out : slice_index labels e ≡ OUT → IsFilledLevel (terrain m) (point_of m.side c e) (slice_index_or levels e void)
  level_out out =
      let label = labelling.label e solid in
      let last = end_of (block_terrain (block_of m.side heights sinks)) e label.way.0 in
      elim label.way.1.1.1.1 [
        | inl by_rim ↦ absurd (too_low (rim_number m.side last) (number_of last ((block_is_lawful (block_of m.side heights sinks)).outlet_ground last label.way.1.1.1.0)) (sym by_rim.1 ∙ out))
        | inr inner ↦ level_at_outlet (block_terrain (block_of m.side heights sinks)) (terrain m) (λ i. point_of m.side c i) (is_rim m.side) (block_is_part m is c present heights sinks of) (block_is_lawful (block_of m.side heights sinks)) (terrain_is_lawful m)
            e (slice_index_or levels e void) label.way.0 solid (labelling.level e solid) label.way.1.0 label.way.1.1.0 (inner_outlet_is_outlet m is c present heights sinks of last inner.0)
      ]
    where
      too_low : (k : ℕ) → k < 4 * (m.side - 1) → k ≡ OUT → ⊥
      too_low k less same = let high = is.side_high in absurd (omega arith)

  -- a ground point's label isn't NO_LABEL
  pub never_unlabelled : slice_index labels e ≡ NO_LABEL → ⊥
  never_unlabelled none =
      let label = labelling.label e solid in
      let last = end_of (block_terrain (block_of m.side heights sinks)) e label.way.0 in
      elim label.way.1.1.1.1 [
        | inl by_rim ↦ absurd (too_low (rim_number m.side last) (number_of last ((block_is_lawful (block_of m.side heights sinks)).outlet_ground last label.way.1.1.1.0)) (sym by_rim.1 ∙ none))
        | inr inner ↦ let out = inner.1 in absurd (omega (arith, out, none))
      ]
    where
      too_low : (k : ℕ) → k < 4 * (m.side - 1) → k ≡ NO_LABEL → ⊥
      too_low k less same = let high = is.side_high in absurd (omega arith)

  -- the filled level of a point whose label names a rim point with a known filled level
  level_over : (n : Named) (v : ℤ) → IsFilledLevel (terrain m) (point_of m.side c n.r) v → IsFilledLevel (terrain m) (point_of m.side c e) (int_max (slice_index_or levels e void) v)
  level_over n v fill = level_of_part (block_terrain (block_of m.side heights sinks)) (terrain m) (λ i. point_of m.side c i) (is_rim m.side) (block_is_part m is c present heights sinks of) (block_is_lawful (block_of m.side heights sinks)) (terrain_is_lawful m)
      e (slice_index_or levels e void) v n.rest solid (labelling.level e solid) n.path n.at_level (subst (λ q. IsFilledLevel (terrain m) (point_of m.side c q) v) (sym n.ends) fill)

module _ (m : Mosaic) (is : IsMosaic m) (side : ℕ) (corners : List Corner) (loaded : List (Option TileGraph)) (ready : AreReady m side corners loaded) (t : ℕ) (small : t < length corners)
    (labelled : LabelledGround) (flooded : IsFlooded m (corner_at corners t) labelled) (e : ℕ) (inside : e < m.side * m.side) where
  of : IsBlockOf m (corner_at corners t) (block_of m.side flooded.valid.0.heights flooded.valid.0.sinks)
  of = subst (λ n. IsBlockOf m (corner_at corners t) (record { side = n; heights = flooded.valid.0.heights; sinks = flooded.valid.0.sinks })) flooded.valid.1.0.side flooded.valid.1.0

  labelling : IsLabelling (block_of m.side flooded.valid.0.heights flooded.valid.0.sinks) labelled.levels labelled.labels
  labelling = subst (λ n. IsLabelling (record { side = n; heights = flooded.valid.0.heights; sinks = flooded.valid.0.sinks }) labelled.levels labelled.labels) flooded.valid.1.0.side flooded.valid.1.1

  present : IsTrue (is_present m (corner_at corners t))
  present = (present_iff m (corner_at corners t)).1 (subst (λ (cs : List Corner). Contains cs (corner_at corners t)) ready.all (t, small, get_or_default corners t (corner_at corners t) (record { lat = pos 0; lon = pos 0 }) small))

  pub ground_by_label : slice_index labelled.labels e ≢ NO_LABEL → IsTrue (is_ground m (point_of m.side (corner_at corners t) e))
  ground_by_label some = ground_labelled m is (corner_at corners t) present flooded.valid.0.heights flooded.valid.0.sinks of labelled.levels labelled.labels labelling e inside some

  pub void_by_label : slice_index labelled.labels e ≡ NO_LABEL → IsFalse (is_ground m (point_of m.side (corner_at corners t) e))
  void_by_label none = by (is_ground m (point_of m.side (corner_at corners t) e)) refl
    where
      by : (on : Bool) → is_ground m (point_of m.side (corner_at corners t) e) ≡ on → IsFalse (is_ground m (point_of m.side (corner_at corners t) e))
      by false gap = gap
      by true on = absurd (never_unlabelled m is (corner_at corners t) present flooded.valid.0.heights flooded.valid.0.sinks of labelled.levels labelled.labels labelling e inside on none)

  module _ (on : IsTrue (is_ground m (point_of m.side (corner_at corners t) e))) where
    pub out_level : slice_index labelled.labels e ≡ OUT → IsFilledLevel (terrain m) (point_of m.side (corner_at corners t) e) (slice_index_or labelled.levels e void)
    out_level out = level_out m is (corner_at corners t) present flooded.valid.0.heights flooded.valid.0.sinks of labelled.levels labelled.labels labelling e inside on out

    module _ (some : slice_index labelled.labels e ≢ OUT) where
      n : Named m is (corner_at corners t) present flooded.valid.0.heights flooded.valid.0.sinks of labelled.levels labelled.labels labelling e inside on
      n = named m is (corner_at corners t) present flooded.valid.0.heights flooded.valid.0.sinks of labelled.levels labelled.labels labelling e inside on some

      pub ground_node : IsGroundNode m corners t (slice_index labelled.labels e)
      ground_node = record {
        index = n.r;
        rim = record { small = solid_below m.side flooded.valid.0.heights n.r n.solid_r; rim = n.rim; number = n.number };
        on_ground = ground_of m is (corner_at corners t) present flooded.valid.0.heights flooded.valid.0.sinks of labelled.levels labelled.labels labelling e inside on n.r n.solid_r;
      }

      pub over_level : (v : ℤ) → IsJoinedLevel (IsPlacedLink m.side (summaries m is side corners loaded ready)) 0 (node_number m.side (Rim t (slice_index labelled.labels e))) v
          → IsFilledLevel (terrain m) (point_of m.side (corner_at corners t) e) (int_max (slice_index_or labelled.levels e void) v)
      unfolding n ground_node
      over_level v joined =
          level_over m is (corner_at corners t) present flooded.valid.0.heights flooded.valid.0.sinks of labelled.levels labelled.labels labelling e inside on n v
          (filled_by_joined m is side corners loaded ready t (slice_index labelled.labels e) n.r small ground_node.rim ground_node.on_ground v joined)
