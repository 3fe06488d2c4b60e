-- A labelling remains right for its tile if a point changes its height below its level.
use Rattle.std.proofs.Common.{rules}
use Rattle.std.proofs.Common.{◌≡◌, ◌≢◌, ℕ, ◌*◌, ◌<◌, ℤ, ◌≤ℤ◌, ◌<ℤ◌, IsTrue, List, length, set, get_or, inl, inr, refl, sym, ap, ◌∙◌, subst, arith, nat_lt, lt-ltb, true≢false, get_or-set_same, get_or-set_other}
use Rattle.std.specs.Prelude.{Contains}
use Rattle.std.proofs.lemmas.Bool.{cases_Bool, cases_eq, and_from}
use Rattle.std.proofs.lemmas.Int.{ints}
use Rattle.std.proofs.lemmas.List.{length-set}
use Rattle.lattice.specs.Block.{Block, IsBlockOf, is_solid, is_sink_at}
use Rattle.lattice.specs.Corners.{Corner}
use Rattle.lattice.specs.Ground.{metres, is_sink}
use Rattle.lattice.specs.Height.{height_of}
use Rattle.lattice.specs.Lattice.{point_of}
use Rattle.lattice.specs.Mosaic.{Mosaic, void}
use Rattle.lattice.proofs.IntTests.{eq_or_not}
use Rattle.labelling.specs.Blocks.{LabelledGround, block_of}
use Rattle.labelling.specs.Blocks.{is_marked}
use Rattle.labelling.specs.Labelling.{IsLabelling}
use Rattle.tile_flood.proofs.BelowLevel.{labelling_still}
use Rattle.tile_flood.proofs.Dependence.{same_ground}
use Rattle.labelling.proofs.Squares.{test_if}
use Rattle.tile_labellings.specs.Labellings.{FloodedGround, IsFlooded, IsFloodedTile}
use Rattle.tile_labellings.specs.TileLabellings.{DifferAt, IsBelowLevel, IsSetFrom}

no_level : (was level : ℤ) → was <ℤ level → was ≡ void → level ≡ void → ⊥
no_level was level less is none = absurd (omega (arith, ints))

-- a point below its level is ground
below_is_ground : (b : Block) (labelled : LabelledGround) (e : ℕ) → IsLabelling b labelled.levels labelled.labels → e < b.side * b.side → get_or b.heights e void <ℤ get_or labelled.levels e void → IsTrue (is_solid b e)
below_is_ground b labelled e labelling small below = search rules

module _ (m new : Mosaic) (c : Corner) (e : ℕ) (differ : DifferAt c e m new) (labelled : LabelledGround) (is : IsFlooded m c labelled) where
  abbrev b : Block
  b = is.valid.0

  of_tile : IsBlockOf m c b
  of_tile = is.valid.1.0

  abbrev heights_of : (heights : List ℤ) → Type 0
  heights_of heights = (z : ℕ) → z < m.side * m.side → get_or heights z void ≡ metres (height_of new (point_of m.side c z))

  block_of_new : (heights : List ℤ) → length heights ≡ m.side * m.side → heights_of heights → IsBlockOf new c (block_of b.side heights b.sinks)
  block_of_new heights whole values = search rules

  -- heights of the changed tile with the same ground that differ only at point e
  pub record AreHeightsStill (heights : List ℤ) : Type 0 where
    pub block : IsBlockOf new c (block_of b.side heights b.sinks)
    pub labelling : IsLabelling (block_of b.side heights b.sinks) labelled.levels labelled.labels
    pub ground : (z : ℕ) → is_solid (block_of b.side b.heights b.sinks) z ≡ is_solid (block_of b.side heights b.sinks) z
    pub others : (z : ℕ) → z ≢ e → get_or heights z void ≡ get_or b.heights z void

  module _ (was to : ℤ) (set_from : IsSetFrom m new (point_of m.side c e) was to) (is_below : IsBelowLevel labelled.levels e was to) where
    small : e < m.side * m.side
    small = subst (λ k. e < k) (is.valid.1.1.levels_whole ∙ ap (λ n. n * n) of_tile.side) is_below.inside

    pub heights_still : (heights : List ℤ) × AreHeightsStill heights
    heights_still = elim set_from [
      | inl same ↦ (
        b.heights,
        record {
          block = block_of_new b.heights of_tile.heights.whole (λ z z_small. elim (cases_eq z e) [
            | inl at ↦ of_tile.heights.values z z_small ∙ ap metres (subst (λ x. height_of m (point_of m.side c x) ≡ height_of new (point_of m.side c x)) (sym at) (sym same))
            | inr other ↦ of_tile.heights.values z z_small ∙ ap metres (sym (differ.heights z z_small other))
          ]);
          labelling = is.valid.1.1;
          ground = λ z. refl;
          others = λ z other. refl;
        },
      )
      | inr set_to ↦
          let in_heights : e < length b.heights = subst (λ k. e < k) (sym of_tile.heights.whole) small in
          let had : get_or b.heights e void ≡ was = of_tile.heights.values e small ∙ ap metres set_to.0 in
          let under : get_or b.heights e void <ℤ get_or labelled.levels e void = subst (λ v. v <ℤ get_or labelled.levels e void) (sym had) is_below.below in
          let ground = below_is_ground b labelled e is.valid.1.1 (subst (λ k. e < k) is.valid.1.1.levels_whole is_below.inside) under in
          let same = same_ground b.side b.heights b.sinks e to in_heights ground is_below.full in (
            set b.heights e to,
            record {
              block = block_of_new (set b.heights e to) (length-set b.heights e to ∙ of_tile.heights.whole) (λ z z_small. elim (cases_eq z e) [
                | inl at ↦ subst (λ x. get_or (set b.heights e to) x void ≡ metres (height_of new (point_of m.side c x))) (sym at) (get_or-set_same b.heights e to void in_heights ∙ sym (ap metres (set_to.1 is_below.full)))
                | inr other ↦ get_or-set_other b.heights e z to void other ∙ (of_tile.heights.values z z_small ∙ ap metres (sym (differ.heights z z_small other)))
              ]);
              labelling = labelling_still b.side b.heights b.sinks labelled.levels labelled.labels is.valid.1.1 e to in_heights same under is_below.low;
              ground = same;
              others = λ z other. get_or-set_other b.heights e z to void other;
            },
          )
    ]

    pub kept_still : IsFlooded new c labelled
    kept_still = let now = heights_still in record { side = is.side ∙ sym differ.side; valid = (block_of b.side now.0 b.sinks, (now.1.block, now.1.labelling)) }

-- a flooded block that records that the point may have another height
module _ (m new : Mosaic) (c : Corner) (e : ℕ) (differ : DifferAt c e m new) (was to : ℤ) (set_from : IsSetFrom m new (point_of m.side c e) was to) where
  pub flooded_still : (f f' : FloodedGround) → f'.block ≡ f.block → f'.labelled ≡ f.labelled → Contains f'.changed e → ((z : ℕ) → Contains f.changed z → Contains f'.changed z) →
      (IsTrue f'.still → IsTrue f.still × IsBelowLevel f.labelled.levels e was to) → IsFloodedTile m c f → IsFloodedTile new c f'
  flooded_still f f' same_block same_labelled noted kept still is = record {
    block = record {
      side = ap (λ (b : Block). b.side) same_block ∙ (is.block.side ∙ sym differ.side);
      whole = ap (λ (b : Block). length b.heights) same_block ∙ (is.block.whole ∙ ap (λ n. n * n) (sym differ.side));
      heights = λ z small. elim (cases_eq z e) [
        | inl at ↦ inr (subst (Contains f'.changed) (sym at) noted)
        | inr other ↦ elim (is.block.heights z (below z small)) [
          | inl right ↦ inl (ap (λ (b : Block). get_or b.heights z void) same_block ∙ (right ∙ (ap metres (sym (differ.heights z (below z small) other)) ∙ ap (λ n. metres (height_of new (point_of n c z))) (sym differ.side))))
          | inr has ↦ inr (kept z has)
        ]
      ];
      sinks = λ z small. ap (λ (b : Block). is_sink_at b z) same_block ∙ (is.block.sinks z (below z small) ∙ (sym (differ.sinks z (below z small)) ∙ ap (λ n. is_sink new (point_of n c z)) (sym differ.side)));
    };
    still = λ on.
        let both = still on in
        subst (IsFlooded new c) (sym same_labelled) (kept_still m new c e differ f.labelled (is.still both.0) was to set_from both.1);
  }
    where
      below : (z : ℕ) → z < new.side * new.side → z < m.side * m.side
      below z small = subst (λ n. z < n * n) differ.side small
