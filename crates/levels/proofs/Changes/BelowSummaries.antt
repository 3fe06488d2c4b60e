-- A tile's summary stays if a point's height changes but is below the point's in-tile level before and after.
use Rattle.levels.proofs.Prelude.{At, Bool, Corner, DifferAt, Flooded, IsFilledLevel, IsFlooded, IsIndexOf, IsLabelling, IsSummaryOf, IsTrue, Kept, LabelledGround, List, Mosaic, Point, Spill, Summarizes, Summary, Terrain, TileLabelling, ℕ, ℤ, ap, arith, block_of, cases_Bool, false, fun_ext, height_of, inl, inr, ints, is_ground, is_outlet, is_void, level_is_unique, ltb-true, metres, nat_lt, not, point_of, refl, rim_point, slice_index, slice_index_or, solid_if, subst, sym, void, ◌&&◌, ◌*◌, ◌-◌, ◌<ℤ◌, ◌<◌, ◌||◌, ◌∙◌, ◌≡◌, ◌≢◌, ◌≤ℤ◌}
use Rattle.std.specs.List.{list_all}
use Rattle.std.proofs.lemmas.List.{get_or_default, same_lists}
use Rattle.lattice.specs.Block.{IsBlockOf, block_terrain, is_solid, is_exit, is_rim, is_sink_at, around, rim_number}
use Rattle.labelling.specs.Spills.{AreSpills, Meets}
use Rattle.tile_flood.proofs.Dependence.{same_link}
use Rattle.labelling.proofs.Passages.{not_void}
use Rattle.tile_labellings.specs.TileLabellings.{labelled_of, DifferAt as DifferAtIndex, IsBelow, IsBelowLevel, IsSetFrom, IsStill, IsTileLabelling}
use Rattle.tile_labellings.proofs.KeptStill.{AreHeightsStill, heights_still}
use Rattle.levels.proofs.Questions.Asked.{is_at}
use Rattle.levels.proofs.Changes.Noted.{differ_at_index, set_at_index}
use Rattle.levels.proofs.Changes.SparedLevels.{ground_still, outlet_still}
use Rattle.levels.proofs.Tiles.Summed.{rim_level}
use Rattle.edits.proofs.PointEditing.{height_not_void}
use Rattle.levels.proofs.Changes.Unchanged.{unchanged_summary}

-- ---- two valid labellings of one tile have the same levels

module _ (m : Mosaic) (c : Corner) (heights heights' : List ℤ) (sinks sinks' : List ℕ) (of : IsBlockOf m c (block_of m.side heights sinks)) (of' : IsBlockOf m c (block_of m.side heights' sinks')) where
  same_heights : heights ≡ heights'
  same_heights = same_lists heights heights' (of.heights.whole ∙ sym of'.heights.whole) (λ k d below.
      let small : k < m.side * m.side = subst (λ w. k < w) of.heights.whole below in
      get_or_default heights k d void below ∙ (of.heights.values k small ∙ (sym (of'.heights.values k small) ∙ get_or_default heights' k void d (subst (λ w. k < w) (sym of'.heights.whole) small))))

  abbrev solid : ℕ → Bool
  solid x = is_solid (block_of m.side heights sinks) x

  abbrev exit_by : ℕ → Bool → Bool → Bool
  exit_by x s k = (s && is_rim m.side x) || (s && not (is_rim m.side x) && (not (list_all solid (around m.side x)) || k))

  exits_same : (x : ℕ) → is_exit (block_of m.side heights sinks) x ≡ is_exit (block_of m.side heights sinks') x
  exits_same x = elim (cases_Bool (nat_lt x (m.side * m.side))) [
    | inl near ↦ let small = ltb-true x (m.side * m.side) near in ap (exit_by x (solid x)) (of.sinks x small ∙ sym (of'.sinks x small))
    | inr far ↦
        let off : solid x ≡ false = ap (λ b. b && not (is_void (slice_index_or heights x void))) far in
        ap (λ s. exit_by x s (is_sink_at (block_of m.side heights sinks) x)) off ∙ sym (ap (λ s. exit_by x s (is_sink_at (block_of m.side heights sinks') x)) off)
  ]

  abbrev made : (ℕ → Bool) → Terrain ℕ
  made o = record { is_ground = solid; height = λ x. slice_index_or heights x void; is_adjacent = (block_terrain (block_of m.side heights sinks)).is_adjacent; is_outlet = o }

  same_terrain : block_terrain (block_of m.side heights sinks) ≡ block_terrain (block_of m.side heights sinks')
  same_terrain = ap made (fun_ext exits_same)

  level_same : (levels levels' : List ℤ) (labels labels' : List ℕ) → IsLabelling (block_of m.side heights sinks) levels labels → IsLabelling (block_of m.side heights' sinks') levels' labels' → (x : ℕ) → IsTrue (solid x)
      → slice_index_or levels x void ≡ slice_index_or levels' x void
  level_same levels levels' labels labels' one other x on =
      level_is_unique (block_terrain (block_of m.side heights sinks)) x (slice_index_or levels x void) (slice_index_or levels' x void) (one.level x on)
      (subst (λ (t : Terrain ℕ). IsFilledLevel t x (slice_index_or levels' x void)) (sym same_terrain)
      ((subst (λ (hs : List ℤ). IsLabelling (block_of m.side hs sinks') levels' labels') (sym same_heights) other).level x on))

-- ---- spills over the same ground

module _ (n : ℕ) (heights heights' : List ℤ) (levels : List ℤ) (labels : List ℕ) (sinks : List ℕ) (same : (z : ℕ) → is_solid (block_of n heights sinks) z ≡ is_solid (block_of n heights' sinks) z) where
  meets_there : (a b : ℕ) (l : ℤ) → Meets n heights levels labels a b l → Meets n heights' levels labels a b l
  meets_there a b l m = let q = m.points in record { points = (q.0, q.1, (sym (same_link n heights heights' sinks same q.0 q.1) ∙ q.2.0, q.2.1)) }

  meets_back : (a b : ℕ) (l : ℤ) → Meets n heights' levels labels a b l → Meets n heights levels labels a b l
  meets_back a b l m = let q = m.points in record { points = (q.0, q.1, (same_link n heights heights' sinks same q.0 q.1 ∙ q.2.0, q.2.1)) }

  same_spills : (spills : List Spill) → AreSpills n heights levels labels spills → AreSpills n heights' levels labels spills
  same_spills spills are = record {
    each = λ p has. let was = are.each p has in record { in_order = was.in_order; meets = meets_there p.a p.b p.level was.meets; least = λ level m. was.least level (meets_back p.a p.b level m) };
    all = λ a b level less m. are.all a b level less (meets_back a b level m);
    once = are.once;
  }

-- ---- the summary of a tile with such a cached labelling

no_rim : (was level height : ℤ) → was <ℤ level → level ≡ height → height ≡ was → ⊥
no_rim was level height less at had = absurd (omega (arith, ints))

still_flooded : (m : Mosaic) (c : Corner) (labelling : TileLabelling) → IsTileLabelling m c labelling → IsStill labelling → IsFlooded m c (labelled_of labelling)
still_flooded m c (Kept labelled) is still = is
still_flooded m c (Flooded flooded) is still = is.still still

module _ (m new : Mosaic) (p : Point) (differ : DifferAt m new p) (was to : ℤ) (before : height_of m p ≡ At was) (after : height_of new p ≡ At to) (b : Summary) (n e : ℕ) (same : n ≡ m.side) (index : IsIndexOf n b.corner p e)
    (labelled : LabelledGround) (flooded : IsFlooded m b.corner labelled) (below : IsBelowLevel labelled.levels e was to) (is : IsSummaryOf m b) where
  small : e < m.side * m.side
  small = (is_at m b.corner n p e same index).below

  here : slice_index_or is.heights e void ≡ was
  here = is.block.heights.values e small ∙ (ap (λ (q : Point). metres (height_of m q)) (is_at m b.corner n p e same index).point ∙ ap metres before)

  solid_here : IsTrue (is_solid (block_of m.side is.heights is.sinks) e)
  solid_here = solid_if m.side is.heights e small (not_void (slice_index_or is.heights e void) (λ none. height_not_void m p was before (sym here ∙ none)))

  held_block : IsBlockOf m b.corner (block_of m.side flooded.valid.0.heights flooded.valid.0.sinks)
  held_block = subst (λ k. IsBlockOf m b.corner (block_of k flooded.valid.0.heights flooded.valid.0.sinks)) flooded.valid.1.0.side flooded.valid.1.0

  held_labelling : IsLabelling (block_of m.side flooded.valid.0.heights flooded.valid.0.sinks) labelled.levels labelled.labels
  held_labelling = subst (λ k. IsLabelling (block_of k flooded.valid.0.heights flooded.valid.0.sinks) labelled.levels labelled.labels) flooded.valid.1.0.side flooded.valid.1.1

  level_here : slice_index_or is.levels e void ≡ slice_index_or labelled.levels e void
  level_here = level_same m b.corner is.heights flooded.valid.0.heights is.sinks flooded.valid.0.sinks is.block held_block is.levels labelled.levels is.labels labelled.labels is.labelling held_labelling e solid_here

  abbrev summed : LabelledGround
  summed = record { side = m.side; levels = is.levels; labels = is.labels }

  abbrev is_summed : IsFlooded m b.corner summed
  is_summed = record { side = refl; valid = (block_of m.side is.heights is.sinks, (is.block, is.labelling)) }

  below_summed : IsBelowLevel is.levels e was to
  below_summed = record {
    inside = subst (λ k. e < k) (sym is.labelling.levels_whole) small;
    below = subst (λ v. was <ℤ v) (sym level_here) below.below;
    full = below.full;
    low = subst (λ v. to ≤ℤ v) (sym level_here) below.low;
  }

  differ_here : DifferAtIndex b.corner e m new
  differ_here = differ_at_index m new p differ b.corner n e same index

  now : (heights : List ℤ) × AreHeightsStill m new b.corner e differ_here summed is_summed heights
  now = heights_still m new b.corner e differ_here summed is_summed was to (set_at_index m new p differ b.corner n e was to same index (inr (before, λ _. after))) below_summed

  off_rim : (x : ℕ) → IsTrue (is_rim m.side x) → x ≢ e
  off_rim x rim at_e = no_rim was (slice_index_or is.levels e void) (slice_index_or is.heights e void) below_summed.below
      (rim_level m.side is.heights is.sinks is.levels is.labels is.labelling e small (subst (λ y. IsTrue (is_rim m.side y)) at_e rim)) here

  ground : (q : Point) → is_ground new q ≡ is_ground m q
  ground = ground_still m new p differ was to before after

  summary_below : IsSummaryOf new b
  summary_below =
      let back : m.side ≡ new.side = sym differ.around.same_side in
      record {
        heights = now.0;
        sinks = is.sinks;
        levels = is.levels;
        labels = is.labels;
        block = subst (λ k. IsBlockOf new b.corner (block_of k now.0 is.sinks)) back now.1.block;
        labelling = subst (λ k. IsLabelling (block_of k now.0 is.sinks) is.levels is.labels) back now.1.labelling;
        spills = subst (λ k. AreSpills k now.0 is.levels is.labels b.spills) back (same_spills m.side is.heights now.0 is.levels is.labels is.sinks now.1.ground b.spills is.spills);
        rim = record {
          whole = is.rim.whole ∙ ap (λ k. 4 * (k - 1)) back;
          height = subst (λ k. (x : ℕ) → x < k * k → IsTrue (is_rim k x) → (rim_point b (rim_number k x)).height ≡ slice_index_or now.0 x void) back
              (λ x within rim. is.rim.height x within rim ∙ sym (now.1.others x (off_rim x rim)));
          label = subst (λ k. (x : ℕ) → x < k * k → IsTrue (is_rim k x) → (rim_point b (rim_number k x)).label ≡ slice_index is.labels x) back is.rim.label;
          outlet = subst (λ k. (x : ℕ) → x < k * k → IsTrue (is_rim k x) → IsTrue (is_ground new (point_of k b.corner x)) → (rim_point b (rim_number k x)).outlet ≡ is_outlet new (point_of k b.corner x)) back
              (λ x within rim on. is.rim.outlet x within rim (sym (ground (point_of m.side b.corner x)) ∙ on) ∙ sym (outlet_still m new p differ ground (point_of m.side b.corner x)));
        };
      }

-- the reduced summary, with fewer spills, stays too
pub summarizes_below : (m new : Mosaic) (p : Point) → DifferAt m new p → (n : ℕ) → n ≡ m.side → (c : Corner) (e : ℕ) → IsIndexOf n c p e → (was to : ℤ) → IsSetFrom m new p was to → (labelling : TileLabelling) → IsTileLabelling m c labelling → IsBelow labelling e was to
    → (b : Summary) → b.corner ≡ c → Summarizes m b → Summarizes new b
summarizes_below m new p differ n same c e index was to set_from labelling is below b corner sums = elim set_from [
  | inl still ↦ unchanged_summary m new p differ still b sums
  | inr set ↦ record {
    all = sums.all;
    of = summary_below m new p differ was to set.0 (set.1 below.1.full) (record b { spills = sums.all }) n e same (subst (λ (d : Corner). IsIndexOf n d p e) (sym corner) index) (labelled_of labelling)
        (subst (λ (d : Corner). IsFlooded m d (labelled_of labelling)) (sym corner) (still_flooded m c labelling is below.0)) below.1 sums.of;
    kept = sums.kept;
  }
]
