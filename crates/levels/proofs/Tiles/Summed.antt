-- How a tile's labelling gives its summary.
use Rattle.std.proofs.Common.{◌≡◌, ℕ, ◌+◌, ◌*◌, ◌-◌, ◌<◌, ℤ, inl, inr, false, true≢false, IsTrue, List, [], ◌∷◌, ◌++◌, sym, ◌∙◌, ap, subst, arith, length-append}
use Rattle.levels.proofs.Prelude.{AreRimPointsIn, AreSpills, Block, Corner, Decides-int_eq, HasOtherRimHeight, IsBlockOf, IsFlooded, IsLabelling, IsMosaic, IsRimPoint, IsRimPointIn, LabelledGround, Mosaic, RimPoint, Spill, bare_block, block_is_lawful, block_of, block_terrain, cases_Bool, cases_lt, get_or_append_left, height_of, int_eq, is_outlet, is_rim, is_solid, metres, point_of, rim_number, slice_index, slice_index_or, void}
use Rattle.std.proofs.Math.Seq.{get_or-append_seam}
use Rattle.lattice.proofs.Levels.{level_is_unique, level_of_outlet}
use Rattle.labelling.proofs.Passages.{spills_of_ground}
use Rattle.labelling.proofs.Heights.{rim_number_below, lowest_height}
use Rattle.labelling.proofs.Squares.{rim_is_exit, solid_if}
use Rattle.border_graph.specs.Joining.{nowhere, IsRimOf, IsSummaryOf}
use Rattle.lattice.proofs.RimNumbers.{one_rim_point}

module _ (m : Mosaic) (is : IsMosaic m) (c : Corner) (block : Block) (given : IsBlockOf m c block) where
  module _ (labels : List ℕ) (rim : List RimPoint) (points : AreRimPointsIn m c labels rim (4 * (m.side - 1))) where
    at_number : (e : ℕ) → e < m.side * m.side → IsRimPointIn m c labels (rim_number m.side e) (slice_index_or rim (rim_number m.side e) nowhere)
    at_number e small = points.each (rim_number m.side e) (rim_number_below m.side e is.side_low small)

    index_is : (e : ℕ) (small : e < m.side * m.side) → IsTrue (is_rim m.side e) → (at_number e small).index ≡ e
    index_is e small on =
        let p = at_number e small in
        one_rim_point m.side p.index e is.side_low p.number.small small p.number.rim on p.number.number

    pub rim_is : (spills : List Spill) → IsRimOf m c block.heights labels (record { corner = c; rim = rim; spills = spills })
    rim_is spills = record {
      whole = points.whole;
      height = λ e small on. (at_number e small).height ∙ (ap (λ i. metres (height_of m (point_of m.side c i))) (index_is e small on) ∙ sym (given.heights.values e small));
      label = λ e small on. (at_number e small).label ∙ ap (λ i. slice_index labels i) (index_is e small on);
      outlet = λ e small on _. (at_number e small).outlet ∙ ap (λ i. is_outlet m (point_of m.side c i)) (index_is e small on);
    }

    pub border_is : (levels : List ℤ) (spills : List Spill) → IsLabelling block levels labels → AreSpills block.side block.heights levels labels spills
        → IsSummaryOf m (record { corner = c; rim = rim; spills = spills })
    border_is levels spills labelling found = record {
      heights = block.heights;
      sinks = block.sinks;
      levels = levels;
      labels = labels;
      block = subst (λ n. IsBlockOf m c (record { side = n; heights = block.heights; sinks = block.sinks })) given.side given;
      labelling = subst (λ n. IsLabelling (record { side = n; heights = block.heights; sinks = block.sinks }) levels labels) given.side labelling;
      spills = subst (λ n. AreSpills n block.heights levels labels spills) given.side found;
      rim = rim_is spills;
    }

-- in a valid labelling the in-tile level of a rim point is its height in the block
pub rim_level : (n : ℕ) (heights : List ℤ) (sinks : List ℕ) (levels : List ℤ) (labels : List ℕ) → IsLabelling (block_of n heights sinks) levels labels → (e : ℕ) → e < n * n → IsTrue (is_rim n e)
    → slice_index_or levels e void ≡ slice_index_or heights e void
rim_level n heights sinks levels labels is e small on = elim (cases_Bool (is_solid (bare_block n heights) e)) [
  | inl solid ↦
      level_is_unique (block_terrain (block_of n heights sinks)) e (slice_index_or levels e void) (slice_index_or heights e void) (is.level e solid)
      (level_of_outlet (block_terrain (block_of n heights sinks)) (block_is_lawful (block_of n heights sinks)) e (rim_is_exit n heights sinks e solid on))
  | inr off ↦ (is.void_points e small off).0 ∙ sym (gap off)
]
  where
    gap : is_solid (bare_block n heights) e ≡ false → slice_index_or heights e void ≡ void
    gap off = elim (cases_Bool (int_eq (slice_index_or heights e void) void)) [
      | inl same ↦ (Decides-int_eq (slice_index_or heights e void) void).0 same
      | inr differs ↦ absurd (true≢false (sym (solid_if n heights e small differs) ∙ off))
    ]

-- the level of a rim point in a valid labelling is its height in the mosaic (void without one)
pub rim_height : (m : Mosaic) (c : Corner) (labelled : LabelledGround) → IsFlooded m c labelled → (k e : ℕ) → IsRimPoint m.side k e → slice_index_or labelled.levels e void ≡ metres (height_of m (point_of m.side c e))
rim_height m c labelled flooded k e on =
    let block = flooded.valid.0 in
    let given = flooded.valid.1.0 in
    let here : IsLabelling (block_of m.side block.heights block.sinks) labelled.levels labelled.labels =
    subst (λ n. IsLabelling (block_of n block.heights block.sinks) labelled.levels labelled.labels) given.side flooded.valid.1.1 in
    rim_level m.side block.heights block.sinks labelled.levels labelled.labels here e on.small on.rim ∙ given.heights.values e on.small

pub rim_holds : (m : Mosaic) (c : Corner) (labelled : LabelledGround) → IsFlooded m c labelled → HasOtherRimHeight m c labelled.levels → ⊥
rim_holds m c labelled flooded other = other.differs (rim_height m c labelled flooded other.number other.index other.rim)

-- the summary made of a labelling's rim points and spills is right
pub summary_is : (m : Mosaic) → IsMosaic m → (c : Corner) (labelled : LabelledGround) → IsFlooded m c labelled → (rim : List RimPoint) → AreRimPointsIn m c labelled.labels rim (4 * (m.side - 1))
    → (spills : List Spill) → AreSpills labelled.side labelled.levels labelled.levels labelled.labels spills → IsSummaryOf m (record { corner = c; rim = rim; spills = spills })
summary_is m is c labelled flooded rim points spills found =
    let block = flooded.valid.0 in
    let given = flooded.valid.1.0 in
    let labelling = flooded.valid.1.1 in
    border_is m is c block given labelled.labels rim points labelled.levels spills labelling
    (spills_of_ground block.side block.heights block.sinks labelled.levels labelled.labels (lowest_height m is c block.heights given.heights) labelling spills
    (subst (λ n. AreSpills n labelled.levels labelled.levels labelled.labels spills) (flooded.side ∙ sym given.side) found))

-- the summary's rim points so far, with one more
pub one_more_point : (s : Mosaic) (c : Corner) (labels : List ℕ) (rim : List RimPoint) (k : ℕ) (p : RimPoint)
    → IsRimPointIn s c labels k p → AreRimPointsIn s c labels rim k → AreRimPointsIn s c labels (rim ++ p ∷ []) (k + 1)
one_more_point s c labels rim k p here done = record {
  whole = length-append rim (p ∷ []) ∙ ap (λ n. n + 1) done.whole;
  each = λ i less. elim (cases_lt i k) [
    | inl earlier ↦ subst (IsRimPointIn s c labels i) (sym (get_or_append_left rim (p ∷ []) nowhere i (subst (λ n. i < n) (sym done.whole) earlier))) (done.each i earlier)
    | inr later ↦
        let last : k ≡ i = omega arith in
        subst (λ j. IsRimPointIn s c labels j (slice_index_or (rim ++ p ∷ []) j nowhere)) last
        (subst (IsRimPointIn s c labels k) (sym (ap (λ j. slice_index_or (rim ++ p ∷ []) j nowhere) (sym done.whole) ∙ get_or-append_seam rim p [] nowhere)) here)
  ];
}
