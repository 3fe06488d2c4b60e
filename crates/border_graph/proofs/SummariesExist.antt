-- Each tile has a summary, and may have many.
use Rattle.border_graph.proofs.Prelude.{Bool, Corner, IsFilledLevel, IsMosaic, IsSummaryOf, IsTrue, List, Mosaic, OUT, RimPoint, Summary, ℕ, ℤ, [], ap, arith, bare_block, block_is_lawful, block_of, cases_Bool, end_of, false, height_of, inl, inr, is_corner, is_outlet, is_rim, length, level_of_outlet, lowest_height, metres, nowhere, point_of, refl, rim_number, rim_number_below, slice_index, slice_index_or, solid_below, subst, suc, sym, true, true≢false, void, ◌&&◌, ◌*◌, ◌-◌, ◌/◌, ◌<◌, ◌∙◌, ◌≡◌}
use Rattle.std.proofs.lemmas.Bool.{or_cases, or_right, and_parts}
use Rattle.lattice.specs.Block.{IsBlockOf, block_terrain, is_solid, is_exit, is_inner_outlet}
use Rattle.lattice.specs.SinkIndices.{sinks_in}
use Rattle.lattice.specs.RimPoints.{rim_index}
use Rattle.lattice.proofs.Existence.{level_exists}
use Rattle.lattice.proofs.RimNumbers.{rim_index_of_number}
use Rattle.lattice.proofs.SinkIndices.{block_from}
use Rattle.labelling.specs.Labelling.{IsLabelling, IsLabelAt, NO_LABEL}
use Rattle.labelling.proofs.Passages.{spills_of_ground}
use Rattle.labelling.proofs.Squares.{leads}
use Rattle.border_graph.proofs.Tabulated.{tabulated, length-tabulated, at_number, among_numbers}
use Rattle.border_graph.proofs.SpillsExist.{spills_exist}

module _ (n : ℕ) (heights : List ℤ) (sinks : List ℕ) (some : 0 < n) where
  record IsLabelled (e : ℕ) (level : ℤ) (label : ℕ) : Type 0 where
    filled : IsFilledLevel (block_terrain (block_of n heights sinks)) e level
    named : IsLabelAt (block_of n heights sinks) e level label

  record Cell : Type 0 where
    level : ℤ
    label : ℕ

  inner_cell : (e : ℕ) → IsTrue (is_solid (bare_block n heights) e) → IsTrue (is_inner_outlet (block_of n heights sinks) e) → (cell : Cell) × IsLabelled e cell.level cell.label
  inner_cell e solid inner =
      let exit : IsTrue (is_exit (block_of n heights sinks) e) = or_right (is_solid (bare_block n heights) e && is_rim n e) (is_inner_outlet (block_of n heights sinks) e) inner in (
        record { level = slice_index_or heights e void; label = OUT },
        record {
          filled = level_of_outlet (block_terrain (block_of n heights sinks)) (block_is_lawful (block_of n heights sinks)) e exit;
          named = record { way = ([], (solid, (refl, (exit, inr (inner, refl))))); inner_outlet = λ _. refl };
        },
      )

  outer_cell : (e : ℕ) → IsTrue (is_solid (bare_block n heights) e) → is_inner_outlet (block_of n heights sinks) e ≡ false → (cell : Cell) × IsLabelled e cell.level cell.label
  outer_cell e solid outer =
      let way = leads n heights sinks (suc (e / n)) e some (omega arith) solid in
      let found = level_exists (block_terrain (block_of n heights sinks)) (block_is_lawful (block_of n heights sinks)) (tabulated (λ i. i) 0 (n * n))
      (λ f x on yes. among_numbers (n * n) f x (solid_below n heights x on) yes) e way.0 way.1 in
      let rest = found.1.reached.0 in
      let out = found.1.reached.1.0 in
      let last = end_of (block_terrain (block_of n heights sinks)) e rest in
      elim (or_cases (is_solid (bare_block n heights) last && is_rim n last) (is_inner_outlet (block_of n heights sinks) last) out.outlet) [
        | inl rim ↦ (
          record { level = found.0; label = rim_number n last },
          record {
            filled = found.1;
            named = record {
              way = (rest, (out.path, (found.1.reached.1.1, (out.outlet, inl ((and_parts (is_solid (bare_block n heights) last) (is_rim n last) rim).1, refl)))));
              inner_outlet = λ inner. absurd (true≢false (sym inner ∙ outer));
            };
          },
        )
        | inr inner ↦ (
          record { level = found.0; label = OUT },
          record {
            filled = found.1;
            named = record { way = (rest, (out.path, (found.1.reached.1.1, (out.outlet, inr (inner, refl))))); inner_outlet = λ _. refl };
          },
        )
      ]

  labelled_cell : (e : ℕ) → IsTrue (is_solid (bare_block n heights) e) → (cell : Cell) × IsLabelled e cell.level cell.label
  labelled_cell e solid = elim (cases_Bool (is_inner_outlet (block_of n heights sinks) e)) [ inl inner ↦ inner_cell e solid inner | inr outer ↦ outer_cell e solid outer ]

  cell_by : (e : ℕ) (b : Bool) → is_solid (bare_block n heights) e ≡ b → Cell
  cell_by e true solid = (labelled_cell e solid).0
  cell_by e false gap = record { level = void; label = NO_LABEL }

  solid_cell : (e : ℕ) (b : Bool) (is : is_solid (bare_block n heights) e ≡ b) → b ≡ true → IsLabelled e (cell_by e b is).level (cell_by e b is).label
  unfolding cell_by
  solid_cell e true is on = (labelled_cell e is).1
  solid_cell e false is on = absurd (true≢false (sym on))

  void_cell : (e : ℕ) (b : Bool) (is : is_solid (bare_block n heights) e ≡ b) → b ≡ false → ((cell_by e b is).level ≡ void) × ((cell_by e b is).label ≡ NO_LABEL)
  unfolding cell_by
  void_cell e true is off = absurd (true≢false off)
  void_cell e false is off = (refl, refl)

  cell : ℕ → Cell
  cell e = cell_by e (is_solid (bare_block n heights) e) refl

  level_at : ℕ → ℤ
  level_at e = (cell e).level

  label_at : ℕ → ℕ
  label_at e = (cell e).label

  levels : List ℤ
  levels = tabulated level_at 0 (n * n)

  labels : List ℕ
  labels = tabulated label_at 0 (n * n)

  level_is : (e : ℕ) → e < n * n → slice_index_or levels e void ≡ (cell e).level
  unfolding levels level_at
  level_is e small = at_number level_at (n * n) e void small

  label_is : (e : ℕ) → e < n * n → slice_index labels e ≡ (cell e).label
  unfolding labels label_at
  label_is e small = at_number label_at (n * n) e 0 small

  levels_whole : length levels ≡ n * n
  unfolding levels
  levels_whole = length-tabulated level_at 0 (n * n)

  labels_whole : length labels ≡ n * n
  unfolding labels
  labels_whole = length-tabulated label_at 0 (n * n)

  -- each block has a valid labelling
  pub labelling_exists : (levels : List ℤ) × (labels : List ℕ) × IsLabelling (block_of n heights sinks) levels labels
  unfolding cell
  labelling_exists = (
    levels,
    labels,
    record {
      levels_whole = levels_whole;
      labels_whole = labels_whole;
      level = λ e solid. subst (λ v. IsFilledLevel (block_terrain (block_of n heights sinks)) e v) (sym (level_is e (solid_below n heights e solid)))
          (solid_cell e (is_solid (bare_block n heights) e) refl solid).filled;
      label = λ e solid. subst (λ v. IsLabelAt (block_of n heights sinks) e v (slice_index labels e)) (sym (level_is e (solid_below n heights e solid)))
          (subst (λ l. IsLabelAt (block_of n heights sinks) e (cell e).level l) (sym (label_is e (solid_below n heights e solid))) (solid_cell e (is_solid (bare_block n heights) e) refl solid).named);
      void_points = λ e small gap. let none = void_cell e (is_solid (bare_block n heights) e) refl gap in (level_is e small ∙ none.0, label_is e small ∙ none.1);
    },
  )

module _ (m : Mosaic) (is : IsMosaic m) (c : Corner) (corner : IsTrue (is_corner c)) where
  height_at : ℕ → ℤ
  height_at e = metres (height_of m (point_of m.side c e))

  heights : List ℤ
  heights = tabulated height_at 0 (m.side * m.side)

  block : IsBlockOf m c (block_of m.side heights (sinks_in m.side c m.sinks))
  unfolding heights height_at
  block = block_from m c heights is corner (record { whole = length-tabulated height_at 0 (m.side * m.side); values = λ e small. at_number height_at (m.side * m.side) e void small })

  module _ (labels : List ℕ) where
    rim_point_at : ℕ → RimPoint
    rim_point_at k = record {
      height = slice_index_or heights (rim_index m.side k) void;
      label = slice_index labels (rim_index m.side k);
      outlet = is_outlet m (point_of m.side c (rim_index m.side k));
    }

    rim : List RimPoint
    rim = tabulated rim_point_at 0 (4 * (m.side - 1))

    point_is : (e : ℕ) → e < m.side * m.side → IsTrue (is_rim m.side e) → slice_index_or rim (rim_number m.side e) nowhere
        ≡ record { height = slice_index_or heights e void; label = slice_index labels e; outlet = is_outlet m (point_of m.side c e) }
    unfolding rim rim_point_at
    point_is e small on =
        at_number rim_point_at (4 * (m.side - 1)) (rim_number m.side e) nowhere (rim_number_below m.side e is.side_low small)
        ∙ ap (λ (i : ℕ). record { height = slice_index_or heights i void; label = slice_index labels i; outlet = is_outlet m (point_of m.side c i) }) (rim_index_of_number m.side e is.side_low small on)

    rim_whole : length rim ≡ 4 * (m.side - 1)
    unfolding rim
    rim_whole = length-tabulated rim_point_at 0 (4 * (m.side - 1))

  -- each tile has a summary
  pub summary_exists : (b : Summary) × (IsSummaryOf m b × (b.corner ≡ c))
  summary_exists =
      let sinks = sinks_in m.side c m.sinks in
      let labelling = labelling_exists m.side heights sinks (omega arith) in
      let levels = labelling.0 in
      let labels = labelling.1 in
      let spills = spills_exist m.side levels labels in (
        record { corner = c; rim = rim labels; spills = spills.0 },
        (
          record {
            heights = heights;
            sinks = sinks;
            levels = levels;
            labels = labels;
            block = block;
            labelling = labelling.2;
            spills = spills_of_ground m.side heights sinks levels labels (lowest_height m is c heights block.heights) labelling.2 spills.0 spills.1;
            rim = record {
              whole = rim_whole labels;
              height = λ e small on. ap (λ (p : RimPoint). p.height) (point_is labels e small on);
              label = λ e small on. ap (λ (p : RimPoint). p.label) (point_is labels e small on);
              outlet = λ e small on _. ap (λ (p : RimPoint). p.outlet) (point_is labels e small on);
            };
          },
          refl,
        ),
      )
