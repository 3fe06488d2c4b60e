use Rattle.std.proofs.Common.{arith, ◌≡◌, ℕ, ℤ, List, ◌++◌, take, drop, length, sym, subst, ap, ◌∙◌}
use Rattle.tile_flood.proofs.Prelude.{AreCarried, Block, Cell, IsLabelling, labels_of, levels_of}
use Rattle.std.proofs.lemmas.Grind.{common_steps}
use Rattle.std.proofs.Math.Seq.{take-append_seam}
use Rattle.tile_flood.specs.Views.{viewed_block}
use Rattle.tile_flood.proofs.flood.Flood.run.Goals as goal
use Rattle.tile_flood.proofs.flood.Flood.run.Goals.{After-of_flood}

-- a prefix as long as the list written is that list
all_written : {X : Type 0} (k : ℕ) (xs ys : List X) → k ≡ length xs → take k (xs ++ ys) ≡ xs
all_written k xs ys is = ap (λ m. take m (xs ++ ys)) is ∙ take-append_seam xs ys

-- statements about the flooded cells are true for the result
module _ (c : After-of_flood) where
  abbrev cells : List Cell
  cells = c.flood_cells.new.cells

  answered : (P : Block → List ℤ → List ℕ → Type 0) → P (viewed_block c.view-view.result) (levels_of cells) (labels_of cells) → P c.args.block.now c.of_flood.result.levels c.of_flood.result.labels
  answered P flooded =
      let b = c.args.block.now in
      let long : c.in_ok-cells.cells.len ≡ length cells = grind (arith, common_steps) in
      let back = all_written c.in_ok-cells.cells.len cells (drop (length cells) c.in_ok-cells.cells.items) long in
      let levels : c.in_ok-levels.levels.items ≡ levels_of cells = c.in_ok-levels.ensures ∙ ap levels_of (c.deref.ensures.value ∙ back) in
      let labels : c.in_ok-labels.labels.items ≡ labels_of cells = c.in_ok-labels.ensures ∙ ap labels_of (c.deref-2.ensures.value ∙ back) in
      rw c.of_flood.ensures
      (subst (λ ls. P b ls c.in_ok-labels.labels.items) (sym levels)
      (subst (λ bs. P b (levels_of cells) bs) (sym labels)
      (subst (λ k. P k (levels_of cells) (labels_of cells)) c.view-view.ensures flooded)))

pub returns-clause-labelling : goal.returns-clause-labelling
returns-clause-labelling c = answered (goal.at.returns-clause-labelling c).After-of_flood IsLabelling c.in_ok-flood_cells.ensures.0

pub returns-clause-carried : goal.returns-clause-carried
returns-clause-carried c = answered (goal.at.returns-clause-carried c).After-of_flood AreCarried c.in_ok-flood_cells.ensures.1
