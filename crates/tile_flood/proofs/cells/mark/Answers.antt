use Rattle.tile_flood.proofs.Prelude.{Cell, SFits, ap, levels_of, of_z, rules, set, to_z, to_z-of_z, w16, ◌∙◌}
use Rattle.tile_flood.proofs.InCells.{set_levels, set_labels}
use Rattle.tile_flood.proofs.cells.mark.Goals as goal

pub returns-clause-levels : goal.returns-clause-levels
returns-clause-levels c =
    let fits : SFits w16 c.args.level = search rules in
    let cell : Cell = record { level = to_z w16 (of_z w16 c.args.level); label = c.args.label } in
    set_levels c.args.cells.now c.args.e cell c.requires.labelled.0 c.requires.labelled.1 ∙ ap (set (levels_of c.args.cells.now) c.args.e) (to_z-of_z fits)

pub returns-clause-labels : goal.returns-clause-labels
returns-clause-labels c = set_labels c.args.cells.now c.args.e (record { level = to_z w16 (of_z w16 c.args.level); label = c.args.label }) c.requires.labelled.0 c.requires.labelled.1
