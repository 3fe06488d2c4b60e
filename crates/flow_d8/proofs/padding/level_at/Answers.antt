use Rattle.flow_d8.proofs.Prelude.{[], ap, arith, filled_of, get_or, get_or_past, length, of_z, sym, to_z, to_z-of_z, w16, ◌∙◌, ◌≤◌}
use Rattle.lattice.specs.Mosaic.{void}
use Rattle.flow_d8.specs.Filled.{number_of}
use Rattle.flow_d8.proofs.Mosaics.LevelsOf.{level_by, any_sinks}
use Rattle.flow_d8.proofs.padding.level_at.Goals as goal

pub returns-then-number-levels : goal.returns-then-number-levels
returns-then-number-levels c sinks =
    let t = c.args.tiles.now in
    let levels = c.args.levels.now in
    level_by (filled_of t levels sinks) (any_sinks t levels [] sinks c.requires) c.args.point (to_z w16 (of_z w16 c.level.result)) (to_z-of_z w16 c.level.result (record { sfits = c.level.type_inv }) ∙ c.level.ensures ∙ ap (λ k. get_or levels k void) c.number-number.ensures.value)

pub returns-else-number-levels : goal.returns-else-number-levels
returns-else-number-levels c sinks =
    let t = c.args.tiles.now in
    let levels = c.args.levels.now in
    let past : length levels ≤ number_of t.side t.corners c.args.point = omega (arith, c.if-number-levels.false, c.number-number.ensures.value) in
    level_by (filled_of t levels sinks) (any_sinks t levels [] sinks c.requires) c.args.point void (sym (get_or_past levels (number_of t.side t.corners c.args.point) void past))
