use Rattle.flow_d8.proofs.Prelude.{SFits, of_z, rules, sym, to_z, to_z-of_z, w16, ◌∙◌}
use Rattle.flow_d8.proofs.Steps.SteepestStep.{taken_shown, left_shown}
use Rattle.flow_d8.proofs.slopes.better.Goals as goal

pub returns-then-slope-best : goal.returns-then-slope-best
returns-then-slope-best c t level p levelled shown here is =
    let fits : SFits w16 c.args.height = search rules in
    taken_shown t level p levelled c.args.direction (to_z w16 (of_z w16 c.at.result)) (to_z w16 (of_z w16 c.args.height)) (to_z-of_z w16 c.at.result (record { sfits = c.at.type_inv }) ∙ c.at.ensures ∙ shown) (here ∙ sym (to_z-of_z w16 c.args.height fits))
    c.slope_to-slope.result c.slope_to-slope.ensures.none c.slope_to-slope.ensures.some c.args.best.slope c.args.best.direction is c.if-slope-best.true

pub returns-else-slope-best : goal.returns-else-slope-best
returns-else-slope-best c t level p levelled shown here is =
    let fits : SFits w16 c.args.height = search rules in
    left_shown t level p levelled c.args.direction (to_z w16 (of_z w16 c.at.result)) (to_z w16 (of_z w16 c.args.height)) (to_z-of_z w16 c.at.result (record { sfits = c.at.type_inv }) ∙ c.at.ensures ∙ shown) (here ∙ sym (to_z-of_z w16 c.args.height fits))
    c.slope_to-slope.result c.slope_to-slope.ensures.none c.slope_to-slope.ensures.some c.args.best.slope c.args.best.direction is c.if-slope-best.false
