use Rattle.std.proofs.Common.{Option, sym, ◌∙◌, subst}
use Rattle.drainage.proofs.Prelude.{Dir, flow_direction, mosaic_is_grid, terrain}
use Rattle.water.specs.Drainage.{IsDirection}
use Rattle.water.proofs.Fitting.{ground_fits}
use Rattle.water.proofs.Following.{next_is}
use Rattle.drainage.proofs.flow_paths.next_point.Goals as goal

pub returns-in_default-clause-next : goal.returns-in_default-clause-next
returns-in_default-clause-next g c honest level filled =
    let e = c.in_ok-flow.ensures in
    let p = c.args.point in
    let t = terrain (g.S.Samples.mosaic c.args.samples.now) in
    subst (λ (o : Option Dir). IsDirection t level p o) (sym c.direction.ensures ∙ c.in_default.is) (flow_direction t level p c.in_ok-flow.flow (e.flow honest level filled) e.drains)

pub returns-clause-next : goal.returns-clause-next
returns-clause-next g c honest level filled =
    let a = c.args.samples.now in
    let e = c.in_ok-flow.ensures in
    let p = c.args.point in
    let m = g.S.Samples.mosaic a in
    let is = g.met.S.Samples.is_mosaic a (e.asked.reads.honest honest) in
    let drains = subst (λ (o : Option Dir). IsDirection (terrain m) level p o) (sym c.direction.ensures ∙ c.in-Some.is) (flow_direction (terrain m) level p c.in_ok-flow.flow (e.flow honest level filled) e.drains) in
    next_is (terrain m) (mosaic_is_grid m is) level (ground_fits m is) p c.in-Some.direction drains c.neighbour.result c.neighbour.ensures
