use Rattle.std.proofs.Common.{rules, ◌<◌, ◌+◌, List, ap₂, sym, ◌∙◌, subst}
use Rattle.lattice.specs.Corners.{Corner}
use Rattle.std.specs.Prelude.{Contains, Some}
use Rattle.catalogue.specs.Tiles.{corners_of}
use Rattle.engine.specs.Engines.{IsCall}
use Rattle.engine.specs.declared.event.Event.TheVariants as ask
use Rattle.engine.specs.declared.event.Reply.TheVariants as reply
use Rattle.table_engine.specs.TableState.{stale_among, held_of, table}
use Rattle.table_engine.proofs.TableCalls.{called, stepped_to, old}
use Rattle.table_engine.proofs.table_engine.TableEngineEngine.step.Goals as goal

pub returns : goal.returns
returns c =
    let e = c.self.inside in
    let corner = c.in-Some.corner in
    let fresh = e.fresh.items in
    let some : Contains (stale_among (corners_of e.table) fresh) corner =
    subst (λ (l : List Corner). Contains l corner) (ap₂ stale_among (c.deref.ensures.value ∙ c.in_ok-corners.ensures.corners) c.deref-2.ensures.value) c.in-Some.ensures in
    let below : e.number < 18446744073709551615 = search rules in
    called e.table e.capacity fresh e.count e.number c.args.self.now c.self.view_is ask.Step (reply.Stepped (Some corner)) _
    (subst (λ (l : List Corner). IsCall table (old e.table e.capacity fresh e.count e.number) ask.Step (reply.Stepped (Some corner)) (held_of e.capacity e.table l e.count (e.number + 1)))
    (sym c.in_ok-push.ensures.pushed)
    (stepped_to e.table e.capacity fresh e.count e.number corner some below))
