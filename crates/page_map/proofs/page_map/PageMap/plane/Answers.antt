use Rattle.page_map.proofs.Prelude.{HasPlane, HasPlaneAt, IfNone, IfSome, PageMapValue, subst, sym}
use Rattle.page_map.proofs.AtEntry.{plane_found, plane_none}
use Rattle.page_map.proofs.Lookup.{located-from_tile, no_entry}
use Rattle.page_map.proofs.page_map.PageMap.plane.Goals as goal

pub returns-in_err-entry-clause-none : goal.returns-in_err-entry-clause-none
returns-in_err-entry-clause-none c =
    rw c.from_residual.ensures
    (subst (λ (v : PageMapValue). ¬ HasPlane v.staged c.args.c c.args.plane) c.self.view_is
    (λ (location, (t, (there, (at_corner, lies)))). no_entry c.args.c c.self.inside.entries.entries (sym c.in_err-entry.ensures.value) (located-from_tile c.args.c _ t there at_corner)))

pub returns-clause-found : goal.returns-clause-found
returns-clause-found c =
    subst (λ (v : PageMapValue). IfSome c.location.result (λ location. HasPlaneAt v.staged c.args.c c.args.plane location.now)) c.self.view_is
    (plane_found c.self.inside.format c.self.inside.entries.entries c.self.inside.free c.self.invariant c.args.c c.in_ok-entry.entry.now (sym c.in_ok-entry.ensures.value) c.args.plane c.location.result (rw c.plane.ensures at c.location.ensures))

pub returns-clause-none : goal.returns-clause-none
returns-clause-none c =
    subst (λ (v : PageMapValue). IfNone c.location.result (¬ HasPlane v.staged c.args.c c.args.plane)) c.self.view_is
    (plane_none c.self.inside.format c.self.inside.entries.entries c.self.inside.free c.self.invariant c.args.c c.in_ok-entry.entry.now (sym c.in_ok-entry.ensures.value) c.args.plane c.location.result (rw c.plane.ensures at c.location.ensures))
