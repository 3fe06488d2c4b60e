use Rattle.page_map.proofs.Prelude.{HasPlaneAt, PageMapValue, is_unreached, listing_of, page_if, staged_tiles, subst, sym, ◌≡◌}
use Rattle.std.specs.Prelude.{Contains, slice_index}
use Rattle.page_map.proofs.Lookup.{located-from_tile, no_entry}
use Rattle.page_map.proofs.DueListings.{page_due}
use Rattle.page_map.proofs.page_map.PageMap.page_due.Goals as goal

pub returns : goal.returns
returns c location had below =
    let there : HasPlaneAt (staged_tiles c.self.inside.entries.entries) c.args.c c.args.plane location = subst (λ (v : PageMapValue). HasPlaneAt v.staged c.args.c c.args.plane location) (sym c.self.view_is) had in
    subst (λ (v : PageMapValue). c.page_due.result ≡ page_if (is_unreached v.committed (slice_index (listing_of location) c.args.i)) (slice_index (listing_of location) c.args.i)) c.self.view_is
    (page_due c.self.inside.format c.self.inside.entries.entries c.self.inside.free c.self.invariant c.args.c c.in_ok-entry.entry.now (sym c.in_ok-entry.ensures.value) c.args.plane c.args.i location there below
    c.page_due.result (rw c.plane.ensures at c.page_due.ensures.same) (rw c.plane.ensures at c.page_due.ensures.other))

pub returns-in_err-entry : goal.returns-in_err-entry
returns-in_err-entry c location (t, (there, (here, lies))) below =
    let entries = c.self.inside.entries.entries in
    absurd (no_entry c.args.c entries (sym c.in_err-entry.ensures.value) (located-from_tile c.args.c (staged_tiles entries) t (subst (λ (v : PageMapValue). Contains v.staged t) (sym c.self.view_is) there) here))
