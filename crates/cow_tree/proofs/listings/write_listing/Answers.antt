use Rattle.cow_tree.proofs.Prelude.{Agrees, Err, Format, List, ListingPage, Ok, PageCache, Refusal, Result, Roots, WritesListing, ℕ, ap, arith, due_among, ended_with, length, listing_bytes, listing_of, plane_listing, subst, sym, written_before, ◌<◌, ◌∙◌, ◌≡◌, ◌≤◌}
use Rattle.cow_tree.proofs.Cached.{written_agrees}
use Rattle.cow_tree.proofs.Listed.ListingPages.{none_listed}
use Rattle.cow_tree.proofs.Writes.PageWrites.{one_written}
use Rattle.cow_tree.proofs.Writes.PlaneWrites.{IsPlaneAt, plane_there, plane_is, no_plane, all_due, number_is, page_low, page_high, page_more, page_passed, page_refused}
use Rattle.cow_tree.proofs.listings.write_listing.Goals as goal
use Rattle.cow_tree.proofs.listings.write_listing.Goals.{After-page_due, in-Some-page_due+in_ok-write, in_default-page_due}

-- the plane, and the page of this pass through the loop
module _ (g : _) (c : After-page_due g) where
  there : IsPlaneAt c.args.page_map.now c.in-Some.plane.now
  there = plane_there c.args.page_map.now c.rules.ensures c.args.corner c.args.name c.in-Some.plane.now c.in-Some.ensures.found

  within : c.loop-i.i < length (listing_of c.in-Some.plane.now)
  within = omega (arith, c.loop-i-test.true, c.listing_len-i-end.ensures)

pub returns-in_default-clause-listed : goal.returns-in_default-clause-listed
returns-in_default-clause-listed g c t among at =
    subst (λ (l : List ListingPage). WritesListing {T = Unit {0}} g.D.Disk (due_among (written_before c.args.which c.args.page_map.now) l) c.args.roots.now c.args.roots.now (Ok tt))
    (sym (no_plane c.args.page_map.now c.rules.ensures c.args.corner c.args.name c.in_default.ensures.none t among at))
    (none_listed g.D.Disk g.met.D.Disk.only_now c.args.roots.now c.requires.not_failed)

pub write-requires-clause-page : goal.write-requires-clause-page
write-requires-clause-page g c =
    let at = (goal.at.write-requires-clause-page g c).After-page_due in
    let page_map = c.args.page_map.now in
    let plane = c.in-Some.plane.now in
    subst (λ (p : ℕ). 4 ≤ p) (number_is page_map c.rules.ensures plane (there g at) (written_before c.args.which page_map) c.loop-i.i (within g at) c.in-Some-page_due.page (sym c.in-Some-page_due.ensures))
    (page_low page_map c.rules.ensures plane (there g at) (written_before c.args.which page_map) c.loop-i.i (within g at))

pub write-requires-clause-in_range : goal.write-requires-clause-in_range
write-requires-clause-in_range g c =
    let at = (goal.at.write-requires-clause-in_range g c).After-page_due in
    let page_map = c.args.page_map.now in
    let plane = c.in-Some.plane.now in
    let high = page_high page_map c.rules.ensures plane (there g at) (written_before c.args.which page_map) c.loop-i.i (within g at) in
    let same = number_is page_map c.rules.ensures plane (there g at) (written_before c.args.which page_map) c.loop-i.i (within g at) c.in-Some-page_due.page (sym c.in-Some-page_due.ensures) in
    omega (arith, high, same, c.requires.sectors, c.loop-i.invariant.listed.pages.size)

pub returns-in_err-write-clause-listed : goal.returns-in_err-write-clause-listed
returns-in_err-write-clause-listed g c t among at_corner =
    let at = (goal.at.returns-in_err-write-clause-listed g c).After-page_due in
    let d = g.D.Disk in
    let page_map = c.args.page_map.now in
    let plane = c.in-Some.plane.now in
    let before = written_before c.args.which page_map in
    let why : Refusal = c.in_err-write.field-0.0 in
    let refused = c.in_err-write.ensures in
    let ended : c.from_residual.result ≡ Err why = ended_with c.from_residual.result why c.from_residual.ensures.1 in
    let wrote = one_written d c.loop-i.roots c.write.new.self c.in-Some-page_due.page (Err why) refused.size refused.cause refused.refused refused.writes refused.begun refused.honest refused.root refused.not_failed refused.failed refused.ready refused.others refused.any_moment in
    subst (λ (l : List ListingPage). WritesListing d (due_among before l) c.args.roots.now c.write.new.self c.from_residual.result)
    (sym (plane_is page_map c.rules.ensures c.args.corner c.args.name plane c.in-Some.ensures.found t among at_corner))
    (subst (λ (r : Result (Unit {0}) Refusal). WritesListing d (due_among before (plane_listing page_map.format plane)) c.args.roots.now c.write.new.self r) (sym ended)
    (page_refused page_map c.rules.ensures plane (there g at) before c.loop-i.i (within g at) d c.args.roots.now c.loop-i.roots c.write.new.self c.in-Some-page_due.page why (sym c.in-Some-page_due.ensures) c.loop-i.invariant.listed wrote))

pub loop-i-preserved : goal.loop-i-preserved
loop-i-preserved g c =
    let at = (goal.at.loop-i-preserved g c).After-page_due in
    let d = g.D.Disk in
    let page_map = c.args.page_map.now in
    let plane = c.in-Some.plane.now in
    let before = written_before c.args.which page_map in
    record {
      listed = elim c.match-page_due.branch [
        | in-Some-page_due+in_ok-write w ↦ (
            let done = w.in_ok-write.ensures in
            let wrote = one_written d c.loop-i.roots w.write.new.self w.in-Some-page_due.page (Ok tt) done.size done.cause done.refused done.writes done.begun done.honest done.root done.not_failed done.failed done.ready done.others done.any_moment in
            rw w.roots-is
            (page_more page_map c.rules.ensures plane (there g at) before c.loop-i.i (within g at) d c.args.roots.now c.loop-i.roots w.write.new.self w.in-Some-page_due.page (Ok tt) (sym w.in-Some-page_due.ensures) c.loop-i.invariant.listed wrote
            (λ honest. done.written honest ∙ w.listing_page.ensures ∙ ap (λ (f : Format). listing_bytes f plane c.loop-i.i) w.format.ensures))
            )
        | in_default-page_due w ↦
            rw w.roots-is (page_passed page_map c.rules.ensures plane (there g at) before c.loop-i.i (within g at) d c.args.roots.now c.loop-i.roots (sym w.in_default-page_due.ensures) c.loop-i.invariant.listed)
      ];
      cached = elim c.match-page_due.branch [
        | in-Some-page_due+in_ok-write w ↦ λ honest agrees.
            let done = w.in_ok-write.ensures in
            let now_honest = subst (λ (r : Roots _ d). d.honest r.disk) w.roots-is honest in
            subst (λ (r : Roots _ d). Agrees c.match-page_due.cache (d.seen r.disk)) (sym w.roots-is)
            (subst (λ (x : PageCache). Agrees x (d.seen w.write.new.self.disk)) (sym w.cache-is)
            (written_agrees c.loop-i.cache w.forget.new.self (d.seen c.loop-i.roots.disk) (d.seen w.write.new.self.disk) w.in-Some-page_due.page w.forget.ensures.kept w.forget.ensures.gone (done.others now_honest)
            (c.loop-i.invariant.cached (done.honest now_honest) agrees)))
        | in_default-page_due w ↦ λ honest agrees.
            subst (λ (r : Roots _ d). Agrees c.match-page_due.cache (d.seen r.disk)) (sym w.roots-is)
            (subst (λ (x : PageCache). Agrees x (d.seen c.loop-i.roots.disk)) (sym w.cache-is)
            (c.loop-i.invariant.cached (subst (λ (r : Roots _ d). d.honest r.disk) w.roots-is honest) agrees))
      ];
    }

pub returns-clause-listed : goal.returns-clause-listed
returns-clause-listed g c t among at_corner =
    let page_map = c.args.page_map.now in
    let plane = c.in-Some.plane.now in
    let before = written_before c.args.which page_map in
    let is = plane_there page_map c.rules.ensures c.args.corner c.args.name plane c.in-Some.ensures.found in
    subst (λ (l : List ListingPage). WritesListing {T = Unit {0}} g.D.Disk (due_among before l) c.args.roots.now c.loop-i.roots (Ok tt))
    (sym (plane_is page_map c.rules.ensures c.args.corner c.args.name plane c.in-Some.ensures.found t among at_corner))
    (subst (λ (l : List ListingPage). WritesListing {T = Unit {0}} g.D.Disk l c.args.roots.now c.loop-i.roots (Ok tt)) (all_due page_map c.rules.ensures plane is before c.loop-i.i (omega (arith, c.loop-i-test.false, c.listing_len-i-end.ensures))) c.loop-i.invariant.listed)
