use Rattle.cow_tree.proofs.Prelude.{Contains, Err, List, ListingPage, Ok, Refusal, Result, WritesListing, [], ap, due_among, ended_with, subst, sym, tile_listing, written_before, ◌∙◌, ◌≡◌}
use Rattle.cow_tree.specs.declared.listings.Listings.{Listings}
use Rattle.cow_tree.proofs.Listed.Due.{located_tile}
use Rattle.cow_tree.proofs.Listed.ListingPages.{none_due, none_listed}
use Rattle.cow_tree.proofs.Writes.TileWrites.{first_refused, second_refused, tile_written}
use Rattle.cow_tree.proofs.listings.write_tile_listings.Goals as goal

pub write_listing-requires-2-clause-not_failed : goal.write_listing-requires-2-clause-not_failed
write_listing-requires-2-clause-not_failed g c =
    let t = located_tile c.args.corner c.args.page_map.now.staged c.requires.present in
    (c.in_ok-write_listing.ensures.listed t.0 t.1.0 t.1.1).pages.works

pub write_listing-requires-2-clause-sectors : goal.write_listing-requires-2-clause-sectors
write_listing-requires-2-clause-sectors g c =
    let t = located_tile c.args.corner c.args.page_map.now.staged c.requires.present in
    c.requires.sectors ∙ sym (c.in_ok-write_listing.ensures.listed t.0 t.1.0 t.1.1).pages.size

pub write_listing-requires-3-clause-not_failed : goal.write_listing-requires-3-clause-not_failed
write_listing-requires-3-clause-not_failed g c =
    let t = located_tile c.args.corner c.args.page_map.now.staged c.requires.present in
    (c.in_ok-write_listing-2.ensures.listed t.0 t.1.0 t.1.1).pages.works

pub write_listing-requires-3-clause-sectors : goal.write_listing-requires-3-clause-sectors
write_listing-requires-3-clause-sectors g c =
    let t = located_tile c.args.corner c.args.page_map.now.staged c.requires.present in
    c.requires.sectors ∙ sym (c.in_ok-write_listing.ensures.listed t.0 t.1.0 t.1.1).pages.size ∙ sym (c.in_ok-write_listing-2.ensures.listed t.0 t.1.0 t.1.1).pages.size

pub returns-then-is_listed-clause-listed : goal.returns-then-is_listed-clause-listed
returns-then-is_listed-clause-listed g c t among at =
    let page_map = c.args.page_map.now in
    let yes = c.if-is_listed.true in
    let unchanged : Contains page_map.committed t = c.requires.changed t among (λ had. c.is_listed.ensures.unchanged yes (subst (Contains c.args.changed.now) at had)) in
    let none : due_among (written_before c.args.which page_map) (tile_listing page_map.format t) ≡ [] =
    ap (λ (w : Listings). due_among (written_before w page_map) (tile_listing page_map.format t)) (c.is_listed.ensures.due yes) ∙ none_due page_map.format page_map.committed t unchanged in
    subst (λ (l : List ListingPage). WritesListing {T = Unit {0}} g.D.Disk l c.args.roots.now c.args.roots.now (Ok tt)) (sym none) (none_listed g.D.Disk g.met.D.Disk.only_now c.args.roots.now c.requires.not_failed)

pub returns-in_err-write_listing-clause-listed : goal.returns-in_err-write_listing-clause-listed
returns-in_err-write_listing-clause-listed g c t among at =
    let page_map = c.args.page_map.now in
    let why : Refusal = c.in_err-write_listing.field-0.0 in
    let ended : c.from_residual.result ≡ Err why = ended_with c.from_residual.result why c.from_residual.ensures.1 in
    subst (λ (r : Result (Unit {0}) Refusal). WritesListing g.D.Disk (due_among (written_before c.args.which page_map) (tile_listing page_map.format t)) c.args.roots.now c.write_listing.new.roots r) (sym ended)
    (first_refused g.D.Disk page_map c.rules.ensures (written_before c.args.which page_map) t among c.args.roots.now c.write_listing.new.roots why (c.in_err-write_listing.ensures.listed t among at))

pub returns-in_err-write_listing-2-clause-listed : goal.returns-in_err-write_listing-2-clause-listed
returns-in_err-write_listing-2-clause-listed g c t among at =
    let page_map = c.args.page_map.now in
    let why : Refusal = c.in_err-write_listing-2.field-0.0 in
    let ended : c.from_residual-in_err-write_listing-2.result ≡ Err why = ended_with c.from_residual-in_err-write_listing-2.result why c.from_residual-in_err-write_listing-2.ensures.1 in
    subst (λ (r : Result (Unit {0}) Refusal). WritesListing g.D.Disk (due_among (written_before c.args.which page_map) (tile_listing page_map.format t)) c.args.roots.now c.write_listing-2.new.roots r) (sym ended)
    (second_refused g.D.Disk page_map c.rules.ensures (written_before c.args.which page_map) t among c.args.roots.now c.write_listing.new.roots c.write_listing-2.new.roots why (c.in_ok-write_listing.ensures.listed t among at) (c.in_err-write_listing-2.ensures.listed t among at))

pub returns-clause-listed : goal.returns-clause-listed
returns-clause-listed g c t among at =
    let page_map = c.args.page_map.now in
    tile_written g.D.Disk page_map c.rules.ensures (written_before c.args.which page_map) t among c.args.roots.now c.write_listing.new.roots c.write_listing-2.new.roots c.write_listing-3.new.roots c.write_listing-3.result
    (c.in_ok-write_listing.ensures.listed t among at) (c.in_ok-write_listing-2.ensures.listed t among at) (c.write_listing-3.ensures.listed t among at)

pub returns-clause-cached : goal.returns-clause-cached
returns-clause-cached g c honest agrees =
    let t = located_tile c.args.corner c.args.page_map.now.staged c.requires.present in
    let second = (c.write_listing-3.ensures.listed t.0 t.1.0 t.1.1).pages.honest honest in
    let first = (c.in_ok-write_listing-2.ensures.listed t.0 t.1.0 t.1.1).pages.honest second in
    c.write_listing-3.ensures.cached honest (c.in_ok-write_listing-2.ensures.cached second (c.in_ok-write_listing.ensures.cached first agrees))
