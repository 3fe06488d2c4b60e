use Rattle.cow_tree.proofs.Prelude.{AreStaged, Format, HasMoved, Image, IsAt, IsCurrent, IsReady, KeepsAll, LeavesOnly, List, PageMapValue, Point, RootValue, SamePages, Stands, StoresAt, ℕ, ap, ap₂, arith, due_among, entry_of, format_of, inl, length, map, numbers_of, pages_due, ready_current, refl, rules, stored_in, subst, sym, tile_in, tiles_listing, weaker, ◌∙◌, ◌≡◌, ◌≤◌, ◌⊎◌}
use Rattle.cow_tree.specs.Stored.{Stored, next_commit}
use Rattle.cow_tree.proofs.Cached.{same_agrees}
use Rattle.cow_tree.proofs.Commits.{next_root, few_in_all, few_in_part, lands, same_tiles, nothing_staged, committing}
use Rattle.cow_tree.proofs.Clean.{is_clean}
use Rattle.cow_tree.proofs.Listed.EntryTiles.{committed_named}
use Rattle.cow_tree.proofs.Listed.ListingPages.{due_are, due_unreached}
use Rattle.cow_tree.proofs.Steps.{stands, stores_along}
use Rattle.cow_tree.proofs.tree.Tree.commit.Goals as goal
use Rattle.cow_tree.proofs.tree.Tree.commit.Goals.{After-write_listings, After-commit}

pub staged_entries-entries-requires-clause-committed : goal.staged_entries-entries-requires-clause-committed
staged_entries-entries-requires-clause-committed g c = committed_named c.args.self.now.page_map c.rules.ensures c.entries.result.now (c.args.self.now.entries ∙ sym (c.entries.ensures.value ∙ ap (λ (r : RootValue). r.entries) c.current-current.ensures))

-- what a commit writes besides its root
module _ (g : _) (c : After-write_listings g) where
  abbrev old : PageMapValue
  old = c.args.self.now.page_map

  count : length (numbers_of (due_among old.committed (tiles_listing old.format old.staged))) ≤ length (pages_due old)
  count = subst (λ (l : List ℕ). length (numbers_of (due_among old.committed (tiles_listing old.format old.staged))) ≤ length l) (due_are old.committed old.format old.staged) (omega arith)

pub returns-in_err-write_listings-clause-writes : goal.returns-in_err-write_listings-clause-writes
returns-in_err-write_listings-clause-writes g c =
    few_in_part _ _ _ _ c.write_listings.ensures.listed.pages.few (count g (goal.at.returns-in_err-write_listings-clause-writes g c).After-write_listings)

pub returns-in_err-commit-clause-writes : goal.returns-in_err-commit-clause-writes
returns-in_err-commit-clause-writes g c =
    few_in_all _ _ _ _ _ _ c.in_ok-write_listings.ensures.listed.pages.writes c.commit.ensures.writes (count g (goal.at.returns-in_err-commit-clause-writes g c).After-write_listings)

pub returns-clause-writes : goal.returns-clause-writes
returns-clause-writes g c =
    few_in_all _ _ _ _ _ _ c.in_ok-write_listings.ensures.listed.pages.writes c.commit.ensures.writes (count g (goal.at.returns-clause-writes g c).After-write_listings)

pub returns-in_err-write_listings-clause-any_moment : goal.returns-in_err-write_listings-clause-any_moment
returns-in_err-write_listings-clause-any_moment g c honest s is =
    let d = g.D.Disk in
    let old = c.args.self.now in
    let size = d.size old.roots.disk in
    let target : Stored = next_commit s old.sinks.points (map (tile_in (d.seen old.roots.disk)) old.page_map.staged) c.args.count in
    weaker d old.roots.disk c.write_listings.new.roots.disk (StoresAt size old.roots.root old.page_map.committed s) (λ image. Stands size image s ⊎ Stands size image target)
    (λ image stores. inl (stands size old.roots.root old.page_map.committed s image stores))
    (c.write_listings.ensures.listed.pages.any_moment honest is.ready old.page_map.committed s (due_unreached old.page_map.committed (tiles_listing old.page_map.format old.page_map.staged)) is.each)

-- The records and index pages of the planes are written.
module _ (g : _) (c : After-commit g) (honest : g.D.Disk.honest c.commit.new.self.disk) (s : Stored) (is : IsAt g.D.Disk c.args.self.now s) where
  abbrev size : ℕ
  size = g.D.Disk.size c.args.self.now.roots.disk

  abbrev seen : Image
  seen = g.D.Disk.seen c.args.self.now.roots.disk

  abbrev page_map : PageMapValue
  page_map = c.args.self.now.page_map

  mid_honest : g.D.Disk.honest c.write_listings.new.roots.disk
  mid_honest = c.commit.ensures.honest honest

  stored : s ≡ stored_in seen c.args.self.now.roots.root page_map.committed
  stored = (is.each seen (g.met.D.Disk.seen_may c.args.self.now.roots.disk (c.write_listings.ensures.listed.pages.honest mid_honest))).stands

  abbrev target : Stored
  target = next_commit s c.args.self.now.sinks.points (map (tile_in seen) page_map.staged) c.args.count

  is_next : c.with_sinks-root.result ≡ next_root c.args.self.now.roots.root c.args.count c.args.self.now.sinks.points (map entry_of page_map.staged)
  is_next =
      c.with_sinks-root.ensures
      ∙ ap₂ (λ (r : RootValue) (sinks : List Point). record r { sinks = sinks }) c.next.ensures c.points.ensures.value
      ∙ ap (next_root c.current-current.result.now c.args.count c.args.self.now.sinks.points) c.staged_entries-entries.ensures.value
      ∙ ap (λ (r : RootValue). next_root r c.args.count c.args.self.now.sinks.points (map entry_of page_map.staged)) c.current-current.ensures

  staged : AreStaged page_map.format page_map.committed page_map.staged seen
  staged = subst (λ (f : Format). AreStaged f page_map.committed page_map.staged seen) (sym c.args.self.now.format) is.staged

  land : (image : Image) → HasMoved c.with_sinks-root.result (g.D.Disk.seen c.write_listings.new.roots.disk) image → StoresAt size c.with_sinks-root.result page_map.staged target image
  land =
      subst (λ (r : RootValue). (image : Image) → HasMoved r (g.D.Disk.seen c.write_listings.new.roots.disk) image → StoresAt size r page_map.staged target image) (sym is_next)
      (lands page_map c.rules.ensures page_map.committed seen (g.D.Disk.seen c.write_listings.new.roots.disk) staged (c.in_ok-write_listings.ensures.listed.written mid_honest) (c.in_ok-write_listings.ensures.listed.pages.others mid_honest)
      size (next_root c.args.self.now.roots.root c.args.count c.args.self.now.sinks.points (map entry_of page_map.staged)) page_map.staged target c.args.self.now.sectors c.args.self.now.fits c.args.self.now.format refl refl
      (ap (λ (x : Stored). next_commit x c.args.self.now.sinks.points (map (tile_in seen) page_map.staged) c.args.count) stored))

  ready : IsReady g.D.Disk c.write_listings.new.roots
  ready = c.in_ok-write_listings.ensures.listed.pages.ready mid_honest is.ready

  leaves : LeavesOnly g.D.Disk c.args.self.now.roots.disk c.commit.new.self.disk (λ image. Stands size image s ⊎ Stands size image target)
  leaves =
      let d = g.D.Disk in
      let old = c.args.self.now in
      let mid = c.write_listings.new.roots in
      committing d old.roots.disk mid.disk c.commit.new.self.disk size old.roots.root c.with_sinks-root.result page_map.committed page_map.staged s target
      (c.write_listings.ensures.listed.pages.any_moment mid_honest is.ready page_map.committed s (due_unreached page_map.committed (tiles_listing page_map.format page_map.staged)) is.each) land
      (subst (λ (r : RootValue). LeavesOnly d mid.disk c.commit.new.self.disk (λ image. KeepsAll r (d.may mid.disk) image ⊎ HasMoved c.with_sinks-root.result (d.seen mid.disk) image))
      c.write_listings.ensures.listed.pages.root (c.commit.ensures.any_moment honest ready))

pub returns-in_err-commit-clause-any_moment : goal.returns-in_err-commit-clause-any_moment
returns-in_err-commit-clause-any_moment g c honest s is = leaves g (goal.at.returns-in_err-commit-clause-any_moment g c).After-commit honest s is

pub returns-clause-any_moment : goal.returns-clause-any_moment
returns-clause-any_moment g c honest s is = leaves g (goal.at.returns-clause-any_moment g c).After-commit honest s is

pub returns-clause-at : goal.returns-clause-at
returns-clause-at g c honest s is =
    let d = g.D.Disk in
    let after = (goal.at.returns-clause-at g c).After-commit in
    let page_map = c.args.self.now.page_map in
    let mid = c.write_listings.new.roots in
    let new = c.commit.new.self in
    let n = d.size c.args.self.now.roots.disk in
    let ready_now = c.in_ok-commit.ensures.ready honest (ready g after honest s is) in
    let each : (image : Image) → d.may new.disk image → StoresAt n c.with_sinks-root.result page_map.staged (target g after honest s is) image = λ image may.
    let current : IsCurrent c.with_sinks-root.result image = subst (λ (r : RootValue). IsCurrent r image) c.in_ok-commit.ensures.root (ready_current d new image ready_now may) in
    let pages : SamePages (d.seen mid.disk) image = subst (λ (i : Image). SamePages (d.seen mid.disk) i) (sym (c.in_ok-commit.ensures.durable honest image may)) (c.in_ok-commit.ensures.pages honest) in
    land g after honest s is image (current, pages) in
    let settled = c.commit-2.ensures.committed in
    record {
      ready = ready_now;
      each = λ image may. stores_along n (d.size new.disk) c.with_sinks-root.result new.root page_map.staged c.commit-2.new.self.committed (target g after honest s is) image
          (c.commit.ensures.size ∙ c.write_listings.ensures.listed.pages.size) c.in_ok-commit.ensures.root (ap (λ (x : PageMapValue). x.committed) settled) (each image may);
      staged = subst (λ (r : RootValue). AreStaged (format_of r) c.commit-2.new.self.committed c.commit-2.new.self.staged (d.seen new.disk)) (sym c.in_ok-commit.ensures.root)
          (subst (λ (x : PageMapValue). AreStaged (format_of c.with_sinks-root.result) x.committed x.staged (d.seen new.disk)) (sym settled)
          (nothing_staged n c.with_sinks-root.result page_map.staged (target g after honest s is) (d.seen new.disk) (each (d.seen new.disk) (g.met.D.Disk.seen_may new.disk honest))));
    }

pub returns-clause-staged : goal.returns-clause-staged
returns-clause-staged g c honest s is =
    let d = g.D.Disk in
    let after = (goal.at.returns-clause-staged g c).After-commit in
    let old = c.args.self.now in
    ap (λ (x : PageMapValue). map (tile_in (d.seen c.commit.new.self.disk)) x.staged) c.commit-2.ensures.committed
    ∙ sym (same_tiles old.page_map c.rules.ensures old.page_map.committed (d.seen old.roots.disk) (d.seen c.write_listings.new.roots.disk) (staged g after honest s is)
    (c.in_ok-write_listings.ensures.listed.written (mid_honest g after honest s is)) (c.in_ok-write_listings.ensures.listed.pages.others (mid_honest g after honest s is)) (d.seen c.commit.new.self.disk) (c.in_ok-commit.ensures.pages honest) old.page_map.staged refl)

pub returns-clause-clean : goal.returns-clause-clean
returns-clause-clean g c = is_clean _ (ap (λ (x : PageMapValue). x.staged) c.commit-2.ensures.committed ∙ sym (ap (λ (x : PageMapValue). x.committed) c.commit-2.ensures.committed))

pub invariant_of-self-2 : goal.invariant_of-self-2
invariant_of-self-2 g c =
    let seen = g.D.Disk.seen in
    let mid = c.write_listings.new.roots.disk in
    let had = c.args.self.now in
    record {
      sectors = search rules;
      fits = search rules;
      format = subst (λ (r : RootValue). c.commit-2.new.self.format ≡ format_of r) (sym c.in_ok-commit.ensures.root) (search rules);
      entries = subst (λ (r : RootValue). map entry_of c.commit-2.new.self.committed ≡ r.entries) (sym c.in_ok-commit.ensures.root) (search rules);
      declared = subst (λ (r : RootValue). had.sinks.side ≡ r.side) (sym c.in_ok-commit.ensures.root) (search rules);
      cached = λ honest _.
          let mid_honest = c.commit.ensures.honest honest in
          same_agrees c.write_listings.new.cache (seen mid) (seen c.commit.new.self.disk) (c.in_ok-commit.ensures.pages honest)
          (c.in_ok-write_listings.ensures.cached mid_honest (had.cached (c.in_ok-write_listings.ensures.listed.pages.honest mid_honest) c.requires.not_failed));
    }
