use Rattle.cow_tree.proofs.Prelude.{All, AreStaged, Contains, HasMoved, Image, IsAt, IsCurrent, IsReady, KeepsAll, LeavesOnly, List, PageMapValue, RootValue, SamePages, Stands, Stored, StoresAt, TileLocation, ℕ, [], ap, arith, data_of, due_among, entry_of, format_of, index_pages_of, inl, is_unreached, length, length-filter-le, listings, map, numbers_of, reached, ready_current, refl, rules, stored_in, subst, sym, tiles_listing, times, upgraded, weaker, ◌*◌, ◌+◌, ◌<◌, ◌^◌, ◌∙◌, ◌≡◌, ◌≤◌, ◌⊎◌}
use Rattle.cow_tree.specs.Upgrades.{upgraded_store}
use Rattle.cow_tree.proofs.Cached.{same_agrees}
use Rattle.cow_tree.proofs.Commits.{lands, same_tiles, few_in_all, few_in_part, none_before, nothing_staged, committing}
use Rattle.cow_tree.proofs.Clean.{is_clean}
use Rattle.cow_tree.proofs.Listed.Counting.{all_of_fewer}
use Rattle.cow_tree.proofs.Listed.ListingPages.{due_are, few_due, tiles_numbers}
use Rattle.cow_tree.proofs.Steps.{stands, stores_along}
use Rattle.cow_tree.proofs.UpgradeLands.{corners_stay, few_listed, three_more, upgraded_root}
use Rattle.cow_tree.proofs.tree.Tree.upgrade.Goals as goal
use Rattle.cow_tree.proofs.tree.Tree.upgrade.Goals.{After-write_listings, After-commit}

-- no entry is looked for
pub staged_entries-entries-requires-clause-committed : goal.staged_entries-entries-requires-clause-committed
staged_entries-entries-requires-clause-committed g c e (k, below, here) = absurd (omega (arith, below))

-- what lists the planes is not too much
module _ (g : _) (c : After-write_listings g) where
  abbrev new : PageMapValue
  new = c.in_ok-page_map.page_map

  few : length (numbers_of (due_among [] (tiles_listing new.format new.staged))) ≤ 3 * (1 + index_pages_of (upgraded (format_of c.args.self.now.roots.root))) * length c.args.self.now.roots.root.entries
  few =
      let most = few_listed c.args.self.now.page_map new c.in_ok-page_map.ensures.rules c.in_ok-page_map.ensures.upgraded c.args.self.now.roots.root
      (c.in_ok-page_map.ensures.upgraded.format ∙ ap upgraded c.args.self.now.format) c.args.self.now.entries in
      let same = ap (λ (l : List ℕ). length l) (due_are [] new.format new.staged) in
      omega (arith, most, same, length-filter-le (is_unreached []) (listings new.staged))

  -- No committed tile reaches the new records and index pages.
  fresh : All (λ q. ¬ Contains (reached c.args.self.now.page_map.committed) q) (numbers_of (due_among [] (tiles_listing new.format new.staged)))
  fresh =
      let up = c.in_ok-page_map.ensures.upgraded in
      all_of_fewer (λ q. ¬ Contains (reached c.args.self.now.page_map.committed) q) (numbers_of (due_among [] (tiles_listing new.format new.staged))) (listings new.committed)
      (λ q. (let same = ap (times q) (tiles_numbers new.format new.staged) in let clean = ap (λ (tiles : List TileLocation). times q (listings tiles)) up.clean in omega (arith, few_due [] (tiles_listing new.format new.staged) q, same, clean)))
      (λ k d lt. (up.fresh k d lt).unreached)

pub returns-in_err-write_listings-clause-writes : goal.returns-in_err-write_listings-clause-writes
returns-in_err-write_listings-clause-writes g c =
    three_more _ _ _ _ (few_in_part _ _ _ _ c.write_listings.ensures.listed.pages.few (few g (goal.at.returns-in_err-write_listings-clause-writes g c).After-write_listings))

pub returns-in_err-write_listings-clause-any_moment : goal.returns-in_err-write_listings-clause-any_moment
returns-in_err-write_listings-clause-any_moment g c honest s is =
    let d = g.D.Disk in
    let old = c.args.self.now in
    let size = d.size old.roots.disk in
    weaker d old.roots.disk c.write_listings.new.roots.disk (StoresAt size old.roots.root old.page_map.committed s) (λ image. Stands size image s ⊎ Stands size image (upgraded_store s))
    (λ image stores. inl (stands size old.roots.root old.page_map.committed s image stores)) (c.write_listings.ensures.listed.pages.any_moment honest is.ready old.page_map.committed s (fresh g (goal.at.returns-in_err-write_listings-clause-any_moment g c).After-write_listings) is.each)

-- The records and index pages of the planes are written.
module _ (g : _) (c : After-commit g) (honest : g.D.Disk.honest c.commit.new.self.disk) (s : Stored) (is : IsAt g.D.Disk c.args.self.now s) where
  abbrev size : ℕ
  size = g.D.Disk.size c.args.self.now.roots.disk

  abbrev seen : Image
  seen = g.D.Disk.seen c.args.self.now.roots.disk

  abbrev between : Image
  between = g.D.Disk.seen c.write_listings.new.roots.disk

  abbrev page_map : PageMapValue
  page_map = c.in_ok-page_map.page_map

  abbrev tiles : List TileLocation
  tiles = page_map.staged

  mid_honest : g.D.Disk.honest c.write_listings.new.roots.disk
  mid_honest = c.commit.ensures.honest honest

  stored : s ≡ stored_in seen c.args.self.now.roots.root c.args.self.now.page_map.committed
  stored = (is.each seen (g.met.D.Disk.seen_may c.args.self.now.roots.disk (c.write_listings.ensures.listed.pages.honest mid_honest))).stands

  is_next : c.upgraded-root.result ≡ upgraded_root c.args.self.now.roots.root (map entry_of tiles)
  is_next = c.upgraded-root.ensures ∙ ap (upgraded_root c.current.result.now) c.staged_entries-entries.ensures.value ∙ ap (λ (r : RootValue). upgraded_root r (map entry_of tiles)) c.current.ensures

  stays : map data_of page_map.staged ≡ map data_of c.args.self.now.page_map.committed
  stays = ap (map data_of) c.in_ok-page_map.ensures.upgraded.clean ∙ c.in_ok-page_map.ensures.upgraded.stays

  on_disk : c.in_ok-page_map.page_map.sectors ≡ size
  on_disk = c.in_ok-page_map.ensures.upgraded.sectors ∙ c.args.self.now.sectors

  small : c.in_ok-page_map.page_map.sectors < 2 ^ 32
  small = subst (λ (n : ℕ). n < 2 ^ 32) (sym c.in_ok-page_map.ensures.upgraded.sectors) c.args.self.now.fits

  by_two : c.in_ok-page_map.page_map.format ≡ upgraded (format_of c.args.self.now.roots.root)
  by_two = c.in_ok-page_map.ensures.upgraded.format ∙ ap upgraded c.args.self.now.format

  land : (image : Image) → HasMoved c.upgraded-root.result between image → StoresAt size c.upgraded-root.result tiles (upgraded_store s) image
  land =
      let old = c.args.self.now in
      subst (λ (r : RootValue). (image : Image) → HasMoved r between image → StoresAt size r tiles (upgraded_store s) image) (sym is_next)
      (lands page_map c.in_ok-page_map.ensures.rules [] seen between (none_before page_map.format page_map.staged seen) (c.in_ok-write_listings.ensures.listed.written mid_honest) (c.in_ok-write_listings.ensures.listed.pages.others mid_honest)
      size (upgraded_root old.roots.root (map entry_of tiles)) old.page_map.committed (upgraded_store s) on_disk small by_two refl stays (ap upgraded_store stored))

  ready : IsReady g.D.Disk c.write_listings.new.roots
  ready = c.in_ok-write_listings.ensures.listed.pages.ready mid_honest is.ready

  leaves : All (λ q. ¬ Contains (reached c.args.self.now.page_map.committed) q) (numbers_of (due_among [] (tiles_listing page_map.format page_map.staged))) → LeavesOnly g.D.Disk c.args.self.now.roots.disk c.commit.new.self.disk (λ image. Stands size image s ⊎ Stands size image (upgraded_store s))
  leaves none =
      let d = g.D.Disk in
      let old = c.args.self.now in
      let mid = c.write_listings.new.roots in
      committing d old.roots.disk mid.disk c.commit.new.self.disk size old.roots.root c.upgraded-root.result old.page_map.committed tiles s (upgraded_store s)
      (c.write_listings.ensures.listed.pages.any_moment mid_honest is.ready old.page_map.committed s none is.each) land
      (subst (λ (r : RootValue). LeavesOnly d mid.disk c.commit.new.self.disk (λ image. KeepsAll r (d.may mid.disk) image ⊎ HasMoved c.upgraded-root.result between image))
      c.write_listings.ensures.listed.pages.root (c.commit.ensures.any_moment honest ready))

pub returns-in_err-commit-clause-writes : goal.returns-in_err-commit-clause-writes
returns-in_err-commit-clause-writes g c =
    three_more _ _ _ _ (few_in_all _ _ _ _ _ _ c.in_ok-write_listings.ensures.listed.pages.writes c.commit.ensures.writes (few g (goal.at.returns-in_err-commit-clause-writes g c).After-write_listings))

pub returns-in_err-commit-clause-any_moment : goal.returns-in_err-commit-clause-any_moment
returns-in_err-commit-clause-any_moment g c honest s is = leaves g (goal.at.returns-in_err-commit-clause-any_moment g c).After-commit honest s is (fresh g (goal.at.returns-in_err-commit-clause-any_moment g c).After-write_listings)

pub returns-clause-writes : goal.returns-clause-writes
returns-clause-writes g c =
    three_more _ _ _ _ (few_in_all _ _ _ _ _ _ c.in_ok-write_listings.ensures.listed.pages.writes c.commit.ensures.writes (few g (goal.at.returns-clause-writes g c).After-write_listings))

pub returns-clause-any_moment : goal.returns-clause-any_moment
returns-clause-any_moment g c honest s is = leaves g (goal.at.returns-clause-any_moment g c).After-commit honest s is (fresh g (goal.at.returns-clause-any_moment g c).After-write_listings)

pub returns-clause-corners : goal.returns-clause-corners
returns-clause-corners g c = corners_stay c.args.self.now.page_map c.in_ok-page_map.page_map c.in_ok-page_map.ensures.rules c.in_ok-page_map.ensures.upgraded c.requires.unstaged

pub returns-clause-clean : goal.returns-clause-clean
returns-clause-clean g c = is_clean _ c.in_ok-page_map.ensures.upgraded.clean

pub returns-clause-at : goal.returns-clause-at
returns-clause-at g c honest s is =
    let d = g.D.Disk in
    let after = (goal.at.returns-clause-at g c).After-commit in
    let page_map = c.in_ok-page_map.page_map in
    let mid = c.write_listings.new.roots in
    let new = c.commit.new.self in
    let root = c.upgraded-root.result in
    let n = d.size c.args.self.now.roots.disk in
    let ready_now = c.in_ok-commit.ensures.ready honest (ready g after honest s is) in
    let each : (image : Image) → d.may new.disk image → StoresAt n root page_map.staged (upgraded_store s) image = λ image may.
    let current : IsCurrent root image = subst (λ (r : RootValue). IsCurrent r image) c.in_ok-commit.ensures.root (ready_current d new image ready_now may) in
    let pages : SamePages (d.seen mid.disk) image = subst (λ (i : Image). SamePages (d.seen mid.disk) i) (sym (c.in_ok-commit.ensures.durable honest image may)) (c.in_ok-commit.ensures.pages honest) in
    land g after honest s is image (current, pages) in
    record {
      ready = ready_now;
      each = λ image may. stores_along n (d.size new.disk) root new.root page_map.staged page_map.committed (upgraded_store s) image (c.commit.ensures.size ∙ c.write_listings.ensures.listed.pages.size) c.in_ok-commit.ensures.root (sym c.in_ok-page_map.ensures.upgraded.clean) (each image may);
      staged = subst (λ (r : RootValue). AreStaged (format_of r) page_map.committed page_map.staged (d.seen new.disk)) (sym c.in_ok-commit.ensures.root)
          (subst (λ (ts : List TileLocation). AreStaged (format_of root) ts page_map.staged (d.seen new.disk)) c.in_ok-page_map.ensures.upgraded.clean
          (nothing_staged n root page_map.staged (upgraded_store s) (d.seen new.disk) (each (d.seen new.disk) (g.met.D.Disk.seen_may new.disk honest))));
    }

pub returns-clause-staged : goal.returns-clause-staged
returns-clause-staged g c honest s is =
    let d = g.D.Disk in
    let after = (goal.at.returns-clause-staged g c).After-commit in
    let old = c.args.self.now in
    let page_map = c.in_ok-page_map.page_map in
    let a = d.seen old.roots.disk in
    sym (ap (λ (x : Stored). x.tiles) (stored g after honest s is)
    ∙ same_tiles page_map c.in_ok-page_map.ensures.rules [] a (d.seen c.write_listings.new.roots.disk) (none_before page_map.format page_map.staged a)
    (c.in_ok-write_listings.ensures.listed.written (mid_honest g after honest s is)) (c.in_ok-write_listings.ensures.listed.pages.others (mid_honest g after honest s is)) (d.seen c.commit.new.self.disk) (c.in_ok-commit.ensures.pages honest) old.page_map.committed (stays g after honest s is))

pub invariant_of-self-2 : goal.invariant_of-self-2
invariant_of-self-2 g c =
    let seen = g.D.Disk.seen in
    let mid = c.write_listings.new.roots.disk in
    let had = c.args.self.now in
    record {
      sectors = search rules;
      fits = search rules;
      format = subst (λ (r : RootValue). c.in_ok-page_map.page_map.format ≡ format_of r) (sym c.in_ok-commit.ensures.root) (search rules);
      entries = subst (λ (r : RootValue). map entry_of c.in_ok-page_map.page_map.committed ≡ r.entries) (sym c.in_ok-commit.ensures.root) (search rules);
      declared = subst (λ (r : RootValue). had.sinks.side ≡ r.side) (sym c.in_ok-commit.ensures.root) (search rules);
      cached = λ honest _.
          let mid_honest = c.commit.ensures.honest honest in
          same_agrees c.write_listings.new.cache (seen mid) (seen c.commit.new.self.disk) (c.in_ok-commit.ensures.pages honest)
          (c.in_ok-write_listings.ensures.cached mid_honest (had.cached (c.in_ok-write_listings.ensures.listed.pages.honest mid_honest) c.requires.not_failed));
    }
