use Rattle.cow_tree.proofs.Prelude.{AreKept, AreWholeKept, Format, KeptLocations, PageMapValue, Some, ap, arith, corners_of_locations, format_of, index_pages_of, length, length-append, pages_due, pages_of, subst, ◌*◌, ◌++◌, ◌+◌, ◌∙◌, ◌≡◌, ◌≤◌}
use Rattle.cow_tree.specs.Kept.{planes_of_bytes}
use Rattle.cow_tree.proofs.Listed.Due.{kept_more}
use Rattle.cow_tree.proofs.Writes.KeptDrops.{other_corners}
use Rattle.cow_tree.proofs.Writes.KeptStaging.{locations_are, no_labels, no_levels, whole_planes, pages_low, pages_high, pages_once, pages_unreached, kept_staged, kept_stays}
use Rattle.cow_tree.proofs.Steps.{on_ok, on_ok_both}
use Rattle.cow_tree.proofs.Uncommitted.{wrote}
use Rattle.cow_tree.proofs.tree.Tree.stage_kept.Goals as goal
use Rattle.cow_tree.proofs.tree.Tree.stage_kept.Goals.{In-Some-plane}

-- the levels and labels, with the fresh pages for them
module _ (g : _) (c : In-Some-plane g) where
  abbrev old : PageMapValue
  old = c.args.self.now.page_map

  abbrev new : PageMapValue
  new = c.keep.new.self

  abbrev anew : AreKept c.args.c old new
  anew = c.in_ok-keep.ensures.kept

  abbrev kept : KeptLocations
  kept = record { levels = c.in-Some.levels_at.now; labels = c.in-Some-plane.labels_at.now }

  kept_is : anew.locations ≡ record { levels = c.in-Some.levels_at.now; labels = c.in-Some-plane.labels_at.now }
  kept_is = locations_are old new c.args.c c.in_ok-keep.ensures.rules c.rules.ensures anew c.requires.unstaged c.requires.present c.in-Some.levels_at.now c.in-Some-plane.labels_at.now c.in-Some.ensures.found c.in-Some-plane.ensures.found

  whole : AreWholeKept (format_of c.args.self.now.roots.root) (record { levels = c.in-Some.levels_at.now; labels = c.in-Some-plane.labels_at.now })
  whole = subst (λ (f : Format). AreWholeKept f kept) c.args.self.now.format (whole_planes old new c.args.c c.in_ok-keep.ensures.rules c.rules.ensures anew c.requires.unstaged c.requires.present kept kept_is)

  few : length (c.in-Some.levels_at.now.pages ++ c.in-Some-plane.labels_at.now.pages) ≡ 2 * pages_of c.args.self.now.roots.root.side
  few = omega (arith, length-append c.in-Some.levels_at.now.pages c.in-Some-plane.labels_at.now.pages, whole.levels.pages, whole.labels.pages)

pub write_kept-requires-clause-low : goal.write_kept-requires-clause-low
write_kept-requires-clause-low g c =
    let here = (goal.at.write_kept-requires-clause-low g c).In-Some-plane in
    pages_low c.args.self.now.page_map c.keep.new.self c.args.c c.in_ok-keep.ensures.rules c.rules.ensures c.in_ok-keep.ensures.kept c.requires.unstaged c.requires.present (kept g here) (kept_is g here)

pub write_kept-requires-clause-high : goal.write_kept-requires-clause-high
write_kept-requires-clause-high g c k d lt =
    let here = (goal.at.write_kept-requires-clause-high g c).In-Some-plane in
    let high = pages_high c.args.self.now.page_map c.keep.new.self c.args.c c.in_ok-keep.ensures.rules c.rules.ensures c.in_ok-keep.ensures.kept c.requires.unstaged c.requires.present (kept g here) (kept_is g here) k d lt in
    let same = ap (λ (x : PageMapValue). x.sectors) c.in_ok-keep.ensures.kept.changed in
    omega (arith, high, same, c.args.self.now.sectors)

pub write_kept-requires-clause-distinct : goal.write_kept-requires-clause-distinct
write_kept-requires-clause-distinct g c =
    let here = (goal.at.write_kept-requires-clause-distinct g c).In-Some-plane in
    pages_once c.args.self.now.page_map c.keep.new.self c.args.c c.in_ok-keep.ensures.rules c.rules.ensures c.in_ok-keep.ensures.kept c.requires.unstaged c.requires.present (kept g here) (kept_is g here)

pub unreachable-requires : goal.unreachable-requires
unreachable-requires g c =
    no_levels c.args.self.now.page_map c.keep.new.self c.args.c c.in_ok-keep.ensures.rules c.rules.ensures c.in_ok-keep.ensures.kept c.requires.unstaged c.requires.present c.in_default.ensures.none

pub unreachable-requires-in_default-plane : goal.unreachable-requires-in_default-plane
unreachable-requires-in_default-plane g c =
    no_labels c.args.self.now.page_map c.keep.new.self c.args.c c.in_ok-keep.ensures.rules c.rules.ensures c.in_ok-keep.ensures.kept c.requires.unstaged c.requires.present c.in_default-plane.ensures.none

pub returns-clause-writes : goal.returns-clause-writes
returns-clause-writes g c = omega (arith, c.write_kept.ensures.writes.few, few g (goal.at.returns-clause-writes g c).In-Some-plane)

pub returns-clause-begun : goal.returns-clause-begun
returns-clause-begun g c =
    let most = few g (goal.at.returns-clause-begun g c).In-Some-plane in
    on_ok c.write_kept.result (λ counted. omega (arith, counted, most)) c.write_kept.ensures.writes.writes

pub returns-clause-corners : goal.returns-clause-corners
returns-clause-corners g c =
    let kept = c.in_ok-keep.ensures.kept in
    ap (λ (x : PageMapValue). corners_of_locations x.staged) kept.changed ∙ other_corners c.args.c (Some kept.locations) c.args.self.now.page_map.staged

pub returns-clause-due : goal.returns-clause-due
returns-clause-due g c =
    let new = c.keep.new.self in
    let old = c.args.self.now in
    subst (λ (f : Format). length (pages_due new) ≤ length (pages_due old.page_map) + 2 * (1 + index_pages_of f)) old.format
    (kept_more old.page_map new c.args.c c.in_ok-keep.ensures.kept c.rules.ensures c.requires.present)

pub returns-clause-staged : goal.returns-clause-staged
returns-clause-staged g c honest s is =
    let here = (goal.at.returns-clause-staged g c).In-Some-plane in
    let before = c.args.self.now in
    let a = g.D.Disk.seen before.roots.disk in
    let b = g.D.Disk.seen c.write_kept.new.roots.disk in
    on_ok_both c.write_kept.result
    (λ others wrote. kept_staged (old g here) (new g here) c.args.c c.in_ok-keep.ensures.rules c.rules.ensures (anew g here) c.requires.unstaged c.requires.present (kept g here) (kept_is g here) a b others
    (planes_of_bytes before.roots.root.side c.args.levels.now c.args.labels.now) wrote)
    (c.write_kept.ensures.writes.others honest) (c.write_kept.ensures.written honest before.roots.root.side (whole g here).levels.pages (whole g here).labels.pages)

pub returns-clause-uncommitted : goal.returns-clause-uncommitted
returns-clause-uncommitted g c =
    let here = (goal.at.returns-clause-uncommitted g c).In-Some-plane in
    let d = g.D.Disk in
    let before = c.args.self.now in
    wrote d before _ c.write_kept.result _ c.write_kept.ensures.writes
    (pages_unreached (old g here) (new g here) c.args.c c.in_ok-keep.ensures.rules c.rules.ensures (anew g here) c.requires.unstaged c.requires.present (kept g here) (kept_is g here))
    (ap (λ (x : PageMapValue). x.committed) (anew g here).changed)
    (λ honest s is.
    on_ok c.write_kept.result
    (λ others. kept_stays (old g here) (new g here) c.args.c c.in_ok-keep.ensures.rules c.rules.ensures (anew g here) c.requires.unstaged c.requires.present (kept g here) (kept_is g here)
    (d.seen before.roots.disk) (d.seen c.write_kept.new.roots.disk) others (format_of before.roots.root) is.staged)
    (c.write_kept.ensures.writes.others honest))
