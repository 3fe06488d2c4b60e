use Rattle.cow_tree.proofs.Prelude.{All, Contains, Format, Image, IsAdded, List, PageMapValue, ℕ, ap, format_of, index_pages_of, length, map, pages_due, pages_of_bytes, reached, subst, sym, times, ◌+◌, ◌<◌, ◌∙◌, ◌≡◌, ◌≤◌}
use Rattle.cow_tree.proofs.Listed.Adding.{added_heights, pages_low, pages_high, pages_unreached, pages_once, plane_staged, plane_stays}
use Rattle.cow_tree.proofs.Listed.Due.{added_corners, added_due, added_here}
use Rattle.cow_tree.proofs.Steps.{on_ok, on_ok_both, ok_where}
use Rattle.cow_tree.proofs.Uncommitted.{wrote}
use Rattle.cow_tree.proofs.tree.Tree.stage_plane.Goals as goal
use Rattle.cow_tree.proofs.tree.Tree.stage_plane.Goals.{After-pages}

-- the pages of the new tile's heights
module _ (g : _) (c : After-pages g) where
  abbrev old : PageMapValue
  old = c.args.self.now.page_map

  abbrev new : PageMapValue
  new = c.tile_for_writing.new.self

  added : IsAdded c.args.c old new
  added = c.in_ok-tile_for_writing.ensures.added

  low : All (λ p. 4 ≤ p) c.pages.result.now
  low = subst (All (λ p. 4 ≤ p)) (sym c.pages.ensures) (pages_low old new c.args.c c.in_ok-tile_for_writing.ensures.rules added c.in-Some.plane.now c.in-Some.ensures.found)

  high : All (λ p. p < g.D.Disk.size c.args.self.now.roots.disk) c.pages.result.now
  high =
      subst (λ (n : ℕ). All (λ p. p < n) c.pages.result.now) (ap (λ (x : PageMapValue). x.sectors) added.changed ∙ c.args.self.now.sectors)
      (subst (All (λ p. p < new.sectors)) (sym c.pages.ensures) (pages_high old new c.args.c c.in_ok-tile_for_writing.ensures.rules added c.in-Some.plane.now c.in-Some.ensures.found))

  once : (p : ℕ) → times p c.pages.result.now ≤ 1
  once = subst (λ (pages : List ℕ). (p : ℕ) → times p pages ≤ 1) (sym c.pages.ensures) (pages_once old new c.args.c c.in_ok-tile_for_writing.ensures.rules added c.in-Some.plane.now c.in-Some.ensures.found)

  unreached : All (λ p. ¬ Contains (reached old.committed) p) c.pages.result.now
  unreached = subst (All (λ p. ¬ Contains (reached old.committed) p)) (sym c.pages.ensures) (pages_unreached old new c.args.c c.in_ok-tile_for_writing.ensures.rules added c.in-Some.plane.now c.in-Some.ensures.found)

pub write_plane-requires-clause-low : goal.write_plane-requires-clause-low
write_plane-requires-clause-low g c = low g (goal.at.write_plane-requires-clause-low g c).After-pages

pub write_plane-requires-clause-high : goal.write_plane-requires-clause-high
write_plane-requires-clause-high g c = high g (goal.at.write_plane-requires-clause-high g c).After-pages

pub write_plane-requires-clause-distinct : goal.write_plane-requires-clause-distinct
write_plane-requires-clause-distinct g c = once g (goal.at.write_plane-requires-clause-distinct g c).After-pages

pub unreachable-requires : goal.unreachable-requires
unreachable-requires g c =
    c.in-None.ensures.none (added_heights c.args.self.now.page_map c.tile_for_writing.new.self c.args.c c.in_ok-tile_for_writing.ensures.rules c.in_ok-tile_for_writing.ensures.added)

-- the contents of the disk once these pages are written
abbrev SameElsewhere : List ℕ → Image → Image → Type 0
SameElsewhere pages a b = (p : ℕ) → 4 ≤ p → times p pages ≡ 0 → a p ≡ b p

pub returns-clause-staged : goal.returns-clause-staged
returns-clause-staged g c honest s is =
    let here = (goal.at.returns-clause-staged g c).After-pages in
    let before = c.args.self.now in
    let a = g.D.Disk.seen before.roots.disk in
    let b = g.D.Disk.seen c.write_plane.new.roots.disk in
    on_ok_both c.write_plane.result
    (λ wrote others. plane_staged (old g here) (new g here) c.args.c c.in_ok-tile_for_writing.ensures.rules (added g here) c.in-Some.plane.now c.in-Some.ensures.found a b c.args.bytes.now
    (subst (λ (pages : List ℕ). SameElsewhere pages a b) c.pages.ensures others) before.roots.root.side (ap (λ (f : Format). f.side) before.format)
    (subst (λ (pages : List ℕ). map b pages ≡ pages_of_bytes (length pages) c.args.bytes.now) c.pages.ensures wrote))
    (c.write_plane.ensures.written honest) (c.write_plane.ensures.writes.others honest)

pub returns-clause-uncommitted : goal.returns-clause-uncommitted
returns-clause-uncommitted g c =
    let here = (goal.at.returns-clause-uncommitted g c).After-pages in
    let d = g.D.Disk in
    let before = c.args.self.now in
    let a = d.seen before.roots.disk in
    let b = d.seen c.write_plane.new.roots.disk in
    wrote d before _ c.write_plane.result c.pages.result.now c.write_plane.ensures.writes (unreached g here) (ap (λ (x : PageMapValue). x.committed) (added g here).changed)
    (λ honest s is.
    on_ok c.write_plane.result
    (λ others. plane_stays (old g here) (new g here) c.args.c c.in_ok-tile_for_writing.ensures.rules (added g here) c.in-Some.plane.now c.in-Some.ensures.found a b c.args.bytes.now
    (subst (λ (pages : List ℕ). SameElsewhere pages a b) c.pages.ensures others) (format_of before.roots.root) is.staged)
    (c.write_plane.ensures.writes.others honest))

pub returns-clause-corners : goal.returns-clause-corners
returns-clause-corners g c = ok_where c.write_plane.result (added_corners c.args.self.now.page_map c.tile_for_writing.new.self c.args.c c.in_ok-tile_for_writing.ensures.added)

pub returns-clause-due : goal.returns-clause-due
returns-clause-due g c =
    let old = c.args.self.now in
    let new = c.tile_for_writing.new.self in
    ok_where c.write_plane.result
    (subst (λ (f : Format). length (pages_due new) ≡ length (pages_due old.page_map) + (1 + index_pages_of f)) old.format
    (added_due old.page_map new c.args.c c.in_ok-tile_for_writing.ensures.added))

pub returns-clause-has_staged : goal.returns-clause-has_staged
returns-clause-has_staged g c = ok_where c.write_plane.result (added_here c.args.self.now.page_map c.tile_for_writing.new.self c.args.c c.in_ok-tile_for_writing.ensures.added)
