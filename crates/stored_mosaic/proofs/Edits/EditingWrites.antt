-- The number of an edit's writes.
use Rattle.stored_mosaic.proofs.Prelude.{Bool, Burn, Command, Corner, Edit, Err, Ghosts, IfSome, IsEditOf, List, NewHeight, Ok, OnErr, OnOk, One, Point, Refusal, Result, Sink, StagesFew, StagesPages, Tree, Two, Unsink, Version, Wall, ℕ, ap, arith, corners_of, disk_of, false, has_begun, if◌then◌else◌, index_pages_due, length, length-map, named_by, number_of, page_writes, pages_with, points_of, records_due, root_of, subst, sym, true, ◌*◌, ◌+◌, ◌∙◌, ◌≡◌, ◌≤◌}
use Rattle.edits.specs.declared.edit.Edit.TheVariants as edit
use Rattle.engine.specs.Told.{WritesFew, writes_a_point}
use Rattle.engine.specs.declared.event.Event.TheVariants as ask

-- the writes for one more page, which may begin a commit
pub page_written : (begun : Bool) (before now : ℕ) → now ≤ before + (if begun then 1 else 2) → now ≤ before + (if begun then 0 else 1) + 1
page_written true before now few = omega (arith, few)
page_written false before now few = omega (arith, few)

-- the writes of a commit after these pages: the records, the root and two gates
commit_written : (begun : Bool) (before now due : ℕ) → now ≤ before + due + (if begun then 2 else 3) → now ≤ before + (if begun then 0 else 1) + due + 2
commit_written true before now due few = omega (arith, few)
commit_written false before now due few = omega (arith, few)

-- the writes that begin a commit
begun_written : (begun : Bool) (before : ℕ) → before + (if begun then 0 else 1) ≤ before + 1
begun_written true before = omega arith
begun_written false before = omega arith

-- the writes of staging this many pages and of the commit
pages_written : {D T : Type 0} (g : Ghosts D) (version : Version) (p : ℕ) (old mid new : Tree D g) (staged : Result T Refusal) → (root_of old).version ≡ version → records_due old ≡ 0
    → StagesPages g p p old mid staged → OnOk staged (g.writes (disk_of new) ≤ g.writes (disk_of mid) + records_due mid + (if has_begun mid then 2 else 3))
    → OnErr staged (g.writes (disk_of new) ≡ g.writes (disk_of mid)) → g.writes (disk_of new) ≤ g.writes (disk_of old) + page_writes version p
pages_written g version p old mid new (Ok x) is none pages commits unwritten =
    let first = begun_written (has_begun old) (g.writes (disk_of old)) in
    let last = commit_written (has_begun mid) (g.writes (disk_of mid)) (g.writes (disk_of new)) (records_due mid) commits in
    let due : records_due mid ≤ records_due old + (p + index_pages_due version p) = subst (λ (v : Version). records_due mid ≤ records_due old + (p + index_pages_due v p)) is pages.due in
    by version due first last
  where
    by : (v : Version) → records_due mid ≤ records_due old + (p + index_pages_due v p) → g.writes (disk_of old) + (if has_begun old then 0 else 1) ≤ g.writes (disk_of old) + 1
        → g.writes (disk_of new) ≤ g.writes (disk_of mid) + (if has_begun mid then 0 else 1) + records_due mid + 2 → g.writes (disk_of new) ≤ g.writes (disk_of old) + page_writes v p
    by One due first last = omega (arith, due, first, last, none, pages.begun)
    by Two due first last = omega (arith, due, first, last, none, pages.begun)
pages_written g version p old mid new (Err r) is none pages commits unwritten =
    let first = begun_written (has_begun old) (g.writes (disk_of old)) in
    by version first
  where
    by : (v : Version) → g.writes (disk_of old) + (if has_begun old then 0 else 1) ≤ g.writes (disk_of old) + 1 → g.writes (disk_of new) ≤ g.writes (disk_of old) + page_writes v p
    by One first = omega (arith, first, unwritten, pages.writes)
    by Two first = omega (arith, first, unwritten, pages.writes)

-- A sink makes no writes when it is staged.
sink_written : {D T : Type 0} (g : Ghosts D) (old mid new : Tree D g) (staged : Result T Refusal) → records_due old ≡ 0 → disk_of mid ≡ disk_of old → records_due mid ≡ records_due old
    → OnOk staged (g.writes (disk_of new) ≤ g.writes (disk_of mid) + records_due mid + (if has_begun mid then 2 else 3)) → OnErr staged (g.writes (disk_of new) ≡ g.writes (disk_of mid))
    → g.writes (disk_of new) ≤ g.writes (disk_of old) + 3
sink_written g old mid new (Ok x) none disk due commits unwritten =
    let same = ap g.writes disk in
    let last = commit_written (has_begun mid) (g.writes (disk_of mid)) (g.writes (disk_of new)) (records_due mid) commits in
    let first = begun_written (has_begun mid) (g.writes (disk_of mid)) in
    omega (arith, same, last, first, due, none)
sink_written g old mid new (Err r) none disk due commits unwritten = let same = ap g.writes disk in omega (arith, same, unwritten)

-- There are as many heights as points.
as_many : (heights : List NewHeight) (points : List Point) → points_of heights ≡ points → length heights ≡ length points
as_many heights points same = sym (length-map heights (λ h. h.point)) ∙ ap length same

-- There are at most four pages a point.
by_points : (version : Version) (p q before now : ℕ) → p ≤ 4 * q → now ≤ before + page_writes version p → now ≤ before + (writes_a_point (number_of version) * q + 3)
by_points One p q before now few written = omega (arith, few, written)
by_points Two p q before now few written = omega (arith, few, written)

-- the writes if staging was refused, and if it wasn't
module _ {D T : Type 0} (g : Ghosts D) (version : Version) (side : ℕ) (old mid new : Tree D g) (staged : Result T Refusal) (is : (root_of old).version ≡ version) (none : records_due old ≡ 0)
    (commits : OnOk staged (g.writes (disk_of new) ≤ g.writes (disk_of mid) + records_due mid + (if has_begun mid then 2 else 3)))
    (unwritten : OnErr staged (g.writes (disk_of new) ≡ g.writes (disk_of mid))) where
  of_points : (heights : List NewHeight) (points : List Point) → points_of heights ≡ points
      → StagesPages g (pages_with (root_of old).side (corners_of old) (points_of heights)) (pages_with (root_of old).side (corners_of old) (points_of heights)) old mid staged
      → g.writes (disk_of new) ≤ g.writes (disk_of old) + page_writes version (pages_with (root_of old).side (corners_of old) points)
  of_points heights points form pages =
      subst (λ (l : List Point). g.writes (disk_of new) ≤ g.writes (disk_of old) + page_writes version (pages_with (root_of old).side (corners_of old) l)) form
      (pages_written g version (pages_with (root_of old).side (corners_of old) (points_of heights)) old mid new staged is none pages commits unwritten)

  -- A burn or a wall writes only pages with its points.
  pub named_written : (command : Command) (made : Edit) → IsEditOf command made → StagesFew g made old mid staged
      → IfSome (named_by command) (λ points. g.writes (disk_of new) ≤ g.writes (disk_of old) + page_writes version (pages_with (root_of old).side (corners_of old) points))
  named_written (Burn depth points) (edit.Heights heights) form few = of_points heights.items points.items form few.0
  named_written (Wall h points) (edit.Heights heights) form few = of_points heights.items points.items form few.0
  named_written (Burn depth points) _ form few = absurd form
  named_written (Wall h points) _ form few = absurd form
  named_written _ made form few = tt

  for_points : (heights : List NewHeight) (points : List Point) → points_of heights ≡ points
      → StagesPages g (pages_with (root_of old).side (corners_of old) (points_of heights)) (pages_with (root_of old).side (corners_of old) (points_of heights)) old mid staged
      → pages_with (root_of old).side (corners_of old) (points_of heights) ≤ 4 * length heights
      → g.writes (disk_of new) ≤ g.writes (disk_of old) + (writes_a_point (number_of version) * length points + 3)
  for_points heights points form pages few =
      let same = ap (λ (l : List Point). pages_with (root_of old).side (corners_of old) l) form in
      by_points version (pages_with (root_of old).side (corners_of old) points) (length points) (g.writes (disk_of old)) (g.writes (disk_of new)) (let many = as_many heights points form in omega (arith, few, many, same))
      (of_points heights points form pages)

  pub staged_written : (command : Command) (made : Edit) → IsEditOf command made → StagesFew g made old mid staged
      → WritesFew (number_of version) side (ask.Do command) (g.writes (disk_of old)) (g.writes (disk_of new))
  staged_written (Burn depth points) (edit.Heights heights) form few = for_points heights.items points.items form few.0 few.1
  staged_written (Wall h points) (edit.Heights heights) form few = for_points heights.items points.items form few.0 few.1
  staged_written (Sink p) (edit.Sink q h) form few = sink_written g old mid new staged none few.0.disk few.1 commits unwritten
  staged_written (Unsink p) (edit.Unsink q h) form few = sink_written g old mid new staged none few.0.disk few.1 commits unwritten
  staged_written (Burn depth points) _ form few = absurd form
  staged_written (Wall h points) _ form few = absurd form
  staged_written (Sink p) _ form few = absurd form
  staged_written (Unsink p) _ form few = absurd form
  staged_written _ made form few = tt

-- A call that writes nothing keeps the bound.
pub none_written : (version side : ℕ) (command : Command) (before now : ℕ) → now ≡ before → WritesFew version side (ask.Do command) before now
none_written version side (Burn depth points) before now same = omega (arith, same)
none_written version side (Wall h points) before now same = omega (arith, same)
none_written version side (Sink p) before now same = omega (arith, same)
none_written version side (Unsink p) before now same = omega (arith, same)
none_written version side _ before now same = tt
