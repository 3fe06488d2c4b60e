use Rattle.stored_mosaic.proofs.Prelude.{Bool, Corner, Err, HasPage, HasStaged, Heights, IsEdited, IsUnderway, List, MakesPages, Mosaic, Ok, PageMapValue, Refusal, Result, RootValue, Settles, StoredTile, ℕ, ap, arith, disk_of, has_begun, if◌then◌else◌, index_page_by, index_pages_due, length, ok_where, on_ok, pages_due, records_due, refused_as, root_of, staged_in, subst, sym, tile_at_corner, uncommitted_on, with_page, writes_begun, ◌+◌, ◌∙◌, ◌≡◌, ◌≤◌}
use Rattle.stored_mosaic.proofs.Edits.EditingWrites.{page_written}
use Rattle.stored_mosaic.proofs.KeptPlanes.StagingSteps.{one_page_due, only_device, page_read}
use Rattle.stored_mosaic.proofs.Calls.Underway.{page_left, page_of, page_staged}
use Rattle.stored_mosaic.proofs.staging_pages.stage_page.Goals as goal
use Rattle.stored_mosaic.proofs.staging_pages.stage_page.Goals.{After-edit_page}

pub read_page-requires-clause-held : goal.read_page-requires-clause-held
read_page-requires-clause-held g c = tile_at_corner c.args.corner c.args.tree.now.page_map.staged c.requires.present

-- this page and no other
abbrev Here : Corner → ℕ → Corner → ℕ → Type 0
Here corner index c i = (c ≡ corner) × (i ≡ index)

pub returns-in_err-read_page-clause-makes : goal.returns-in_err-read_page-clause-makes
returns-in_err-read_page-clause-makes g c =
    let mid = c.read_page.new.self in
    let r : Refusal = c.in_err-read_page.field-0.0 in
    let err : Result (Unit {0}) Refusal = Err r in
    subst (λ (result : Result (Unit {0}) Refusal).
    MakesPages g.D.Disk c.args.side (g.E.PageEdit.made c.args.edit.now) (g.E.PageEdit.fits c.args.edit.now) (Here c.args.corner c.args.index) 1 0 c.args.tree.now mid result)
    (sym (refused_as c.from_residual.result r c.from_residual.ensures.1))
    (record { pages = page_read g.D.Disk 1 0 c.args.tree.now mid err c.in_err-read_page.ensures.reads; set = λ honest s m at fit under. tt })

-- the page after the edit, on an honest disk
edits : (g : _) (c : After-edit_page g) → g.D.Disk.honest (disk_of c.read_page.new.self) → (m : Mosaic) → g.E.PageEdit.fits c.args.edit.now m
    → IsUnderway c.args.side (g.E.PageEdit.made c.args.edit.now m) m (staged_in g.D.Disk c.args.tree.now)
    → HasPage (staged_in g.D.Disk c.args.tree.now) c.args.corner Heights c.args.index c.read_page.new.into
    × IsEdited c.args.side (g.E.PageEdit.made c.args.edit.now m) c.args.corner c.args.index c.read_page.new.into c.edit_page.new.page
edits g c honest m fit under =
    let page = c.read_page.new.into in
    let has : HasPage (staged_in g.D.Disk c.args.tree.now) c.args.corner Heights c.args.index page = c.in_ok-read_page.ensures.page honest in
    (has, c.edit_page.ensures.edited m under.valid under.side fit (page_of c.args.side (g.E.PageEdit.made c.args.edit.now m) m (staged_in g.D.Disk c.args.tree.now) under c.args.corner c.args.index page has))

pub returns-then-not-edit_page-clause-makes : goal.returns-then-not-edit_page-clause-makes
returns-then-not-edit_page-clause-makes g c =
    let d = g.D.Disk in
    let old = c.args.tree.now in
    let n : ℕ = c.args.side in
    let page = c.read_page.new.into in
    let reads = c.in_ok-read_page.ensures.reads in
    let ok : Result (Unit {0}) Refusal = Ok tt in
    record {
      pages = page_read d 1 0 old c.read_page.new.self ok reads;
      set = λ honest s m at fit under.
          let edit = g.E.PageEdit.made c.args.edit.now m in
          let so = edits g (goal.at.returns-then-not-edit_page-clause-makes g c).After-edit_page honest m fit under in
          subst (λ (ts : List StoredTile). Settles n edit m (Here c.args.corner c.args.index) (staged_in d old) ts) (sym (reads.keeps.staged honest))
          (page_left n edit m (staged_in d old) under c.args.corner c.args.index page so.0
          (subst (λ (p : List ℕ). IsEdited n edit c.args.corner c.args.index page p) (c.edit_page.ensures.left c.if-not-edit_page.true) so.1));
    }

-- the tile's heights are prepared
prepared : (g : _) (c : After-edit_page g) → HasStaged c.read_page.new.self c.args.corner
prepared g c =
    let ok : Result (Unit {0}) Refusal = Ok tt in
    (page_read g.D.Disk 0 0 c.args.tree.now c.read_page.new.self ok c.in_ok-read_page.ensures.reads).still_staged c.args.corner c.requires.prepared

pub returns-clause-makes : goal.returns-clause-makes
returns-clause-makes g c =
    let at_edit = (goal.at.returns-clause-makes g c).After-edit_page in
    let d = g.D.Disk in
    let old = c.args.tree.now in
    let mid = c.read_page.new.self in
    let new = c.stage.new.self in
    let n : ℕ = c.args.side in
    let page = c.read_page.new.into in
    let made = c.edit_page.new.page in
    let is = c.stage.ensures in
    let read = c.in_ok-read_page.ensures.reads in
    let ok : Result (Unit {0}) Refusal = Ok tt in
    let first = page_read d 0 0 old mid ok read in
    let now : ℕ = d.writes (disk_of new) in
    let written : now ≤ writes_begun d old + 1 =
    page_written (has_begun old) (d.writes (disk_of old)) now
    (subst (λ (b : Bool). now ≤ d.writes (disk_of old) + (if b then 1 else 2)) read.keeps.begun
    (subst (λ (k : ℕ). now ≤ k + (if has_begun mid then 1 else 2)) read.keeps.writes is.writes)) in
    let due : records_due new ≤ records_due old + (0 + index_pages_due (root_of old).version 1) =
    subst (λ (k : ℕ). records_due new ≤ records_due old + (0 + k)) (one_page_due (root_of old).version)
    (subst (λ (r : RootValue). records_due new ≤ records_due old + (0 + index_page_by r.version)) read.keeps.root
    (subst (λ (page_map : PageMapValue). records_due new ≤ length (pages_due page_map) + (0 + index_page_by (root_of mid).version)) read.keeps.page_map
    (let more = is.due_same (prepared g at_edit) in omega (arith, more)))) in
    record {
      pages = record {
        uncommitted = uncommitted_on d old mid new tt c.stage.result first.uncommitted is.uncommitted;
        corners = is.corners ∙ first.corners;
        sinks = is.sinks ∙ first.sinks;
        still_staged = λ e was. is.still_staged e (first.still_staged e was);
        writes = written;
        begun = on_ok c.stage.result (λ begun. subst (λ (b : Bool). now + (if b then 0 else 1) ≤ writes_begun d old + 1) (sym begun) (omega (arith, written))) is.begun;
        due = ok_where c.stage.result due;
      };
      set = λ honest s m at fit under.
          let edit = g.E.PageEdit.made c.args.edit.now m in
          let before = is.uncommitted.returns.honest honest in
          let so = edits g at_edit before m fit under in
          on_ok c.stage.result
          (λ staged.
          subst (λ (ts : List StoredTile). Settles n edit m (Here c.args.corner c.args.index) (staged_in d old) ts)
          (sym (staged ∙ ap (with_page c.args.corner c.args.index made) (read.keeps.staged before)))
          (page_staged n edit m (staged_in d old) under (c.edit_page.ensures.once m) c.args.corner c.args.index page made so.0 so.1))
          (is.staged honest s (read.keeps.at before s at read.not_failed));
    }

pub returns-clause-refused : goal.returns-clause-refused
returns-clause-refused g c = only_device c.stage.result c.stage.ensures.refused (c.stage.ensures.sure (prepared g (goal.at.returns-clause-refused g c).After-edit_page))
