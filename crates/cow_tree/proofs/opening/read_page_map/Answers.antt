use Rattle.cow_tree.proofs.Prelude.{All, All-push, Corner, EntryValue, Err, Format, HasRecords, Image, KeepsPageRule, List, NoTileAt, Ok, TileLocation, ℕ, [], ap, entry_of, false, format_of, get_or, has_failed, inl, inr, length, map, subst, sym, take, ⊎_elim, ◌++◌, ◌+◌, ◌<◌, ◌∙◌, ◌∷◌, ◌≡◌}
use Rattle.page_map.specs.PageMaps.{PageMapValue, tile_at}
use Rattle.cow_tree.proofs.Listed.ReadTiles.{before_next, one_more, no_next_tile, no_rule}
use Rattle.cow_tree.proofs.ReadOnly.{refused_for, handed_on, read_on, read_as, not_device, works_ok, refused_again, read_well}
use Rattle.cow_tree.proofs.opening.read_page_map.Goals as goal
use Rattle.cow_tree.proofs.opening.read_page_map.Goals.{In_ok-planes}

pub returns-in_err-planes-clause-refused : goal.returns-in_err-planes-clause-refused
returns-in_err-planes-clause-refused g c honest =
    let d = g.D.Disk in
    let root = c.args.root.now in
    let start = c.args.roots.now in
    let mid = c.loop-entry.roots in
    let here = c.loop-entry.invariant in
    let index = c.loop-entry.entry-index in
    let e = c.entry-item.result in
    let size = d.size start.disk in
    let seen = d.seen start.disk in
    let lt : index < length root.entries = subst (λ (l : List EntryValue). index < length l) c.entries-entries.ensures.value c.loop-entry-test.true in
    let is_e : e ≡ get_or root.entries index e = subst (λ (l : List EntryValue). e ≡ get_or l index e) c.entries-entries.ensures.value c.entry-item.is in
    handed_on _ c.from_residual-in_err-planes.result c.in_err-planes.field-0.0 c.from_residual-in_err-planes.ensures.1
    (inr (refused_for _ _ c.in_err-planes.field-0.0
    (λ none. no_next_tile size seen root index e lt is_e
    (subst (λ (f : Format). NoTileAt f size seen e) c.format-format.ensures
    (subst (λ (n : ℕ). NoTileAt c.format-format.result n seen e) here.reads.size
    (subst (λ (i : Image). NoTileAt c.format-format.result (d.size mid.disk) i e) (here.reads.seen (c.in_err-planes.ensures.reads.honest honest)) none))))
    (c.in_err-planes.ensures.refused honest)))

-- the tile of this pass's entry, which was read
module _ (g : _) (c : In_ok-planes g) where
  within : c.loop-entry.entry-index < length c.args.root.now.entries
  within = subst (λ (l : List EntryValue). c.loop-entry.entry-index < length l) c.entries-entries.ensures.value c.loop-entry-test.true

  this_entry : c.entry-item.result ≡ get_or c.args.root.now.entries c.loop-entry.entry-index c.entry-item.result
  this_entry = subst (λ (l : List EntryValue). c.entry-item.result ≡ get_or l c.loop-entry.entry-index c.entry-item.result) c.entries-entries.ensures.value c.entry-item.is

  same_corner : c.entry-item.result.corner ≡ c.entry.inside.corner
  same_corner = sym (ap (λ (x : EntryValue). x.corner) c.entry.view_is)

  abbrev tile : TileLocation
  tile = tile_at c.entry.inside.corner c.in_ok-planes.planes

  entries : map entry_of (c.loop-entry.page_map.committed ++ tile ∷ []) ≡ take (c.loop-entry.entry-index + 1) c.args.root.now.entries
  entries =
      one_more c.args.root.now.entries c.loop-entry.page_map.committed c.loop-entry.entry-index c.entry-item.result tile within c.loop-entry.invariant.entries this_entry
      (subst (λ (p : Corner). entry_of (tile_at p c.in_ok-planes.planes) ≡ c.entry-item.result) same_corner c.in_ok-planes.ensures.entry)

  has_records : g.D.Disk.honest c.read_planes.new.roots.disk → HasRecords (format_of c.args.root.now) (g.D.Disk.seen c.args.roots.now.disk) tile
  has_records honest =
      let planes = c.in_ok-planes.planes in
      subst (λ (p : Corner). HasRecords (format_of c.args.root.now) (g.D.Disk.seen c.args.roots.now.disk) (tile_at p planes)) same_corner
      (subst (λ (f : Format). HasRecords f (g.D.Disk.seen c.args.roots.now.disk) (tile_at c.entry-item.result.corner planes)) c.format-format.ensures
      (subst (λ (i : Image). HasRecords c.format-format.result i (tile_at c.entry-item.result.corner planes)) (c.loop-entry.invariant.reads.seen (c.in_ok-planes.ensures.reads.honest honest)) (c.in_ok-planes.ensures.records honest)))

pub load-requires-clause-after : goal.load-requires-clause-after
load-requires-clause-after g c =
    let here = (goal.at.load-requires-clause-after g c).In_ok-planes in
    before_next c.args.root.now.entries c.loop-entry.page_map.committed c.loop-entry.entry-index c.entry-item.result c.entry.inside.corner c.entries-entries.ensures.rules.in_order
    (within g here) c.loop-entry.invariant.entries (this_entry g here) (same_corner g here)

pub returns-in_err-page_map-2-clause-refused : goal.returns-in_err-page_map-2-clause-refused
returns-in_err-page_map-2-clause-refused g c honest =
    let d = g.D.Disk in
    let at = (goal.at.returns-in_err-page_map-2-clause-refused g c).In_ok-planes in
    let start = c.args.roots.now in
    let before = c.loop-entry.page_map.committed in
    handed_on _ c.from_residual-in_err-page_map-2.result c.in_err-page_map-2.field-0.0 c.from_residual-in_err-page_map-2.ensures.1
    (inr (⊎_elim (λ memory. inr (inl memory))
    (λ damaged. inr (inr (
      damaged.0,
      no_rule (d.size start.disk) (d.seen start.disk) c.args.root.now c.loop-entry.entry-index before (tile g at) (entries g at) (c.loop-entry.invariant.records (c.in_ok-planes.ensures.reads.honest honest)) (has_records g at honest)
          (λ rule. damaged.1 (subst (λ (n : ℕ). KeepsPageRule n (before ++ tile g at ∷ [])) (sym c.loop-entry.invariant.sectors) rule)),
    )))
    c.in_err-page_map-2.ensures.refused))

pub returns-in_err-page_map-2-clause-reads : goal.returns-in_err-page_map-2-clause-reads
returns-in_err-page_map-2-clause-reads g c =
    let d = g.D.Disk in
    let here = c.loop-entry.invariant in
    let planes = c.in_ok-planes.planes in
    let read = c.in_ok-planes.ensures.reads in
    read_as d c.args.roots.now c.read_planes.new.roots (Ok planes) c.from_residual-in_err-page_map-2.result (read_on d c.args.roots.now c.loop-entry.roots c.read_planes.new.roots (Ok planes) here.reads here.works read)
    (inl (works_ok planes c.read_planes.new.roots.failed read.works)) (not_device c.from_residual-in_err-page_map-2.result c.in_err-page_map-2.field-0.0 c.from_residual-in_err-page_map-2.ensures.1 c.in_err-page_map-2.ensures.refused)

pub loop-entry-preserved : goal.loop-entry-preserved
loop-entry-preserved g c =
    let d = g.D.Disk in
    let at = (goal.at.loop-entry-preserved g c).In_ok-planes in
    let here = c.loop-entry.invariant in
    let planes = c.in_ok-planes.planes in
    let read = c.in_ok-planes.ensures.reads in
    let works : has_failed c.read_planes.new.roots ≡ false = works_ok planes c.read_planes.new.roots.failed read.works in
    let loaded = c.in_ok-page_map-2.ensures.loaded in
    record {
      works = works;
      reads = read_well d c.args.roots.now c.read_planes.new.roots planes tt (read_on d c.args.roots.now c.loop-entry.roots c.read_planes.new.roots (Ok planes) here.reads here.works read);
      rules = c.in_ok-page_map-2.ensures.rules;
      sectors = ap (λ (x : PageMapValue). x.sectors) loaded ∙ here.sectors;
      format = ap (λ (x : PageMapValue). x.format) loaded ∙ here.format;
      clean = ap (λ (x : PageMapValue). x.staged) loaded ∙ sym (ap (λ (x : PageMapValue). x.committed) loaded);
      entries = ap (λ (x : PageMapValue). map entry_of x.committed) loaded ∙ entries g at;
      records = λ h. subst (λ (x : PageMapValue). All (HasRecords (format_of c.args.root.now) (d.seen c.args.roots.now.disk)) x.committed) (sym loaded)
          (All-push (HasRecords (format_of c.args.root.now) (d.seen c.args.roots.now.disk)) c.loop-entry.page_map.committed (tile g at) (here.records (read.honest h)) (has_records g at h));
    }

pub returns-in_err-planes-clause-reads : goal.returns-in_err-planes-clause-reads
returns-in_err-planes-clause-reads g c =
    refused_again g.D.Disk c.args.roots.now c.read_planes.new.roots c.in_err-planes.field-0.0 c.from_residual-in_err-planes.result c.from_residual-in_err-planes.ensures.1
    (read_on g.D.Disk c.args.roots.now c.loop-entry.roots c.read_planes.new.roots (Err c.in_err-planes.field-0.0) c.loop-entry.invariant.reads c.loop-entry.invariant.works c.in_err-planes.ensures.reads)

pub returns-clause-reads : goal.returns-clause-reads
returns-clause-reads g c = read_well g.D.Disk c.args.roots.now c.loop-entry.roots tt _ c.loop-entry.invariant.reads
