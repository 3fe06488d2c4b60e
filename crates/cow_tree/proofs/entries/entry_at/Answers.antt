use Rattle.cow_tree.proofs.Prelude.{Contains, EntryValue, IsEntry, TileLocation, entry_of, subst, sym, tile_at_corner, ◌≡◌}
use Rattle.cow_tree.proofs.Listed.EntryTiles.{entry_is, entry_rules}
use Rattle.cow_tree.proofs.entries.entry_at.Goals as goal
use Rattle.cow_tree.proofs.entries.entry_at.Goals.{After-records_of}

module _ (c : After-records_of) where
  abbrev made : EntryValue
  made = record { corner = c.args.c; heights = c.record_page.result; kept = c.records_of.result }

  named : (t : TileLocation) → Contains c.args.page_map.now.staged t → t.corner ≡ c.args.c → made ≡ entry_of t
  named t has at =
      rw (c.record_page.ensures, c.records_of.ensures)
      (entry_is c.args.page_map.now c.rules.ensures c.args.c t has at c.in-Some.heights.now c.plane-levels.result c.plane-2.result c.in-Some.ensures.found c.plane-levels.ensures.found c.plane-levels.ensures.none c.plane-2.ensures.found c.plane-2.ensures.none)

pub unreachable-requires : goal.unreachable-requires
unreachable-requires c = c.in_default.ensures.none (tile_at_corner c.args.c c.args.page_map.now.staged c.requires.present)

pub invariant_of-result : goal.invariant_of-result
invariant_of-result c =
    let had = c.in-Some.ensures.found in
    subst IsEntry (sym (named c had.0 had.1.0 had.1.1.0)) (entry_rules c.args.page_map.now c.rules.ensures c.requires.fits had.0 had.1.0)

pub returns : goal.returns
returns c = named c
