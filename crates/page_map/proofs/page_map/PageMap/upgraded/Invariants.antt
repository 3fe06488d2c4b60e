use Rattle.page_map.proofs.Prelude.{AllByRecursion, AreTaken, IsClean, IsPageMap, IsSound, committed_tiles, data_of, index_pages_of, length, listings, map, ◌*◌, ◌++◌, ◌+◌, ◌≡◌, ◌≤◌}
use Rattle.std.specs.FinSet as set
use Rattle.page_map.proofs.page_map.PageMap.upgraded.Given as goal

abbrev pub invariant-loop-corner : goal.invariant-loop-corner
invariant-loop-corner l = record {
  rules : IsPageMap l.page_map;
  sectors : l.page_map.sectors ≡ l.self-inside.free.range.sectors;
  format : l.page_map.format ≡ l.format;
  clean : IsClean l.page_map;
  alike : map data_of l.page_map.committed ++ map data_of (committed_tiles l.corner-iterator) ≡ map data_of (committed_tiles l.self-inside.entries.entries);
  sound : AllByRecursion (IsSound l.self-inside.format) l.corner-iterator;
  taken : AreTaken (listings l.page_map.committed) l.self-inside.free l.free;
  left : set.len l.self-inside.free.free ≤ set.len l.free.free + 3 * (1 + index_pages_of l.format) * length l.page_map.committed;
}
