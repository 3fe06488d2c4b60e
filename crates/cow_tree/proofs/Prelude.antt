-- Names that many proofs of this crate cite, re-exported here. Declares nothing.
pub use Rattle.cow_tree.specs.Caches.{Agrees}
pub use Rattle.cow_tree.specs.Entries.{entry_of, entry_of_kept}
pub use Rattle.cow_tree.specs.Found.{NoTileAt, NoneIndexed, NoneKept, NoneListed, NonePlane}
pub use Rattle.cow_tree.specs.Layout.{HasRecord, HasRecords, HaveKeptRecords, IsIndexed, IsLaidOut, Stands, StoresAt, kept_in, listed_by, plane_in, stored_in, tile_in}
pub use Rattle.cow_tree.specs.Listings.{IsOn, ListingPage, WritesListing, due_among, index_listing, kept_listing, listing_bytes, listing_if, named_listing, numbers_of, plane_listing, tile_listing, tiles_listing, written_before}
pub use Rattle.cow_tree.specs.OverRoots.{EachStores, IsRefusedFor, WritesPages}
pub use Rattle.cow_tree.specs.Planes.{HasPage}
pub use Rattle.cow_tree.specs.Reading.{HasOnlyRead, IsReadable, mosaic_of}
pub use Rattle.cow_tree.specs.Sinks.{SinksValue}
pub use Rattle.cow_tree.specs.Staged.{AreListedBy, AreStaged, IsListedBy, IsTileListed, index_page_by, page_of_bytes, pages_due}
pub use Rattle.cow_tree.specs.Stored.{AreWhole, IsPage, KeptPlanes, PlanePages, Stored, StoredTile, mosaic_of_tiles, pages_of_bytes, plane_bytes, samples_of_plane, with_page}
pub use Rattle.cow_tree.specs.Trees.{IsAt, staged_in}
pub use Rattle.cow_tree.specs.declared.cache.PageCache.{PageCache}
pub use Rattle.cow_tree.specs.declared.tree.Tree.{Tree}
pub use Rattle.disk.specs.Disk.{Image}
pub use Rattle.disk.specs.Stops.{AddsNothing, LeavesOnly, in_turn, nothing_done, nothing_twice, weaker}
pub use Rattle.disk.specs.declared.disk.Disk.{Ghosts}
pub use Rattle.hgt.specs.Bytes.{samples_in}
pub use Rattle.lattice.proofs.CornerOrder.{same_from}
pub use Rattle.lattice.proofs.Rising.{AllAfter, Rising, rising_from}
pub use Rattle.lattice.specs.Corners.{Corner, is_before, is_corner, same_corner}
pub use Rattle.lattice.specs.Mosaic.{IsMosaic, Mosaic, samples_of}
pub use Rattle.lattice.specs.declared.point.Point.{Point}
pub use Rattle.lattice.specs.declared.refusal.Refusal.{Refusal}
pub use Rattle.lattice.specs.declared.refusal.Refusal.TheVariants.{Device, NoMemory}
pub use Rattle.lru.specs.LruCache.{LruCache}
pub use Rattle.page_codec.proofs.RecordPages.{same_records}
pub use Rattle.page_codec.specs.Entries.{EntryValue, IsEntry}
pub use Rattle.page_codec.specs.Formats.{Format, largest_side_of, upgraded}
pub use Rattle.page_codec.specs.Numbers.{padded}
pub use Rattle.page_codec.specs.Records.{IsRecord, part_of, record_bytes}
pub use Rattle.page_codec.specs.Roots.{AreInOrder, RootValue, format_of}
pub use Rattle.page_codec.specs.Sizes.{index_pages_by, index_pages_of, pages_of, sectors_asked}
pub use Rattle.page_codec.specs.declared.entry.Kept.{Kept}
pub use Rattle.page_codec.specs.declared.version.Version.{Version}
pub use Rattle.page_codec.specs.declared.version.Version.TheVariants.{One, Two}
pub use Rattle.page_map.proofs.KeptChanges.{length-filter-le}
pub use Rattle.page_map.proofs.Listing.{any_none}
pub use Rattle.page_map.proofs.Lookup.{tile_at_corner}
pub use Rattle.page_map.proofs.Occurrences.{apart_head, times_here}
pub use Rattle.page_map.proofs.Refused.{ended_with}
pub use Rattle.page_map.proofs.Times.{all_numbers, member_of_times, times-append, times_of_member}
pub use Rattle.page_map.proofs.UpgradedTiles.{tiles_split}
pub use Rattle.page_map.specs.Locations.{IsWholePlane, PlaneLocation, listing_of, moved_plane, pages_behind, pages_of_plane, times}
pub use Rattle.page_map.specs.PageMaps.{AreKept, AreWholeKept, HasFreshHeights, IsAdded, IsClean, IsFresh, IsLocated, IsPageMap, IsPrepared, IsRewritten, IsWholeTile, PageMapValue, corners_of_locations, is_at, is_unreached, other_kept, page_if, with_tile_location, without_location}
pub use Rattle.page_map.specs.Planes.{HasPlane, HasPlaneAt, plane_of}
pub use Rattle.page_map.specs.TileLocations.{KeepsPageRule, TileLocation, pages_of_kept, pages_of_tile, reached}
pub use Rattle.page_map.specs.Upgraded.{data_of, listing_of_kept, listing_of_tile, listings}
pub use Rattle.page_map.specs.declared.locations.KeptLocations.{KeptLocations}
pub use Rattle.page_map.specs.declared.plane.Plane.{Plane}
pub use Rattle.page_map.specs.declared.plane.Plane.TheVariants.{Heights, Labels, Levels}
pub use Rattle.roots.proofs.OneAnswer.{one_is_current}
pub use Rattle.roots.specs.Found.{HasMoved}
pub use Rattle.roots.specs.Roots.{IsReady, disk_of, has_failed, ready_current}
pub use Rattle.roots.specs.Slots.{IsCurrent, KeepsAll, KeepsBut, SamePages, SamePagesBut}
pub use Rattle.roots.specs.declared.roots.Roots.{Roots}
pub use Rattle.roots.specs.declared.slot.Slot.TheVariants.{A}
pub use Rattle.std.proofs.Common.{All, Bool, Contains, Err, IfErr, IfOk, IfSome, IsErrOf, IsSomeAnd, IsTrue, List, None, Ok, OnErr, OnOk, Option, Result, Some, [], ap, ap₂, arith, below_more, cond, drop, false, get_or, if◌then◌else◌, inl, inr, length, map, min, not, option_map, refl, replicate, rules, slice_get, slice_range, subst, suc, sym, take, true, zero, ℕ, ℤ, ⊎_elim, ◌%◌, ◌*◌, ◌++◌, ◌+◌, ◌-◌, ◌/◌, ◌<◌, ◌==◌, ◌^◌, ◌||◌, ◌∙◌, ◌∷◌, ◌≡◌, ◌≢◌, ◌≤◌, ◌⊎◌}
pub use Rattle.std.proofs.lemmas.Bool.{cases_eq, cases_lt, false≢true}
pub use Rattle.std.proofs.lemmas.Grind.{flat_map-append}
pub use Rattle.std.proofs.lemmas.List.{append-nil, drop-drop, get_or-append-add, get_or-drop, get_or-map, get_or-take, get_or_append_left, length-append, length-drop, length-map, length-take, map-append, nil_from_length, same_lists, take-append-drop, take_all, take_min, take_more}
pub use Rattle.std.proofs.lemmas.List.Elements.{All-append, All-cons, All-contains, All-contains_itself, All-drop, All-head, All-map, All-nil, All-push, All-tail, All-take, All-weaker, filter-append}
pub use Rattle.std.proofs.lemmas.Option.{same_Some, slice_get_read}
pub use Rattle.std.specs.Global.{Vec}
pub use Rattle.std.specs.List.{concat, filter, list_any, slice_set}
