-- Names that many proofs of this crate cite, re-exported here. Declares nothing.
pub use Rattle.lattice.proofs.CornerOrder.{after_not_same, before_not_back, before_not_same, corner_cmp, ranked_corners, same_from}
pub use Rattle.lattice.proofs.Rising.{AllAfter, Rising, adjacent_from, rising_from}
pub use Rattle.lattice.specs.Corners.{Corner, is_before, is_corner, same_corner}
pub use Rattle.lattice.specs.Lattice.{IsBefore}
pub use Rattle.lattice.specs.declared.refusal.Refusal.{Refusal}
pub use Rattle.page_alloc.proofs.PageLemmas.{len-without}
pub use Rattle.page_alloc.specs.Pages.{IsFree, IsPage, PageSet, without_page}
pub use Rattle.page_codec.specs.Formats.{Format, upgraded}
pub use Rattle.page_codec.specs.Sizes.{index_pages_of, pages_of, plane_pages_of, sectors_asked}
pub use Rattle.page_codec.specs.declared.version.Version.TheVariants.{One}
pub use Rattle.page_map.specs.FreePages.{AreBalanced, AreGiven, AreInUse, AreTaken, FreePages, IsOwnedPage, PageRange, differing, free_times, page_times}
pub use Rattle.page_map.specs.Locations.{IsWholePlane, PlaneLocation, listing_of, moved_plane, pages_behind, pages_of_plane, times}
pub use Rattle.page_map.specs.PageMaps.{AreKept, AreWholeKept, HasFreshHeights, IsAdded, IsClean, IsFresh, IsLocated, IsPageMap, IsPrepared, IsRewritten, IsWholeTile, PageMapValue, corners_of_locations, is_at, is_unreached, other_kept, page_if, tile_at, without_location}
pub use Rattle.page_map.specs.PlaneEntries.{HasRoom, behind_at, fresh_as, fresh_in, pages_at, settled_plane, staged_as, staged_plane, used_in}
pub use Rattle.page_map.specs.Planes.{HasPlane, HasPlaneAt, plane_of}
pub use Rattle.page_map.specs.TileEntries.{AreAlike, AreCounted, AreTogether, Entry, IsKept, IsSound, IsSoundPlane, committed_tile, committed_tiles, ended_entry, ended_page_map, fresh_by, fresh_kept, fresh_kept_by, fresh_pages, kept_of, named_plane, no_planes, page_map_of, planes_at, staged_tile, staged_tiles, tile_of, tile_planes, used_by, used_pages, with_planes}
pub use Rattle.page_map.specs.TileLocations.{KeepsPageRule, TileLocation, pages_of_kept, pages_of_tile, reached}
pub use Rattle.page_map.specs.Upgraded.{data_of, listing_of_kept, listings}
pub use Rattle.page_map.specs.declared.locations.KeptLocations.{KeptLocations}
pub use Rattle.page_map.specs.declared.locations.TilePlanes.{TilePlanes}
pub use Rattle.page_map.specs.declared.plane.Plane.{Plane}
pub use Rattle.page_map.specs.declared.plane.Plane.TheVariants.{Heights, Labels, Levels}
pub use Rattle.page_map.specs.declared.plane_entry.PlaneEntry.{PlaneEntry}
pub use Rattle.page_map.specs.declared.plane_entry.Staged.{Staged}
pub use Rattle.page_map.specs.declared.plane_entry.Staged.TheVariants.{AsCommitted, Dropped, Fresh}
pub use Rattle.page_map.specs.declared.tile_entry.TileEntry.{TileEntry}
pub use Rattle.std.proofs.Common.{Bool, Bor, Err, List, [], ap, append_assoc, ap₂, arith, cond, drop, eqb, false, get_or, if◌then◌else◌, inl, inr, length, map, not, refl, rules, set, subst, suc, sym, take, true, zero, ℕ, ⊎_elim, ◌*◌, ◌++◌, ◌+◌, ◌-◌, ◌/◌, ◌<◌, ◌∙◌, ◌∷◌, ◌≡◌, ◌≢◌, ◌≤◌}
pub use Rattle.std.proofs.Math.Nat.{mul-add, mul-le-mul_left}
pub use Rattle.std.proofs.Math.Seq.{drop-append_seam}
pub use Rattle.std.proofs.lemmas.Bool.{cases_eq, eq-eqb, false_from_ne_true, false≢true, ne_eqb}
pub use Rattle.std.proofs.lemmas.Bool.Decides.{nat_tests}
pub use Rattle.std.proofs.lemmas.Grind.{flat_map-append}
pub use Rattle.std.proofs.lemmas.List.{append-nil, length-append, length-map, length-set}
pub use Rattle.std.proofs.lemmas.List.Elements.{All-cons, All-nil, filter_map-append}
pub use Rattle.std.proofs.lemmas.Option.{same_Some}
pub use Rattle.std.proofs.lemmas.Result.{on_err_weaker, on_ok_weaker}
pub use Rattle.std.specs.BTreeMap.{insert_entry}
pub use Rattle.std.specs.FinSet.{contains, len}
pub use Rattle.std.specs.List.{AllByRecursion, cons_option, filter_map, flat_map}
pub use Rattle.std.specs.Option.{option_copied_mut}
pub use Rattle.std.specs.Ordering.{MatchOrdering, is_eq, nat_cmp}
pub use Rattle.std.specs.Prelude.{All, Contains, IfNone, IfOk, IfSome, IsSome, IsTrue, None, OnErr, OnOk, Option, Result, Some, filter, is_some, option_and_then, option_copied, slice_set}
pub use Rattle.std.specs.declared.cmp.Ordering.{Ordering}
pub use Rattle.std.specs.declared.cmp.Ordering.TheVariants.{Equal, Greater, Less}
