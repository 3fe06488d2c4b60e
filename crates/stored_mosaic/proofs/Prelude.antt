-- Names that many proofs of this crate cite, re-exported here. Declares nothing.
pub use Rattle.catalogue.proofs.Asking.{asked, asked_answer}
pub use Rattle.catalogue.proofs.Mosaics.{corner_of, rising_tiles}
pub use Rattle.catalogue.proofs.Reading.{reads_nothing, reads_on}
pub use Rattle.catalogue.specs.Endings.{ends_any}
pub use Rattle.catalogue.specs.Readers.{OnlyReads, reads_of}
pub use Rattle.catalogue.specs.Reading.{MayRefuse}
pub use Rattle.catalogue.specs.Tiles.{is_listed, with_sinks}
pub use Rattle.cow_tree.proofs.Listed.Adding.{contains-map}
pub use Rattle.cow_tree.proofs.OneStored.{one_stored}
pub use Rattle.cow_tree.proofs.ReadOnly.{never_refused}
pub use Rattle.cow_tree.proofs.Steps.{ok_where, on_ok}
pub use Rattle.cow_tree.proofs.TreeReads.{same_mosaic}
pub use Rattle.cow_tree.proofs.Uncommitted.{OnlyNow, in_memory, no_call_yet, not_called, refusal_is, refused_as, uncommitted_on}
pub use Rattle.cow_tree.specs.Clean.{IsClean}
pub use Rattle.cow_tree.specs.Layout.{Stands, tile_in}
pub use Rattle.cow_tree.specs.Planes.{HasPage, stored_plane}
pub use Rattle.cow_tree.specs.Reading.{HasOnlyRead, IsReadable, Reads, mosaic_of, read_again, read_nothing}
pub use Rattle.cow_tree.specs.Staged.{index_page_by, pages_due}
pub use Rattle.cow_tree.specs.Stored.{AreWhole, IsPage, KeptPlanes, PlanePages, Stored, StoredTile, corners_of_stored, mosaic_of_tiles, next_commit, pages_of_bytes, plane_bytes, samples_of_plane, stale_tile, with_page, with_tile, without_tile}
pub use Rattle.cow_tree.specs.Trees.{HasStaged, corners_of, disk_of, has_begun, has_failed, records_due, root_of, sinks_of, staged_in}
pub use Rattle.cow_tree.specs.Uncommitted.{CommitsNothing}
pub use Rattle.cow_tree.specs.declared.tree.Tree.{Tree}
pub use Rattle.derived.proofs.Commits.{commits_after}
pub use Rattle.derived.proofs.Settled.{settled_at}
pub use Rattle.derived.specs.Kept.{AreRight, KeepRight, stale_corners, stale_in}
pub use Rattle.derived.specs.Steps.{Commits}
pub use Rattle.disk.specs.Disk.{HasRisen, Image}
pub use Rattle.disk.specs.declared.disk.Disk.{Ghosts}
pub use Rattle.edits.specs.Edits.{AreVoidTiles, FindsVoids, FitsIn, IsEditOf, edit_made, goes_stale_by, points_of, with_heights}
pub use Rattle.edits.specs.Effect.{edited, effect, is_in_box, is_void_at, unless_refused}
pub use Rattle.edits.specs.Plans.{is_own, may_end}
pub use Rattle.edits.specs.Touched.{goes_stale, stale_after}
pub use Rattle.edits.specs.declared.command.Command.{Command}
pub use Rattle.edits.specs.declared.command.Command.TheVariants.{Burn, Sink, Unsink, Wall}
pub use Rattle.edits.specs.declared.edit.Edit.{Edit}
pub use Rattle.edits.specs.declared.edit.NewHeight.{NewHeight}
pub use Rattle.engine.proofs.Questions.{device_or_not}
pub use Rattle.engine.specs.Outcomes.{AppliesNot, Fails, Stays, StaysFailed}
pub use Rattle.engine.specs.State.{Contents, State, failing, if_numbered, in_doubt, last_number, made_by, working}
pub use Rattle.engine.specs.Steps.{step_in_doubt, stepped}
pub use Rattle.engine.specs.declared.info.Info.{Info}
pub use Rattle.hgt.specs.Bytes.{hgt_bytes, high_byte, low_byte, sample_of}
pub use Rattle.labelling.specs.Labelling.{IsLabelling}
pub use Rattle.lattice.proofs.CornerOrder.{before_not_same, same_from, same_says}
pub use Rattle.lattice.proofs.IntTests.{le_true}
pub use Rattle.lattice.proofs.Rising.{AllAfter, Rising}
pub use Rattle.lattice.proofs.Samples.{holds_is, index_of_point, index_of_point_is, point_of_held}
pub use Rattle.lattice.specs.Block.{is_rim}
pub use Rattle.lattice.specs.Corners.{Corner, is_before, is_corner, same_corner}
pub use Rattle.lattice.specs.Lattice.{IsIndexOf, holds, index_of, point_of}
pub use Rattle.lattice.specs.Mosaic.{IsMosaic, IsSample, IsTile, Mosaic, Tile, is_void, samples_of, void}
pub use Rattle.lattice.specs.RimPoints.{IsRimPoint}
pub use Rattle.lattice.specs.declared.point.Point.{Point}
pub use Rattle.lattice.specs.declared.refusal.Refusal.{Refusal}
pub use Rattle.lattice.specs.declared.refusal.Refusal.TheVariants.{Damaged, Device, Failed, NoMemory, NotOld, TooSmall, Worn}
pub use Rattle.page_codec.specs.Formats.{number_of}
pub use Rattle.page_codec.specs.Roots.{RootValue}
pub use Rattle.page_codec.specs.Sizes.{pages_of}
pub use Rattle.page_codec.specs.declared.version.Version.{Version}
pub use Rattle.page_codec.specs.declared.version.Version.TheVariants.{One, Two}
pub use Rattle.page_map.proofs.Lookup.{tile_at_corner}
pub use Rattle.page_map.specs.PageMaps.{PageMapValue}
pub use Rattle.page_map.specs.Planes.{HasPlane}
pub use Rattle.page_map.specs.TileLocations.{TileLocation}
pub use Rattle.page_map.specs.declared.plane.Plane.TheVariants.{Heights}
pub use Rattle.std.proofs.Common.{All, Bool, Contains, Err, IfErr, IfNone, IfOk, IfSome, IsErrOf, IsTrue, List, None, Ok, OnErr, OnOk, Option, Result, Some, [], ap, ap₂, arith, cond, drop, false, filter, get_or, if◌then◌else◌, inl, inr, int_le, length, map, min, nat_eq, nat_lt, negsuc, not, option_map, pos, refl, rules, set, slice_get, slice_index_or, subst, suc, sym, take, take_all, true, true≢false, vec_capacity, vec_len, zero, ℕ, ℤ, ⊎_elim, ◌&&◌, ◌*◌, ◌++◌, ◌+◌, ◌-◌, ◌/◌, ◌<◌, ◌^◌, ◌||◌, ◌∙◌, ◌∷◌, ◌≡◌, ◌≢◌, ◌≤◌, ◌⊎◌}
pub use Rattle.std.proofs.Math.Bool.{and-false, or-false}
pub use Rattle.std.proofs.lemmas.Bool.{and_from, and_parts, both_ways, cases_lt, eqb-false, eqb-true, false_from_ne_true, false≢true, lt-ltb, or_parts, or_right}
pub use Rattle.std.proofs.lemmas.Bool.Decides.{Decides-int_eq}
pub use Rattle.std.proofs.lemmas.Int.{ints}
pub use Rattle.std.proofs.lemmas.List.{get_or-set_other, get_or-set_same, get_or_default, length-map, length-set, take-append-drop, take_more}
pub use Rattle.std.proofs.lemmas.List.Elements.{All-cons, All-contains, All-contains_itself, All-filter, All-head, All-nil, All-set, All-tail, Contains-push_cases}
pub use Rattle.std.proofs.lemmas.List.Folds.{concat-append}
pub use Rattle.std.proofs.lemmas.Option.{get_or_from_slice_get, slice_get_within}
pub use Rattle.std.proofs.lemmas.Result.{IfErr-weaker, IfOk-weaker}
pub use Rattle.std.specs.List.{AllZip, concat, list_any}
pub use Rattle.std.specs.Option.{is_none}
pub use Rattle.stored_mosaic.specs.Editing.{AreTilesOf, ComesIn, IsMade, IsPrepared, IsRefusedEarly, KeepsBut, MakesPages, Prepares, StagesFew, StagesPages, index_pages_due, writes_begun}
pub use Rattle.stored_mosaic.specs.Ended.{Ending, EndsAt, IsApplied, LeavesOr, command_ending, known_by, step_ending}
pub use Rattle.stored_mosaic.specs.PagesMet.{has_point, is_in_page, named_by, page_writes, pages_met, pages_met_in, pages_with}
pub use Rattle.stored_mosaic.specs.Queried.{IsQueried, IsTileOf}
pub use Rattle.stored_mosaic.specs.Staging.{IsStaged}
pub use Rattle.stored_mosaic.specs.Staling.{KeepFresh, Stales, keeper, keepers, staled, staled_in}
pub use Rattle.stored_mosaic.specs.Standing.{Holds, HoldsTile, StandsFor}
pub use Rattle.stored_mosaic.specs.States.{StandsForState}
pub use Rattle.stored_mosaic.specs.TreeStates.{IsInState, IsSound}
pub use Rattle.stored_mosaic.specs.Underway.{AreRimVoids, IsEdited, IsSettled, IsUnderway, LeavesPage, Settles, box_meets, filled, has_rows, heightened, is_due, page_sample}
pub use Rattle.stored_mosaic.specs.declared.rims.RimVoids.{RimVoids}
pub use Rattle.stored_mosaic.specs.declared.voids.Patch.{Patch}
pub use Rattle.tile_flood.specs.Kept.{labels_in, levels_in}
pub use Rattle.tile_labellings.specs.Labellings.{IsFlooded}
pub use Rattle.tile_labellings.specs.Spots.{StandsAt}
