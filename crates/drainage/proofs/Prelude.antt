-- Re-exports the names that many proofs of this crate use. Declares nothing.
pub use Rattle.border_graph.specs.Others.{corner_at}
pub use Rattle.catalogue.proofs.Asking.{asked_passed, asked_refused}
pub use Rattle.catalogue.proofs.Presence.{present_iff}
pub use Rattle.catalogue.proofs.Reading.{reads_as, reads_nothing, reads_on}
pub use Rattle.catalogue.proofs.Sharing.{shared_from}
pub use Rattle.catalogue.specs.Asked.{Asked}
pub use Rattle.catalogue.specs.Endings.{ends_any}
pub use Rattle.catalogue.specs.Readers.{OnlyReads}
pub use Rattle.catalogue.specs.Tables.{AreCorners}
pub use Rattle.catalogue.specs.Tiles.{corners_of, with_sinks}
pub use Rattle.catalogue.specs.declared.samples.Samples.{Ghosts}
pub use Rattle.drainage.specs.Between.{AreFlowsFor, AreFlowsLeft, IsHeldFor, IsHeldOf, are_noted, are_right, are_sparing, levels_pass}
pub use Rattle.drainage.specs.Beyond.{AreFlowsKept, AreLevelsKept, IsKeptBeyondHeights, IsKeptUnchanged}
pub use Rattle.drainage.specs.FlowPaths.{IsMarkedOnce}
pub use Rattle.drainage.specs.Padded.{AreFilledTo, IsFilledAround, IsStrip, IsTileCopied, strip_of}
pub use Rattle.drainage.specs.declared.drainage_cache.DrainageCache.{DrainageCache}
pub use Rattle.drainage.specs.declared.preparing.Strip.{Strip}
pub use Rattle.edits.specs.Edits.{AreEarlier, with_height, with_heights}
pub use Rattle.edits.specs.Effect.{patched}
pub use Rattle.edits.specs.Sinks.{with_point, without_point}
pub use Rattle.edits.specs.declared.edit.NewHeight.{NewHeight}
pub use Rattle.flow_cache.specs.FlowCaches.{AreSlotsOf, IsCacheOf, IsSparedFrom, are_spared, flow_cache_right}
pub use Rattle.flow_cache.specs.LevelRanges.{AreRanges, AreRangesOf, HasLevel, spared_of}
pub use Rattle.flow_cache.specs.Slots.{IsCovered, slot_ranges}
pub use Rattle.flow_cache.specs.declared.flow_cache.FlowCache.{FlowCache}
pub use Rattle.flow_cache.specs.declared.flow_cache.Slot.{Slot}
pub use Rattle.flow_d8.proofs.Mosaics.FullTerrain.{mosaic_is_full}
pub use Rattle.flow_d8.proofs.Padded.PaddedPlaces.{one_column, one_row}
pub use Rattle.flow_d8.proofs.Samples.Numbers.{tile_below}
pub use Rattle.flow_d8.proofs.Samples.TilePlaces.{square_some}
pub use Rattle.flow_d8.proofs.Sayings.Draining.{flow_direction}
pub use Rattle.flow_d8.proofs.Steps.Nearby.{all_around, told}
pub use Rattle.flow_d8.specs.FlowGrids.{AreTileFlows, IsAtHand, IsGridOf}
pub use Rattle.flow_d8.specs.Flows.{AreFlows, IsFlow}
pub use Rattle.flow_d8.specs.LevelsAround.{IsLevelAt, OnLevels, beside_of}
pub use Rattle.flow_d8.specs.Padded.{ArePadded, padded_point}
pub use Rattle.flow_d8.specs.Preparing.{place_in}
pub use Rattle.flow_d8.specs.Tiles.{AreDistinct, OnGround, Tiles, no_corner}
pub use Rattle.flow_d8.specs.declared.grid.FlowGrid.{FlowGrid}
pub use Rattle.labelling.specs.Blocks.{LabelledGround}
pub use Rattle.labelling.specs.Labelling.{NO_LABEL, OUT}
pub use Rattle.lattice.proofs.Lawful.{terrain_is_lawful}
pub use Rattle.lattice.proofs.Levels.{level_is_unique}
pub use Rattle.lattice.proofs.SamePoints.{same_place}
pub use Rattle.lattice.proofs.Samples.{row_below}
pub use Rattle.lattice.specs.Corners.{Corner, is_corner}
pub use Rattle.lattice.specs.Ground.{is_adjacent, is_ground, is_height, is_sink, same_point, share_tile, terrain}
pub use Rattle.lattice.specs.Height.{by_seam_rule, first_height, height_of, sample_at}
pub use Rattle.lattice.specs.Lattice.{Holds, IsIndexOf, holds, index_of, point_of}
pub use Rattle.flow_d8.specs.Filled.{most_samples}
pub use Rattle.lattice.specs.Mosaic.{IsMosaic, IsSample, IsTile, Mosaic, Tile, is_present, is_void, void}
pub use Rattle.lattice.specs.Steps.{directions, order_of, step}
pub use Rattle.lattice.specs.Terrain.{IsFilledLevel}
pub use Rattle.lattice.specs.declared.direction.Dir.{Dir}
pub use Rattle.lattice.specs.declared.direction.Dir.TheVariants.{East}
pub use Rattle.lattice.specs.declared.height.Height.TheVariants.{At}
pub use Rattle.lattice.specs.declared.point.Point.{Point}
pub use Rattle.lattice.specs.declared.refusal.Refusal.{Refusal}
pub use Rattle.levels.specs.Asking.{IsHeldByNone}
pub use Rattle.levels.specs.Holding.{IsHeldAt, IsRight, IsRimLevel, Known, level_of}
pub use Rattle.levels.specs.Invalidating.{KeepsSummary}
pub use Rattle.levels.specs.Reaching.{DifferAt, DifferBetween, is_between, is_reached, reaches}
pub use Rattle.levels.specs.RimGraphs.{loaded_at}
pub use Rattle.levels.specs.Spared.{AreSparing, IsNoHigher, IsSetTo, IsSpared, IsSparedBy, IsUnchanged, LiesApart}
pub use Rattle.levels.specs.TileCaches.{known_of}
pub use Rattle.levels.specs.declared.labelling_cache.LabellingCache.{LabellingCache}
pub use Rattle.levels.specs.declared.rim_graph.RimGraph.{RimGraph}
pub use Rattle.levels.specs.declared.tile_cache.TileCache.{TileCache}
pub use Rattle.std.proofs.Common.{Bool, Err, IsTrue, List, Ok, Result, SFits, [], ap, ap₂, arith, cond, drop, false, get_or, inl, inr, length, map, of_z, pos, refl, rules, subst, suc, sym, take, to_z, true, true≢false, w16, zero, ℕ, ℤ, ⊎_elim, ◌%◌, ◌&&◌, ◌*◌, ◌++◌, ◌+ℤ◌, ◌+◌, ◌-ℤ◌, ◌-◌, ◌/◌, ◌<ℤ◌, ◌<◌, ◌∙◌, ◌∷◌, ◌≡◌, ◌≢◌, ◌≤ℤ◌, ◌≤◌, ◌⊎◌}
pub use Rattle.std.proofs.lemmas.Bool.{and_from, and_parts, both_ways, cases_Bool, cases_eq, cases_lt, false_from_ne_true, false≢true, ltb-true, or_cases, or_parts}
pub use Rattle.std.proofs.lemmas.Bool.Decides.{Decides-int_eq}
pub use Rattle.std.proofs.lemmas.Int.{clamps, ints, to_z-of_z}
pub use Rattle.std.proofs.lemmas.List.{get_or-append-add, get_or-set_other, get_or-set_same, get_or_append_left, get_or_default, get_or_past, length-append, length-set, take_all}
pub use Rattle.std.proofs.lemmas.List.Elements.{All-get_or, All-head, All-tail, All-weaker}
pub use Rattle.std.proofs.lemmas.Result.{IfOk-weaker}
pub use Rattle.std.specs.Int.{int_max, int_min}
pub use Rattle.std.specs.List.{filter, list_any}
pub use Rattle.std.specs.Ordering.{int_eq}
pub use Rattle.std.specs.Prelude.{All, Contains, IfErr, IfNone, IfOk, IfSome, None, OnOk, Option, Some, count_by, if◌then◌else◌, int_lt, slice_index_or, slice_set, ◌↔◌}
pub use Rattle.tile_labellings.specs.Labellings.{IsFlooded}
pub use Rattle.tile_labellings.specs.TileLabellings.{IsTileLabelling}
pub use Rattle.water.proofs.Compass.{dir_at_place, order_below}
pub use Rattle.water.proofs.MosaicGrid.{level_ground, mosaic_is_grid}
pub use Rattle.water.specs.Drainage.{AreFilledLevels, CrossesFlat}
pub use Rattle.water.specs.FlowPath.{IsInWatershed}
pub use Rattle.water.specs.FlowSource.{IsToldOf}
pub use Rattle.water.specs.FlowSteps.{IsFollowed}
pub use Rattle.water.specs.Flows.{Drains, direction_of}
pub use Rattle.water.specs.Questions.{AreCodesTo, IsCodeOrNone}
pub use Rattle.water.specs.Ranges.{is_range_spared}
pub use Rattle.water.specs.Runs.{AreRuns}
pub use Rattle.water.specs.TileLevels.{AreTileLevels, IsLevelOrVoid}
pub use Rattle.water.specs.declared.flow.Flow.{Flow}
pub use Rattle.water.specs.declared.flow.Flow.TheVariants.{Beside, Flat, FlatTo, NoGround, Outlet, To, Unknown}
pub use Rattle.water.specs.declared.level_range.LevelRange.{LevelRange}
