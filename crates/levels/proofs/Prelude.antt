-- Re-exports the names that many proofs of this crate use. Declares nothing.
pub use Rattle.border_graph.specs.Joining.{IsSummaryOf, Rim, Summarizes, rim_point}
pub use Rattle.border_graph.specs.Linking.{node_number}
pub use Rattle.border_graph.specs.Links.{IsJoinedLevel, IsWayBelow}
pub use Rattle.border_graph.specs.Others.{corner_at}
pub use Rattle.border_graph.specs.Placed.{IsPlacedLink}
pub use Rattle.border_graph.specs.Summaries.{Summary}
pub use Rattle.border_graph.specs.TileGraph.{TileGraph}
pub use Rattle.border_graph.specs.declared.summary.RimPoint.{RimPoint}
pub use Rattle.catalogue.proofs.Asking.{asked, asked_on, asked_refused}
pub use Rattle.catalogue.proofs.Mosaics.{corner_of}
pub use Rattle.catalogue.proofs.Presence.{present_iff}
pub use Rattle.catalogue.proofs.Reading.{reads_as, reads_nothing, reads_on}
pub use Rattle.catalogue.proofs.Sharing.{shared_from}
pub use Rattle.catalogue.specs.Asked.{Asked}
pub use Rattle.catalogue.specs.Endings.{ends_any}
pub use Rattle.catalogue.specs.Readers.{OnlyReads}
pub use Rattle.catalogue.specs.Tiles.{corners_of, with_sinks}
pub use Rattle.catalogue.specs.declared.samples.Samples.{Ghosts}
pub use Rattle.edits.specs.Sinks.{with_point, without_point}
pub use Rattle.edits.specs.declared.edit.NewHeight.{NewHeight}
pub use Rattle.labelling.proofs.Heights.{rim_number_below}
pub use Rattle.labelling.proofs.Squares.{solid_if}
pub use Rattle.labelling.specs.Blocks.{LabelledGround, bare_block, block_of}
pub use Rattle.labelling.specs.Labelling.{IsLabelling, NO_LABEL, OUT}
pub use Rattle.labelling.specs.Raising.{AreRimLevels}
pub use Rattle.labelling.specs.Spills.{AreSpills}
pub use Rattle.labelling.specs.declared.spill.Spill.{Spill}
pub use Rattle.lattice.proofs.IntTests.{le_from, le_or_above, le_true}
pub use Rattle.lattice.proofs.Lawful.{block_is_lawful, terrain_is_lawful}
pub use Rattle.lattice.proofs.Levels.{level_is_unique}
pub use Rattle.lattice.proofs.Multiples.{some_side}
pub use Rattle.lattice.proofs.SamePoints.{same_point_says}
pub use Rattle.lattice.proofs.Samples.{held_at, holds_is}
pub use Rattle.lattice.specs.Block.{Block, IsBlockOf, block_terrain, is_rim, is_solid, rim_number}
pub use Rattle.lattice.specs.Corners.{Corner, is_corner}
pub use Rattle.lattice.specs.Ground.{degree_of, is_adjacent, is_ground, is_height, is_near, is_outlet, is_sink, metres, same_point, share_tile, terrain}
pub use Rattle.lattice.specs.Height.{by_seam_rule, first_height, height_of, sample_at}
pub use Rattle.lattice.specs.Lattice.{Holds, IsIndexOf, holds, index_of, point_of}
pub use Rattle.lattice.specs.Mosaic.{IsMosaic, IsSample, IsTile, Mosaic, Tile, is_present, is_void, void}
pub use Rattle.lattice.specs.RimPoints.{IsRimPoint}
pub use Rattle.lattice.specs.Stepping.{reach_of}
pub use Rattle.lattice.specs.Steps.{directions, step}
pub use Rattle.lattice.specs.Terrain.{IsFilledLevel, IsPath, Terrain, crest, end_of}
pub use Rattle.lattice.specs.declared.direction.Dir.{Dir}
pub use Rattle.lattice.specs.declared.direction.Dir.TheVariants.{East}
pub use Rattle.lattice.specs.declared.direction.Step.{Step}
pub use Rattle.lattice.specs.declared.height.Height.{Height}
pub use Rattle.lattice.specs.declared.height.Height.TheVariants.{At}
pub use Rattle.lattice.specs.declared.point.Point.{Point}
pub use Rattle.lattice.specs.declared.refusal.Refusal.{Refusal}
pub use Rattle.lattice.specs.declared.refusal.Refusal.TheVariants.{Damaged, NoMemory, Outside, Void}
pub use Rattle.levels.specs.Asking.{IsHeldByNone}
pub use Rattle.levels.specs.Flooded.{AreRimPointsIn, HasOtherRimHeight, IsGroundOf, IsRimPointIn}
pub use Rattle.levels.specs.GroundCache.{AreRemembered}
pub use Rattle.levels.specs.Holding.{Agrees, IsEntered, IsGroundNode, IsGrown, IsHeldAt, IsRefused, IsRight, IsRimLevel, Known, level_of}
pub use Rattle.levels.specs.Invalidating.{IsHeldStill, KeepsSummary}
pub use Rattle.levels.specs.Kept.{right_still}
pub use Rattle.levels.specs.Reaching.{DifferAt, DifferBetween, is_between, is_reached, reaches, reaches_along}
pub use Rattle.levels.specs.RimGraphs.{AreKept, AreLoaded, AreReady, Fits, loaded_at}
pub use Rattle.levels.specs.Room.{HasSide, graph_size, has_block}
pub use Rattle.levels.specs.Spared.{AreLevelsStill, AreSparing, IsNoHigher, IsSetTo, IsSpared, IsSparedBy, LiesApart}
pub use Rattle.levels.specs.TileCaches.{known_of}
pub use Rattle.levels.specs.TileLevels.{AreRimLevelsTo}
pub use Rattle.levels.specs.declared.labelling_cache.HeldLabelling.{HeldLabelling}
pub use Rattle.levels.specs.declared.labelling_cache.LabellingCache.{LabellingCache}
pub use Rattle.levels.specs.declared.rim_graph.RimGraph.{RimGraph}
pub use Rattle.std.proofs.Common.{Bool, Err, IsTrue, List, Ok, Result, SFits, [], ap, ap₂, arith, cond, drop, false, get_or, inl, inr, int_le, length, map, not, of_z, pos, refl, rules, subst, suc, sym, take, to_z, true, true≢false, w16, w32, zero, ℕ, ℤ, ◌%◌, ◌&&◌, ◌*ℤ◌, ◌*◌, ◌++◌, ◌+ℤ◌, ◌+◌, ◌-ℤ◌, ◌-◌, ◌/◌, ◌<ℤ◌, ◌<◌, ◌^◌, ◌||◌, ◌∙◌, ◌∷◌, ◌≡◌, ◌≢◌, ◌≤ℤ◌, ◌≤◌, ◌⊎◌}
pub use Rattle.std.proofs.Math.ListN.{get_or-map}
pub use Rattle.std.proofs.Math.Nat.{mul-le-mul_right}
pub use Rattle.std.proofs.Math.Path.{fun_ext}
pub use Rattle.std.proofs.lemmas.Bool.{and_from, and_parts, both_ways, cases_Bool, cases_eq, cases_lt, false_from_ne_true, false≢true, ltb-true, or_cases, or_parts}
pub use Rattle.std.proofs.lemmas.Bool.Decides.{Decides-int_eq, eqb_tells}
pub use Rattle.std.proofs.lemmas.Int.{clamps, ints, to_z-of_z}
pub use Rattle.std.proofs.lemmas.List.{get_or-append-add, get_or-set_other, get_or-set_same, get_or_append_left, get_or_default, get_or_past, get_or_read, length-append, length-map, length-set, take_all}
pub use Rattle.std.proofs.lemmas.List.Elements.{All-cons, All-contains, All-contains_itself, All-filter, All-head, All-more, All-tail, All-take}
pub use Rattle.std.proofs.lemmas.Nat.{mul-le}
pub use Rattle.std.proofs.lemmas.Result.{err_from_is_err_and}
pub use Rattle.std.specs.Int.{int_max}
pub use Rattle.std.specs.List.{filter, list_any}
pub use Rattle.std.specs.Ordering.{int_eq}
pub use Rattle.std.specs.Prelude.{All, Contains, IfErr, IfNone, IfOk, IfSome, IsFalse, MatchOption, None, Option, Some, count_by, insert, is_ok, nat_lt, remove, slice_index, slice_index_or, sum_by, ◌↔◌}
pub use Rattle.tile_labellings.specs.Labellings.{IsFlooded}
pub use Rattle.tile_labellings.specs.TileLabellings.{IsBelow, IsCurrent, IsSetFrom, IsTileLabelling, can_note, labelled_of}
pub use Rattle.tile_labellings.specs.declared.tile_labelling.TileLabelling.{TileLabelling}
pub use Rattle.tile_labellings.specs.declared.tile_labelling.TileLabelling.TheVariants.{Flooded, Kept}
pub use Rattle.water.proofs.MosaicGrid.{level_ground}
pub use Rattle.water.specs.Ranges.{IsIn}
pub use Rattle.water.specs.TileLevels.{AreTileLevels, IsLevelOrVoid}
pub use Rattle.water.specs.declared.level_range.LevelRange.{LevelRange}
