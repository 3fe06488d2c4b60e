-- Re-exports the names that many proofs of this crate use. Declares nothing.
pub use Rattle.flow_d8.specs.Component.{Connects}
pub use Rattle.flow_d8.specs.Directions.{AreDirectionsOf, Directions, IsChain}
pub use Rattle.flow_d8.specs.Filled.{AreLevels, Filled, IsFilledOf, is_deep, is_held, is_holder, most_samples}
pub use Rattle.flow_d8.specs.FlowBytes.{byte_of, byte_of_flow_at}
pub use Rattle.flow_d8.specs.FlowGrids.{AreCrossed, AreFlowsIn, AreKnown, AreTileFlows, IsAtHand, IsCut, IsGridOf, flow_of}
pub use Rattle.flow_d8.specs.Flows.{AreFlows, AreLaid, IsBeside, IsFlow, IsFlowNear, IsFull, IsOfFlat, IsTold, LiesInside, Names}
pub use Rattle.flow_d8.specs.LevelGrid.{IsLevelGrid, level_beside}
pub use Rattle.flow_d8.specs.Levels.{ArePaddedTo, IsLevelIn, filled_of}
pub use Rattle.flow_d8.specs.LevelsAround.{beside_of}
pub use Rattle.flow_d8.specs.MarkWords.{mark_in, mark_of, marks_in}
pub use Rattle.flow_d8.specs.Marks.{AreFound, Begins, IsBack, IsFirstWave, IsIn, IsMember, IsSettled, Lists, Reaches, mark_at, no_run}
pub use Rattle.flow_d8.specs.Padded.{ArePadded, IsPaddedTile, east_of_tile, north_of_tile, padded_point, south_of_tile, west_of_tile}
pub use Rattle.flow_d8.specs.Places.{IsInner, IsShown, place_by}
pub use Rattle.flow_d8.specs.Prelude.{Beside, Corner, Dir, East, Flat, FlatTo, Flow, Holds, IsBefore, IsFilledLevel, IsIndexOf, IsLawful, IsMosaic, IsTile, Mosaic, NoGround, North, NorthEast, NorthWest, Outlet, Point, South, SouthEast, SouthWest, Terrain, Tile, To, Unknown, West, directions, east_of, fits_number, fits_point, holds, index_of, is_adjacent, is_along, is_corner, is_ground, is_near, is_present, is_sink, is_void, largest_side, north_of, order_of, point_of, same_corner, same_point, share_tile, step, terrain, void}
pub use Rattle.flow_d8.specs.Preparing.{AreEnded, HasSink, IsClosedAt, IsClosedFlow, IsClosing, IsEnd, IsEndBeside, IsEnded, IsLocal, IsSinkPlace, along_of, flow_in, place_in}
pub use Rattle.flow_d8.specs.PresentTiles.{corners_of}
pub use Rattle.flow_d8.specs.Rounds.{Advances, AreBegun, AreMarked, AreWavesOf, IsPassed, IsRound, Tells}
pub use Rattle.flow_d8.specs.Tiles.{AreTiles, IsFirst, OnGround, Tiles, count_of, no_corner}
pub use Rattle.flow_d8.specs.Waves.{IsAcross, LeadsToEnd}
pub use Rattle.flow_d8.specs.declared.marks.SampleRun.{SampleRun}
pub use Rattle.flow_d8.specs.declared.preparing.Sides.{Sides}
pub use Rattle.flow_d8.specs.declared.slopes.Best.{Best}
pub use Rattle.lattice.proofs.Along.{from_parts, parts}
pub use Rattle.lattice.proofs.CornerOrder.{same_from, same_says}
pub use Rattle.lattice.proofs.IntTests.{eq_or_not, le_from, le_or_above, le_true, lt_false, lt_true}
pub use Rattle.lattice.proofs.Lawful.{five_parts, terrain_is_lawful}
pub use Rattle.lattice.proofs.Levels.{height-le_level, level_is_unique, ≤ℤ_same, ≤ℤ_trans}
pub use Rattle.lattice.proofs.SamePoints.{same_place}
pub use Rattle.lattice.proofs.Samples.{index_is, index_of_point, point_of_held, point_of_index}
pub use Rattle.lattice.proofs.WaysOut.{held}
pub use Rattle.std.proofs.Common.{All, Bool, Contains, IfNone, IfOk, IfSome, IsFalse, IsTrue, List, MatchOption, None, Option, SFits, Some, [], ap, ap₂, arith, drop, false, get_or, if◌then◌else◌, inl, inr, int_le, int_lt, length, map, nat_abs, nat_le, nat_lt, negsuc, not, of_z, pos, refl, rules, set, slice_get, slice_index_or, slice_set, subst, suc, sum, sym, take, to_z, true, true≢false, w16, w32, zero, ℕ, ℤ, ⊎_elim, ◌%◌, ◌&&◌, ◌*ℤ◌, ◌*◌, ◌++◌, ◌+ℤ◌, ◌+◌, ◌-ℤ◌, ◌-◌, ◌/◌, ◌<ℤ◌, ◌<◌, ◌||◌, ◌↔◌, ◌∙◌, ◌∷◌, ◌≡◌, ◌≢◌, ◌≤ℤ◌, ◌≤◌, ◌⊎◌}
pub use Rattle.std.proofs.Math.Nat.{mul-le-mul_right}
pub use Rattle.std.proofs.lemmas.Bool.{and_from, and_parts, cases_Bool, cases_eq, cases_lt, cases_order, cond-false, cond-true, ltb-true, or_cases, or_left, or_right}
pub use Rattle.std.proofs.lemmas.Bool.Decides.{nat_tests}
pub use Rattle.std.proofs.lemmas.Grind.{rows}
pub use Rattle.std.proofs.lemmas.Int.{ints, to_z-of_z}
pub use Rattle.std.proofs.lemmas.List.{get_or-append-add, get_or-set_other, get_or-set_same, get_or_append_left, get_or_at, get_or_default, get_or_past, length-append, length-set, with_items_is}
pub use Rattle.std.proofs.lemmas.List.FromFn.{get_or-map-range_with_len, length-map-range_with_len}
pub use Rattle.std.proofs.lemmas.List.Sums.{sum_by-set}
pub use Rattle.std.proofs.lemmas.Nat.{div-mul-add, mod-mul-add, mul-add-lt}
pub use Rattle.std.proofs.lemmas.Option.{none-some, slice_get_read}
pub use Rattle.std.specs.Int.Signed.{mag}
pub use Rattle.std.specs.List.{AllAdjacentBelow, AllPairs, list_any}
pub use Rattle.std.specs.Ordering.{int_eq}
pub use Rattle.water.specs.Drainage.{AreFilledLevels, CrossesFlat, HasLower, IsDirection, IsFirstNearer, IsFlatDistance, IsLower, IsNearer, IsSteepest, drop_by}
pub use Rattle.water.specs.FlowPath.{IsFlowPath}
pub use Rattle.water.specs.FlowSteps.{IsFollowed}
pub use Rattle.water.specs.Flows.{Drains, IsTellingAll, back_of, direction_of}
pub use Rattle.water.specs.Grid.{IsGrid, IsStepped}
pub use Rattle.water.specs.SteepestStep.{IsSteepestOf, LeadsDown, slope_in}
