-- Re-exports the names that many proofs of this crate use. Declares nothing.
pub use Rattle.flow_cache.specs.FlowCaches.{AreSlotsOf, IsCacheOf, IsKnownIn, IsSparedFrom}
pub use Rattle.flow_cache.specs.LevelRanges.{AreKnownAround, AreRanges, AreRangesTo, AreSpared, AreSparedAround, IsAffected, IsByBlock, range_at, spared_of}
pub use Rattle.flow_cache.specs.Slots.{AreCovered, IsCovered, slot_ranges}
pub use Rattle.flow_cache.specs.declared.flow_cache.FlowCache.{FlowCache}
pub use Rattle.flow_cache.specs.declared.flow_cache.Slot.{Slot}
pub use Rattle.flow_d8.proofs.Padded.PaddedPlaces.{one_column, one_row}
pub use Rattle.flow_d8.proofs.Samples.Numbers.{tile_below}
pub use Rattle.flow_d8.proofs.Samples.Slots.{as_before, at_end, longer}
pub use Rattle.flow_d8.proofs.Samples.TilePlaces.{square_some}
pub use Rattle.flow_d8.specs.FlowGrids.{AreTileFlows, IsGridOf}
pub use Rattle.flow_d8.specs.Flows.{AreFlows, IsFlow}
pub use Rattle.flow_d8.specs.Padded.{ArePadded, padded_point}
pub use Rattle.flow_d8.specs.Tiles.{Tiles}
pub use Rattle.flow_d8.specs.declared.grid.FlowGrid.{FlowGrid}
pub use Rattle.lattice.proofs.IntTests.{le_or_above}
pub use Rattle.lattice.proofs.Levels.{level_is_unique}
pub use Rattle.lattice.proofs.Samples.{row_below}
pub use Rattle.lattice.specs.Corners.{Corner}
pub use Rattle.lattice.specs.Ground.{is_ground, terrain}
pub use Rattle.lattice.specs.Lattice.{point_of}
pub use Rattle.flow_d8.specs.Filled.{most_samples}
pub use Rattle.lattice.specs.Mosaic.{IsMosaic, Mosaic, void}
pub use Rattle.lattice.specs.declared.point.Point.{Point}
pub use Rattle.std.proofs.Common.{List, SFits, ap, arith, get_or, inl, inr, length, of_z, rules, set, subst, sym, to_z, w16, ℕ, ℤ, ◌%◌, ◌*◌, ◌+◌, ◌/◌, ◌<◌, ◌∙◌, ◌≡◌, ◌≤◌}
pub use Rattle.std.proofs.Math.Nat.{mul-le-mul_right}
pub use Rattle.std.proofs.lemmas.Bool.{cases_Bool, cases_eq, cases_lt, false≢true}
pub use Rattle.std.proofs.lemmas.Bool.Decides.{Decides-int_eq}
pub use Rattle.std.proofs.lemmas.Int.{clamps, ints, to_z-of_z}
pub use Rattle.std.proofs.lemmas.List.{get_or-set_other, get_or-set_same, get_or_append_left, get_or_default, get_or_past, length-set}
pub use Rattle.std.proofs.lemmas.Nat.{mul-add-lt}
pub use Rattle.std.specs.Int.{int_max, int_min}
pub use Rattle.std.specs.Ordering.{int_eq}
pub use Rattle.std.specs.Prelude.{None, if◌then◌else◌}
pub use Rattle.water.specs.Drainage.{AreFilledLevels}
pub use Rattle.water.specs.Ranges.{is_range_spared}
pub use Rattle.water.specs.declared.flow.Flow.{Flow}
pub use Rattle.water.specs.declared.flow.Flow.TheVariants.{Beside, Flat, FlatTo, NoGround, Outlet, To, Unknown}
pub use Rattle.water.specs.declared.level_range.LevelRange.{LevelRange}
