-- Re-exports the names that many proofs of this crate use. Declares nothing.
pub use Rattle.labelling.specs.Blocks.{bare_block, block_of, is_marked}
pub use Rattle.labelling.specs.Labelling.{IsLabelling, NO_LABEL, Names, OUT}
pub use Rattle.labelling.specs.Passing.{AreFirsts, AreFoundBelow, AreFoundStill, AreGathered, ArePassages, IsFound, IsInOrder, IsNoPassage, IsPassage}
pub use Rattle.labelling.specs.Raising.{raised_level}
pub use Rattle.labelling.specs.Spills.{AreSpills, Meets}
pub use Rattle.labelling.specs.declared.spill.Spill.{Spill}
pub use Rattle.lattice.proofs.IntTests.{le_or_above, le_true}
pub use Rattle.lattice.proofs.Interior.{inner_if}
pub use Rattle.lattice.proofs.Lawful.{block_is_lawful, terrain_is_lawful}
pub use Rattle.lattice.proofs.Levels.{height-le_level, le-max_left, le-max_right, max-le, max_one_of, ≤ℤ_antisym, ≤ℤ_same, ≤ℤ_trans}
pub use Rattle.lattice.specs.Block.{Block, IsBlockOf, around, block_terrain, is_beside, is_exit, is_inner_outlet, is_linked, is_rim, is_sink_at, is_solid}
pub use Rattle.lattice.specs.Corners.{Corner}
pub use Rattle.lattice.specs.Ground.{is_ground, metres, terrain}
pub use Rattle.lattice.specs.Height.{height_of}
pub use Rattle.lattice.specs.Lattice.{point_of}
pub use Rattle.lattice.specs.Mosaic.{IsMosaic, Mosaic, is_present, is_void, void}
pub use Rattle.lattice.specs.Terrain.{IsFilledLevel, IsPath, LeadsOut, crest, end_of}
pub use Rattle.std.proofs.Common.{Bool, Contains, IsFalse, IsTrue, List, SFits, [], ap, ap₂, arith, cond, false, get_or, get_or-set_other, get_or-set_same, inl, inr, int_eq, int_lt, length, length-append, length-set, map, mod-lt, mul-le-mul_right, nat_eq, nat_lt, not, of_z, pos, refl, rules, set, slice_index, slice_index_or, subst, sym, to_z, to_z-of_z, true, true≢false, w16, ℕ, ℤ, ◌%◌, ◌&&◌, ◌*◌, ◌++◌, ◌+ℤ◌, ◌+◌, ◌-ℤ◌, ◌-◌, ◌/◌, ◌<ℤ◌, ◌<◌, ◌||◌, ◌∙◌, ◌∷◌, ◌≡◌, ◌≢◌, ◌≤ℤ◌, ◌≤◌, ◌⊎◌}
pub use Rattle.std.proofs.Math.ListN.{get_or-append, get_or-eq_default}
pub use Rattle.std.proofs.Math.Seq.{get_or-append_seam}
pub use Rattle.std.proofs.lemmas.Bool.{and_from, cases_Bool, cases_eq, cases_lt, cond-false, cond-true, eq-eqb, eqb-false, eqb-true, lt-ltb, ne_eqb, not-true, or_left, or_right}
pub use Rattle.std.proofs.lemmas.Bool.Decides.{Decides-int_eq, nat_tests}
pub use Rattle.std.proofs.lemmas.Int.{clamps, ints}
pub use Rattle.std.proofs.lemmas.List.{ext_get_or, get_or_default, get_or_past, length-map}
pub use Rattle.std.proofs.lemmas.List.Sums.{sum_by-set}
pub use Rattle.std.specs.Int.{int_max}
pub use Rattle.std.specs.List.{list_all}
pub use Rattle.tile_flood.specs.Affected.{AreChangesListed, IsInWindow, IsListed, StayListed}
pub use Rattle.tile_flood.specs.Carried.{AreCarried, AreRelaxed, IsCarriedBy, IsSeed}
pub use Rattle.tile_flood.specs.Cells.{AreCells, IsFresh, label_of, labels_of, level_of, levels_of}
pub use Rattle.tile_flood.specs.Flooding.{IsNear, IsOwnLabel, unmarked}
pub use Rattle.tile_flood.specs.RaisingLoop.{AreRaisedBelow}
pub use Rattle.tile_flood.specs.Sparing.{HangTogether, IsAround, IsFirstSuspect, IsRun, LeadsAround, in_round}
pub use Rattle.tile_flood.specs.Spreading.{IsFlooding, IsSeeding, IsSpreading}
pub use Rattle.tile_flood.specs.Suspects.{AreMending, IsBeginning, IsBesideWith, IsHeldBy, IsHeldUp, IsIn, IsInOr, IsMending, IsPassingOn}
pub use Rattle.tile_flood.specs.Waiting.{AreEmpty, HasBucket, IsExtended, IsJoined, IsTaken, Queue, WaitStill, Waits, bucket, waiting}
pub use Rattle.tile_flood.specs.declared.affected.Affected.{Affected}
pub use Rattle.tile_flood.specs.declared.cells.Cell.{Cell}
