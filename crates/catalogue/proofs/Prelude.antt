-- Names that many proofs of this crate cite, re-exported here. Declares nothing.
pub use Rattle.catalogue.specs.Elsewhere.{is_held_elsewhere}
pub use Rattle.catalogue.specs.Readers.{OnlyReads, reads_of}
pub use Rattle.catalogue.specs.Reading.{AreSamplesOf, IsSampleOf, MayRefuse}
pub use Rattle.catalogue.specs.SeamCounting.{corners_before, is_first, is_own_seam, own_seams_below, present_holders, seams_before}
pub use Rattle.catalogue.specs.SeamRule.{sample_in}
pub use Rattle.catalogue.specs.Seams.{IsSeamCount}
pub use Rattle.catalogue.specs.Tables.{with_sample, with_sample_in}
pub use Rattle.catalogue.specs.Tiles.{added, corners_of, is_listed, with_tile, without}
pub use Rattle.catalogue.specs.declared.samples.Samples.{Ghosts}
pub use Rattle.lattice.proofs.BoolTests.{same_tests}
pub use Rattle.lattice.proofs.CornerOrder.{after_from, after_not_same, before_apart, before_not_back, same_comm, same_from, same_says}
pub use Rattle.lattice.proofs.Interior.{inner_only}
pub use Rattle.lattice.proofs.RimNumbers.{number_below, one_index, rim_index_is}
pub use Rattle.lattice.proofs.Rising.{Adjacent, AllAfter, Rising, adjacent_from, after_later, rising-filter, rising_from}
pub use Rattle.lattice.proofs.Samples.{held_at, holds_is, index_is, point_of_held}
pub use Rattle.lattice.specs.Block.{AreHeightsOf, is_rim, rim_number}
pub use Rattle.lattice.specs.Corners.{Corner, is_before, is_corner, same_corner}
pub use Rattle.lattice.specs.Ground.{degree_of, is_adjacent, is_ground, is_height, is_near, metres, same_point, share_tile}
pub use Rattle.lattice.specs.Height.{by_seam_rule, differ, disagrees, height_of, sample_at}
pub use Rattle.lattice.specs.Lattice.{Holds, IsIndexOf, holds, index_of, point_of}
pub use Rattle.lattice.specs.Mosaic.{IsMosaic, IsSample, IsTile, Mosaic, Tile, is_present, samples_among, samples_of, void}
pub use Rattle.lattice.specs.RimPoints.{IsRimPoint, rim_index}
pub use Rattle.lattice.specs.Steps.{directions, step}
pub use Rattle.lattice.specs.declared.direction.Dir.{Dir}
pub use Rattle.lattice.specs.declared.direction.Step.{Step}
pub use Rattle.lattice.specs.declared.height.Height.{Height}
pub use Rattle.lattice.specs.declared.height.Height.TheVariants.{Outside}
pub use Rattle.lattice.specs.declared.point.Point.{Point}
pub use Rattle.lattice.specs.declared.refusal.Refusal.{Refusal}
pub use Rattle.lattice.specs.declared.refusal.Refusal.TheVariants.{Damaged, Device, Failed}
pub use Rattle.std.proofs.Common.{Bool, Err, IsFalse, IsTrue, List, Ok, Result, [], add-zero, ap, ap₂, arith, cond, drop, false, get_or, inl, inr, length, map, negsuc, not, pos, refl, rules, subst, suc, sym, take, true, zero, ℕ, ℤ, ◌&&◌, ◌*ℤ◌, ◌*◌, ◌++◌, ◌+ℤ◌, ◌+◌, ◌-◌, ◌<◌, ◌||◌, ◌↔◌, ◌∙◌, ◌∷◌, ◌≡◌, ◌≤ℤ◌, ◌≤◌}
pub use Rattle.std.proofs.lemmas.Bool.{and_from, and_parts, cases_Bool, cases_eq, cond-false, false_from_ne_true, false≢true, or_left, or_parts, or_right}
pub use Rattle.std.proofs.lemmas.Int.{by_lt_z, ints, to_z-of_z}
pub use Rattle.std.proofs.lemmas.List.{get_or_read, length-set}
pub use Rattle.std.proofs.lemmas.List.Elements.{All-contains, All-head, All-tail}
pub use Rattle.std.proofs.lemmas.Option.{get_or_from_slice_get}
pub use Rattle.std.proofs.lemmas.Result.{err_from_is_err_and}
pub use Rattle.std.specs.Global.{Vec}
pub use Rattle.std.specs.List.{filter, filter_map, list_any}
pub use Rattle.std.specs.Map.{keys_of}
pub use Rattle.std.specs.Prelude.{All, Contains, IfErr, IsSomeAnd, None, Option, Some, count_by, int_le, is_some, nat_lt, option_map, slice_get, slice_index_or, slice_range, slice_set}
