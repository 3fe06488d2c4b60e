-- Names that many proofs of this crate cite, re-exported here. Declares nothing.
pub use Rattle.arrayvec.specs.ArrayVec.{ArrayVec, array_vec_len}
pub use Rattle.catalogue.proofs.OneTile.{corners_are}
pub use Rattle.catalogue.proofs.Presence.{present_iff}
pub use Rattle.catalogue.proofs.Reading.{reads_nothing, reads_on}
pub use Rattle.catalogue.specs.Readers.{OnlyReads}
pub use Rattle.catalogue.specs.Tables.{AreCorners, with_sample}
pub use Rattle.catalogue.specs.Tiles.{added, corners_of, is_listed, with_sinks, with_tile, without}
pub use Rattle.catalogue.specs.declared.samples.Samples.{Ghosts}
pub use Rattle.edits.specs.Boxes.{filled, is_among, is_void_among}
pub use Rattle.edits.specs.Changes.{CanBeSet, SetOnce, Sets}
pub use Rattle.edits.specs.Edits.{AreEarlier, edit_made, points_of, with_height, with_heights}
pub use Rattle.edits.specs.Effect.{burnt, changed_from, edited, effect, fault_at, first_fault, has_void, has_void_from, is_box, is_depth, is_height, is_in_box, is_named, is_repeated, is_void_at, is_void_height, patched, unless_fault, walled}
pub use Rattle.edits.specs.Places.{ArePlaces, IsPlace}
pub use Rattle.edits.specs.Plans.{AreSetOnce}
pub use Rattle.edits.specs.PointEdits.{depth_of, edit_points, edited_metres, refuses}
pub use Rattle.edits.specs.Sinks.{sunk, sunk_at, unsunk, with_point, without_point}
pub use Rattle.edits.specs.Touched.{are_neighbours, goes_stale, holds_one, is_near_one}
pub use Rattle.edits.specs.declared.change.Change.{Change}
pub use Rattle.edits.specs.declared.command.Command.{Command}
pub use Rattle.edits.specs.declared.command.Command.TheVariants.{Burn, Import, Patch, Remove, Sink, Unsink, Wall}
pub use Rattle.edits.specs.declared.edit.Edit.{Edit}
pub use Rattle.edits.specs.declared.edit.NewHeight.{NewHeight}
pub use Rattle.edits.specs.declared.places.Place.{Place}
pub use Rattle.edits.specs.declared.point_edit.PointEdit.{PointEdit}
pub use Rattle.edits.specs.declared.point_edit.PointEdit.TheVariants.{Lower, Raise}
pub use Rattle.hgt.specs.Bytes.{samples_in}
pub use Rattle.lattice.proofs.CornerOrder.{same_comm, same_from, same_says}
pub use Rattle.lattice.proofs.Rising.{AllAfter, Rising, adjacent_from, rising-filter, rising_from}
pub use Rattle.lattice.proofs.SamePoints.{same_point_from, same_point_says}
pub use Rattle.lattice.proofs.Samples.{holds_is, point_of_held, point_of_index}
pub use Rattle.lattice.specs.Corners.{Corner, is_before, is_corner, same_corner}
pub use Rattle.lattice.specs.Ground.{is_sink, metres, same_point}
pub use Rattle.lattice.specs.Height.{by_seam_rule, height_of, sample_at}
pub use Rattle.lattice.specs.Lattice.{Holds, holds, index_of, point_of}
pub use Rattle.lattice.specs.Limits.{most_sinks}
pub use Rattle.lattice.specs.Mosaic.{AreSinks, IsHeld, IsMosaic, IsTile, Mosaic, Tile, is_present, void}
pub use Rattle.lattice.specs.Points.{is_point_before}
pub use Rattle.lattice.specs.declared.height.Height.{Height}
pub use Rattle.lattice.specs.declared.point.Point.{Point}
pub use Rattle.lattice.specs.declared.refusal.Refusal.{Refusal}
pub use Rattle.lattice.specs.declared.refusal.Refusal.TheVariants.{BadBox, BadDepth, BadHeight, BadLength, Full, NoSink, NoTile, NothingVoid, Repeated, TileThere, TooDeep}
pub use Rattle.std.proofs.Common.{Bool, IsTrue, List, [], add-zero, ap, ap₂, arith, cond, drop, false, get_or, inl, inr, length, length-append, map, nat_abs, nat_eq, negsuc, not, of_z, pos, refl, rules, subst, suc, sym, take, to_z, true, zero, zero-add, ℕ, ℤ, ◌&&◌, ◌*◌, ◌++◌, ◌+ℤ◌, ◌+◌, ◌-ℤ◌, ◌/◌, ◌<◌, ◌||◌, ◌↔◌, ◌∙◌, ◌∷◌, ◌≡◌, ◌≢◌, ◌≤◌, ◌⊎◌}
pub use Rattle.std.proofs.Math.Bool.{and-false, and-true, or-false}
pub use Rattle.std.proofs.lemmas.Bool.{and_from, and_left, and_parts, and_right, both_ways, cases_eq, eqb-true, false_from_ne_true, false≢true, lt-ltb, ltb-true, or_cases, or_left, or_parts, or_right}
pub use Rattle.std.proofs.lemmas.Int.{ints, to_z-of_z}
pub use Rattle.std.proofs.lemmas.List.{at_drop_all, at_drop_more, get_or-map, length-map, map-append, take_all, take_more}
pub use Rattle.std.proofs.lemmas.List.Elements.{All-cons, All-contains, All-head, All-map, All-nil, All-push, All-tail, All-weaker, Contains-append_left, Contains-get_or, Contains-push, Contains-push_cases}
pub use Rattle.std.proofs.lemmas.List.Folds.{list_any-append}
pub use Rattle.std.proofs.lemmas.List.Quantifiers.{all_pairs_push}
pub use Rattle.std.proofs.lemmas.Nat.{div_below}
pub use Rattle.std.proofs.lemmas.Result.{IfOk-weaker, err_from_is_err_and}
pub use Rattle.std.specs.Int.{int_max}
pub use Rattle.std.specs.List.{All, AllPairs, Contains, filter, list_any}
pub use Rattle.std.specs.Prelude.{Err, IfOk, IsFalse, None, Ok, Option, Result, Some, if◌then◌else◌, int_le, int_lt, nat_lt}
