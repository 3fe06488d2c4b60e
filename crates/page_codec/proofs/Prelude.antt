-- Names that many proofs of this crate cite, re-exported here. Declares nothing.
pub use Rattle.lattice.specs.Corners.{is_corner}
pub use Rattle.lattice.specs.Limits.{IsSide}
pub use Rattle.lattice.specs.Mosaic.{AreSinks, IsHeld}
pub use Rattle.lattice.specs.declared.point.Point.{Point}
pub use Rattle.page_codec.specs.Entries.{EntryValue, IsEntry, entry_bytes}
pub use Rattle.page_codec.specs.Formats.{Format, number_of}
pub use Rattle.page_codec.specs.Headers.{Follows}
pub use Rattle.page_codec.specs.Numbers.{is_all_zero, padded}
pub use Rattle.page_codec.specs.Records.{IsRecord}
pub use Rattle.page_codec.specs.Roots.{AreInOrder, AreNumbers, EntryIsBefore, IsRoot, RootValue, format_of}
pub use Rattle.page_codec.specs.Sinks.{SinkIsBefore}
pub use Rattle.page_codec.specs.declared.damaged.Damaged.{Damaged}
pub use Rattle.page_codec.specs.declared.version.Version.{Version}
pub use Rattle.page_codec.specs.declared.version.Version.TheVariants.{One, Two}
pub use Rattle.std.proofs.Common.{List, None, Option, Some, [], ap, append_assoc, arith, drop, length, refl, rules, subst, sym, take, true, ℕ, ℤ, ◌*◌, ◌++◌, ◌+◌, ◌<◌, ◌^◌, ◌∙◌, ◌∷◌, ◌≡◌, ◌≤◌}
pub use Rattle.std.proofs.Math.Seq.{drop-append_seam, take-append_seam}
pub use Rattle.std.proofs.lemmas.Bool.{and_parts}
pub use Rattle.std.proofs.lemmas.Int.{ints, to_z-of_z}
pub use Rattle.std.proofs.lemmas.List.{append-nil, length-append, length-take, length_push, take-append-drop, take_all}
pub use Rattle.std.proofs.lemmas.List.Elements.{All-push}
pub use Rattle.std.specs.Int.{w16, w32}
pub use Rattle.std.specs.Int.RustNames.{FitsSigned}
pub use Rattle.std.specs.List.{AllAdjacentBelow, AllByRecursion, flat_map}
pub use Rattle.std.specs.Option.{ok_or}
pub use Rattle.std.specs.Prelude.{All}
