-- Names that many proofs of this crate cite, re-exported here. Declares nothing.
pub use Rattle.arrayvec.specs.ArrayVec.{ArrayVec, array_vec_len}
pub use Rattle.lattice.specs.Block.{is_rim}
pub use Rattle.lattice.specs.Corners.{Corner, is_before, is_corner}
pub use Rattle.lattice.specs.Degrees.{corner_at}
pub use Rattle.lattice.specs.Ground.{is_ground, same_point, terrain}
pub use Rattle.lattice.specs.Height.{by_seam_rule, sample_at}
pub use Rattle.lattice.specs.Lattice.{Holds, IsBefore, IsIndexOf, IsSampleAt, holds, index_of, is_along, point_of}
pub use Rattle.lattice.specs.Mosaic.{IsMosaic, IsSample, IsTile, Mosaic, Tile}
pub use Rattle.lattice.specs.RimPoints.{IsRimPoint}
pub use Rattle.lattice.specs.SinkIndices.{sinks_in}
pub use Rattle.lattice.specs.Stepping.{reach_of}
pub use Rattle.lattice.specs.Steps.{directions, step}
pub use Rattle.lattice.specs.Terrain.{IsFilledLevel, IsLawful, LeadsOut, Terrain, crest}
pub use Rattle.lattice.specs.declared.direction.Step.{Step}
pub use Rattle.lattice.specs.declared.point.Point.{Point}
pub use Rattle.std.proofs.Common.{Bool, IsTrue, List, SFits, [], add-one, ap, append_assoc, ap₂, arith, cond, drop, drop-cons, false, get_or, inl, inr, int_lt, length, map, nat_abs, nat_eq, negsuc, not, of_z, pos, refl, rules, subst, suc, sym, to_z, true, true≢false, w16, w32, w64, zero, ℕ, ℤ, ⊎_elim, ◌%◌, ◌&&◌, ◌*ℤ◌, ◌*◌, ◌++◌, ◌+ℤ◌, ◌+◌, ◌-ℤ◌, ◌-◌, ◌/◌, ◌<ℤ◌, ◌<◌, ◌||◌, ◌↔◌, ◌∙◌, ◌∷◌, ◌≡◌, ◌≢◌, ◌≤ℤ◌, ◌≤◌, ◌⊎◌}
pub use Rattle.std.proofs.Math.Nat.{mul-le-mul_left}
pub use Rattle.std.proofs.lemmas.Bool.{and_from, and_parts, cases_Bool, cases_eq, cases_lt, cond-false, cond-true, eq-eqb, eqb-true, false_from_ne_true, false≢true, lt-ltb, or_cases, or_left, or_right}
pub use Rattle.std.proofs.lemmas.Bool.Decides.{Decides-int_eq}
pub use Rattle.std.proofs.lemmas.Int.{by_lt_z, ints, to_z-of_z}
pub use Rattle.std.proofs.lemmas.Nat.{div-mul-add, mod-mul-add, mul-add-lt}
pub use Rattle.std.specs.Int.{int_max}
pub use Rattle.std.specs.List.{AllAdjacentBelow, Contains, filter, list_any}
pub use Rattle.std.specs.Ordering.{int_eq}
pub use Rattle.std.specs.Prelude.{int_le}
