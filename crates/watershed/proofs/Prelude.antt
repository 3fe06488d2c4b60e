-- Re-exports the names that many proofs of this crate use. Declares nothing.
pub use Rattle.lattice.proofs.IntTests.{lt_false, lt_true}
pub use Rattle.lattice.proofs.Lawful.{terrain_is_lawful}
pub use Rattle.lattice.proofs.Levels.{≤ℤ_antisym, ≤ℤ_same}
pub use Rattle.lattice.proofs.SamePoints.{same_place}
pub use Rattle.lattice.specs.Ground.{is_ground, terrain}
pub use Rattle.lattice.specs.Lattice.{point_of}
pub use Rattle.lattice.specs.Mosaic.{Mosaic}
pub use Rattle.lattice.specs.Steps.{directions, order_of, step}
pub use Rattle.lattice.specs.Terrain.{IsLawful, Terrain}
pub use Rattle.lattice.specs.declared.direction.Dir.{Dir}
pub use Rattle.lattice.specs.declared.direction.Dir.TheVariants.{East}
pub use Rattle.lattice.specs.declared.point.Point.{Point}
pub use Rattle.std.proofs.Common.{Bool, IsFalse, IsTrue, List, Option, Some, [], ap, ap₂, arith, false, get_or, get_or-set_other, get_or-set_same, inl, inr, length, length-append, length-set, pos, refl, rules, set, subst, suc, sym, true, true≢false, vec_len, zero, ℕ, ℤ, ⊎_elim, ◌%◌, ◌*◌, ◌++◌, ◌+ℤ◌, ◌+◌, ◌-◌, ◌/◌, ◌<ℤ◌, ◌<◌, ◌^◌, ◌↔◌, ◌∙◌, ◌∷◌, ◌≡◌, ◌≢◌, ◌≤ℤ◌, ◌≤◌, ◌⊎◌}
pub use Rattle.std.proofs.Math.Seq.{get_or-append_seam}
pub use Rattle.std.proofs.lemmas.Bool.{cases_Bool, cases_eq, cases_lt, cond-false}
pub use Rattle.std.proofs.lemmas.Int.{ints}
pub use Rattle.std.proofs.lemmas.List.{get_or_append_left, get_or_default, nil_from_length}
pub use Rattle.std.proofs.lemmas.List.Elements.{Contains-append_left, Contains-push, Contains-push_cases}
pub use Rattle.std.proofs.lemmas.Option.{none-some}
pub use Rattle.std.proofs.lemmas.Result.{IfOk-weaker}
pub use Rattle.std.specs.BTreeMap.{is_at}
pub use Rattle.std.specs.Int.{bit_at}
pub use Rattle.std.specs.List.{AllAdjacentBelow, AllPairs}
pub use Rattle.std.specs.Option.{option_to_list}
pub use Rattle.std.specs.Ordering.{nat_cmp}
pub use Rattle.std.specs.Prelude.{Contains, MatchOption, int_lt}
pub use Rattle.water.proofs.Compass.{order_at, order_below, same_order}
pub use Rattle.water.proofs.Fitting.{ground_fits}
pub use Rattle.water.proofs.Following.{drains_to_ground}
pub use Rattle.water.proofs.StepBack.{back_twice, step_back}
pub use Rattle.water.proofs.Unique.{one_direction}
pub use Rattle.water.specs.Counts.{IsCountOf}
pub use Rattle.water.specs.Donors.{AreToldBy, DrainsBack, IsDonor}
pub use Rattle.water.specs.Drainage.{AreFilledLevels, IsDirection}
pub use Rattle.water.specs.FlowPath.{FlowsTo, IsFlowPath, IsInWatershed}
pub use Rattle.water.specs.FlowSource.{IsToldOf}
pub use Rattle.water.specs.Flows.{back_of}
pub use Rattle.water.specs.Runs.{AreRuns, Cover, IsAfter, IsBefore, IsInRun}
pub use Rattle.water.specs.declared.run.Run.{Run}
pub use Rattle.watershed.specs.Counting.{AreCounted, AreStillCounted, IsCounted, IsThrough, IsTour}
pub use Rattle.watershed.specs.Marks.{IsInSegment, IsInWord, IsIndexed, IsMarked, IsRank, place_of, word_in, word_of}
pub use Rattle.watershed.specs.declared.counting.Branch.{Branch}
pub use Rattle.watershed.specs.declared.marks.Marks.{Marks}
