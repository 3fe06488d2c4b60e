-- Numbers of rim points, and the heights of a block.
use Rattle.std.proofs.Common.{rules}
use Rattle.std.proofs.Common.{◌≡◌, ◌≢◌, ℕ, ◌+◌, ◌*◌, ◌-◌, ◌/◌, ◌%◌, ◌<◌, ◌≤◌, inl, inr, ℤ, ◌≤ℤ◌, Bool, true, false, cond, IsTrue, IsFalse, List, [], ◌∷◌, ◌++◌, length, length-append, get_or, slice_index, refl, sym, ap, ◌∙◌, subst, arith, true≢false, nat_eq, Some, None}
use Rattle.lattice.specs.Corners.{Corner}
use Rattle.std.proofs.lemmas.Bool.Decides.{Decides-int_eq}
use Rattle.lattice.specs.Terrain.{IsFilledLevel, IsPath, crest, end_of}
use Rattle.labelling.specs.Labelling.{IsLabelling, NO_LABEL, OUT}
use Rattle.lattice.specs.Mosaic.{IsMosaic, Mosaic, is_present, is_void, void}
use Rattle.labelling.specs.Blocks.{bare_block, block_of}
use Rattle.lattice.proofs.Lawful.{block_is_lawful, terrain_is_lawful}
use Rattle.lattice.specs.Block.{block_terrain, is_exit, is_inner_outlet, is_rim, is_solid}
use Rattle.std.proofs.lemmas.Bool.{cases_Bool, cases_lt, cond-false, cond-true, eq-eqb, ne_eqb}
use Rattle.std.proofs.Math.ListN.{get_or-append, get_or-eq_default}
use Rattle.std.proofs.Math.Seq.{get_or-append_seam}
use Rattle.lattice.proofs.Levels.{height-le_level, ≤ℤ_antisym, ≤ℤ_same}
use Rattle.lattice.specs.Height.{height_of}
use Rattle.lattice.proofs.Interior.{inner_if}
use Rattle.std.specs.Int.{int_max}
use Rattle.lattice.specs.Ground.{is_ground, metres, terrain}
use Rattle.lattice.specs.Lattice.{point_of}
use Rattle.labelling.specs.Raising.{raised_level}
use Rattle.lattice.specs.Block.{AreHeightsOf, IsBlockOf, rim_number}
use Rattle.lattice.specs.Limits.{largest_side}
use Rattle.lattice.proofs.SampleRange.{metres_are_sample}
use Rattle.lattice.proofs.RimNumbers.{number_below}

-- a rim point's number is below four times the side less one
pub rim_number_below : (n e : ℕ) → 3 ≤ n → e < n * n → rim_number n e < 4 * (n - 1)
rim_number_below n e side small = elim (cases_Bool (is_rim n e)) [
  | inl rim ↦ number_below n (rim_number n e) e side (record { small = small; rim = rim; number = refl })
  | inr off ↦
      let inner = inner_if n e side small off in
      let last : ℕ = n + 2 * (n - 2) + e % n in
      let middle : ℕ = n + 2 * (e / n - 1) + cond (nat_eq (e % n) 0) 0 1 in
      let one : cond (nat_eq (e % n) 0) 0 1 ≤ 1 = at_most_one (nat_eq (e % n) 0) in
      subst (λ v. v < 4 * (n - 1)) (sym (cond-false (nat_eq (e / n) 0) e (cond (nat_eq (e / n + 1) n) last middle) (ne_eqb (e / n) 0 (λ h. absurd (omega arith)))
      ∙ cond-false (nat_eq (e / n + 1) n) last middle (ne_eqb (e / n + 1) n (λ h. absurd (omega arith))))) (omega arith)
]
  where
    at_most_one : (b : Bool) → cond b 0 1 ≤ 1
    at_most_one true = omega arith
    at_most_one false = omega arith

-- the heights of a block fit into 16 bits
module _ (m : Mosaic) (is : IsMosaic m) (c : Corner) (heights : List ℤ) (of : AreHeightsOf m c heights) where
  pub lowest_height : (e : ℕ) → void ≤ℤ get_or heights e void
  lowest_height e = elim (cases_lt e (length heights)) [
    | inl inside ↦ subst (λ v. void ≤ℤ v) (sym (of.values e (subst (λ k. e < k) of.whole inside))) (metres_are_sample m (point_of m.side c e) is).0
    | inr beyond ↦ subst (λ v. void ≤ℤ v) (sym (get_or-eq_default heights void beyond)) (≤ℤ_same void)
  ]
