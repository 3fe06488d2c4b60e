-- A point has at most one flat distance and at most one direction.
use Rattle.std.proofs.Common.{rules}
use Rattle.lattice.specs.declared.direction.Dir.{Dir}
use Rattle.water.specs.Drainage.{IsDirection, IsFirstNearer, IsFlatDistance, IsSteepest}
use Rattle.std.proofs.Common.{None, Option, Some, ℕ, ℤ, ap, arith, inl, inr, refl, sym, true≢false, ⊎_elim, ◌<◌, ◌∙◌, ◌≡◌}
use Rattle.lattice.specs.declared.point.Point.{Point}
use Rattle.lattice.specs.Terrain.{Terrain}
use Rattle.std.proofs.lemmas.Bool.{cases_order}
use Rattle.lattice.specs.Steps.{order_of, step}
use Rattle.water.proofs.Compass.{same_order}

module _ (t : Terrain Point) (level : Point → ℤ) where
  pub one_distance : (x : Point) (j k : ℕ) → IsFlatDistance t level x j → IsFlatDistance t level x k → j ≡ k
  one_distance x j k hj hk = omega (arith, hj.least k hk.crosses, hk.least j hj.crosses)

  -- the later of two steepest steps would be steeper than the earlier one
  not_both : (x : Point) (d e : Dir) → IsSteepest t level x d → IsSteepest t level x e → order_of d < order_of e → ⊥
  not_both x d e hd he before = true≢false (sym (he.first d hd.lower before) ∙ hd.steepest e he.lower)

  one_steepest : (x : Point) (d e : Dir) → IsSteepest t level x d → IsSteepest t level x e → d ≡ e
  one_steepest x d e hd he = search rules

  one_first : (x : Point) (d e : Dir) → IsFirstNearer t level x d → IsFirstNearer t level x e → d ≡ e
  one_first x d e hd he = same_order d e (omega (arith, hd.first e he.nearer, he.first d hd.nearer))

  pub one_direction : (x : Point) (a b : Option Dir) → IsDirection t level x a → IsDirection t level x b → a ≡ b
  one_direction x None None ha hb = refl
  one_direction x None (Some e) ha (inl steep) = absurd (ha.0 (step e x, steep.lower))
  one_direction x None (Some e) ha (inr flat) = absurd (true≢false (sym ha.1 ∙ flat.1.0))
  one_direction x (Some d) None (inl steep) hb = absurd (hb.0 (step d x, steep.lower))
  one_direction x (Some d) None (inr flat) hb = absurd (true≢false (sym hb.1 ∙ flat.1.0))
  one_direction x (Some d) (Some e) (inl hd) (inl he) = ap Some (one_steepest x d e hd he)
  one_direction x (Some d) (Some e) (inl hd) (inr he) = absurd (he.0 (step d x, hd.lower))
  one_direction x (Some d) (Some e) (inr hd) (inl he) = absurd (hd.0 (step e x, he.lower))
  one_direction x (Some d) (Some e) (inr hd) (inr he) = ap Some (one_first x d e hd.1.1 he.1.1)
