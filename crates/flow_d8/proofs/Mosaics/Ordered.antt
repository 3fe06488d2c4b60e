-- If two terrains have the same outlets in a region, and the same steps down and across from there, water drains alike from
-- there.
use Rattle.std.proofs.Common.{rules}
use Rattle.flow_d8.proofs.Prelude.{CrossesFlat, HasLower, IsAcross, IsDirection, IsFirstNearer, IsFlatDistance, IsFlow, IsLower, IsNearer, IsSteepest, LiesInside, None, Option, Some, ℕ, ℤ, ap₂, drop_by, inl, inr, nat_abs, suc, sym, zero, ⊎_elim, ◌-ℤ◌, ◌∙◌, ◌≡◌}
use Rattle.lattice.specs.declared.point.Point.{Point}
use Rattle.lattice.specs.declared.direction.Dir.{Dir}
use Rattle.lattice.specs.Steps.{step}
use Rattle.lattice.specs.Terrain.{Terrain}
use Rattle.water.specs.declared.flow.Flow.{Flow}
use Rattle.water.specs.declared.flow.Flow.TheVariants.{Unknown, NoGround, Outlet, To, Beside, Flat, FlatTo}

module _ (In : Point → Type 0) where
  pub record AreInOrder (t u : Terrain Point) (k l : Point → ℤ) : Type 0 where
    pub outlet : (x : Point) → In x → t.is_outlet x ≡ u.is_outlet x
    pub lower : (x y : Point) → In x → IsLower t k x y → IsLower u l x y
    pub higher : (x y : Point) → In x → IsLower u l x y → IsLower t k x y
    pub across : (x y : Point) → In x → IsAcross t k x y → IsAcross u l x y × In y
    pub back : (x y : Point) → In x → IsAcross u l x y → IsAcross t k x y × In y

  other_way : (t u : Terrain Point) (k l : Point → ℤ) → AreInOrder t u k l → AreInOrder u t l k
  other_way t u k l is = record { outlet = λ x here. sym (is.outlet x here); lower = is.higher; higher = is.lower; across = is.back; back = is.across }

  has_lower : (t u : Terrain Point) (k l : Point → ℤ) → AreInOrder t u k l → (x : Point) → In x → HasLower t k x → HasLower u l x
  has_lower t u k l is x here low = (low.0, is.lower x low.0 here low.1)

  crosses_too : (t u : Terrain Point) (k l : Point → ℤ) → AreInOrder t u k l → (j : ℕ) (x : Point) → In x → CrossesFlat t k x j → CrossesFlat u l x j
  crosses_too t u k l is zero x here crosses = ⊎_elim (λ low. inl (has_lower t u k l is x here low)) (λ out. inr (sym (is.outlet x here) ∙ out)) crosses
  crosses_too t u k l is (suc j) x here crosses =
      let next = is.across x crosses.0 here (record { beside = crosses.1.0; same_level = crosses.1.1 }) in
      (crosses.0, (next.0.beside, next.0.same_level, crosses_too t u k l is j crosses.0 next.1 crosses.1.2))

  distance_too : (t u : Terrain Point) (k l : Point → ℤ) → AreInOrder t u k l → (x : Point) (j : ℕ) → In x → IsFlatDistance t k x j → IsFlatDistance u l x j
  distance_too t u k l is x j here dist = record {
    crosses = crosses_too t u k l is j x here dist.crosses;
    least = λ i crosses. dist.least i (crosses_too u t l k (other_way t u k l is) i x here crosses);
  }

  nearer_too : (t u : Terrain Point) (k l : Point → ℤ) → AreInOrder t u k l → (x y : Point) → In x → IsNearer t k x y → IsNearer u l x y
  nearer_too t u k l is x y here near =
      let next = is.across x y here (record { beside = near.beside; same_level = near.same_level }) in
      record {
        beside = next.0.beside;
        same_level = next.0.same_level;
        nearer = (near.nearer.0, (distance_too t u k l is y near.nearer.0 next.1 near.nearer.1.0, distance_too t u k l is x (suc near.nearer.0) here near.nearer.1.1));
      }

  first_too : (t u : Terrain Point) (k l : Point → ℤ) → AreInOrder t u k l → (x : Point) (d : Dir) → In x → IsFirstNearer t k x d → IsFirstNearer u l x d
  first_too t u k l is x d here near = record {
    nearer = nearer_too t u k l is x (step d x) here near.nearer;
    first = λ e other. near.first e (nearer_too u t l k (other_way t u k l is) x (step e x) here other);
  }

  -- steps down are the same if the point and its lower neighbours keep their levels
  module _ (t u : Terrain Point) (k l : Point → ℤ) (is : AreInOrder t u k l) (x : Point) (here : In x) (same : l x ≡ k x) (around : (y : Point) → IsLower t k x y → l y ≡ k y) where
    same_drop : (d : Dir) → IsLower t k x (step d x) → drop_by t k x d ≡ drop_by u l x d
    same_drop d low = ap₂ (λ a b. nat_abs (a -ℤ b)) (sym same) (sym (around (step d x) low))

    steepest_on : (d : Dir) → IsSteepest t k x d → IsSteepest u l x d
    steepest_on d steep = search rules

    inside_too : u.is_ground x ≡ t.is_ground x → LiesInside t k x → LiesInside u l x
    inside_too ground lies = record { ground = ground ∙ lies.ground; inside = λ ends. lies.inside (crosses_too u t l k (other_way t u k l is) 0 x here ends) }

    direction_too : (d : Option Dir) → IsDirection t k x d → IsDirection u l x d
    direction_too None drains = ((λ low. drains.0 (has_lower u t l k (other_way t u k l is) x here low)), sym (is.outlet x here) ∙ drains.1)
    direction_too (Some d) (inl steep) = inl (steepest_on d steep)
    direction_too (Some d) (inr flat) = inr ((λ low. flat.0 (has_lower u t l k (other_way t u k l is) x here low)), (sym (is.outlet x here) ∙ flat.1.0, first_too t u k l is x d here flat.1.1))

    -- a flow that is right for the first terrain is right for the second
    pub flow_too : (ground : u.is_ground x ≡ t.is_ground x) (f : Flow) → IsFlow t k x f → IsFlow u l x f
    flow_too ground Unknown so = tt
    flow_too ground NoGround so = ground ∙ so
    flow_too ground Outlet so = direction_too None so
    flow_too ground (To d) so = steepest_on d so
    flow_too ground (Beside d) so = (inside_too ground so.0, (crosses_too t u k l is 1 x here so.1.0, direction_too (Some d) so.1.1))
    flow_too ground Flat so = (inside_too ground so.0, λ one. so.1 (crosses_too u t l k (other_way t u k l is) 1 x here one))
    flow_too ground (FlatTo d) so = (inside_too ground so.0, ((λ one. so.1.0 (crosses_too u t l k (other_way t u k l is) 1 x here one)), direction_too (Some d) so.1.1))
