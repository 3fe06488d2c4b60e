-- What follows from what a flow says.
use Rattle.flow_d8.proofs.Prelude.{Beside, CrossesFlat, Dir, Flat, FlatTo, Flow, IsBeside, IsDirection, IsFalse, IsFlow, IsOfFlat, IsTold, IsTrue, LiesInside, Names, NoGround, Outlet, Point, Some, Terrain, To, Unknown, ℤ, cases_Bool, inl, inr, refl, step, subst, sym, true≢false, ⊎_elim, ◌∙◌, ◌≡◌, ◌⊎◌}

pub is_known : (f : Flow) → IsOfFlat f → f ≡ Unknown → ⊥
is_known f is same = subst IsOfFlat same is

pub names_beside : (f : Flow) → IsBeside f → (d : Dir) × Names f d
names_beside (Beside d) is = (d, refl)
names_beside _ is = absurd is

pub decide_beside : (f : Flow) → IsBeside f ⊎ (IsBeside f → ⊥)
decide_beside (Beside d) = inl tt
decide_beside _ = inr (λ is. is)

module _ (t : Terrain Point) (level : Point → ℤ) (x : Point) where
  pub inside_of : (f : Flow) → IsOfFlat f → IsFlow t level x f → LiesInside t level x
  inside_of (Beside d) is so = so.0
  inside_of Flat is so = so.0
  inside_of (FlatTo d) is so = so.0
  inside_of _ is so = absurd is

  pub beside_one : (f : Flow) → IsBeside f → IsFlow t level x f → CrossesFlat t level x 1
  beside_one (Beside d) is so = so.1.0
  beside_one _ is so = absurd is

  pub one_beside : (f : Flow) → IsOfFlat f → IsFlow t level x f → CrossesFlat t level x 1 → IsBeside f
  one_beside (Beside d) is so one = tt
  one_beside Flat is so one = absurd (so.1 one)
  one_beside (FlatTo d) is so one = absurd (so.1.0 one)
  one_beside _ is so one = absurd is

  -- the known flow of a point inside a flat is that of a flat
  pub told_inside : (f : Flow) → (f ≡ Unknown → ⊥) → IsFlow t level x f → IsTrue (t.is_ground x) → (CrossesFlat t level x 0 → ⊥) → IsOfFlat f
  told_inside Unknown known so ground inside = absurd (known refl)
  told_inside NoGround known so ground inside = absurd (true≢false (sym ground ∙ so))
  told_inside Outlet known so ground inside = absurd (inside (inr so.1))
  told_inside (To d) known so ground inside = absurd (inside (inl (step d x, so.lower)))
  told_inside _ known so ground inside = tt

  pub no_outlet : LiesInside t level x → IsFalse (t.is_outlet x)
  no_outlet is = ⊎_elim (λ out. absurd (is.inside (inr out))) (λ not. not) (cases_Bool (t.is_outlet x))

  -- a flow that has a direction inside a flat satisfies `IsTold`
  pub named_told : (f : Flow) (d : Dir) → Names f d → IsFlow t level x f → LiesInside t level x → IsTold f
  named_told (To e) d is so inside = absurd (inside.inside (inl (step e x, so.lower)))
  named_told (Beside e) d is so inside = tt
  named_told (FlatTo e) d is so inside = tt
  named_told _ d is so inside = absurd is

  pub told_is : (f : Flow) → IsTold f → IsFlow t level x f → (d : Dir) × (Names f d × IsDirection t level x (Some d))
  told_is (Beside e) is so = (e, (refl, so.1.1))
  told_is (FlatTo e) is so = (e, (refl, so.1.1))
  told_is _ is so = absurd is
