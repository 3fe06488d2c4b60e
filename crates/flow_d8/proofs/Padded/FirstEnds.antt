-- Inside a flat, next to an exit: the first step to an exit is the direction.
use Rattle.std.proofs.Common.{rules}
use Rattle.flow_d8.proofs.Prelude.{CrossesFlat, Dir, IsAcross, IsDirection, IsFalse, IsFlatDistance, IsNearer, IsStepped, LeadsToEnd, Point, Some, Terrain, ℕ, ℤ, arith, cases_Bool, inl, inr, order_of, step, subst, suc, zero, ⊎_elim, ◌≡◌, ◌≤◌}
use Rattle.water.proofs.Unique.{one_distance}

module _ (t : Terrain Point) (level : Point → ℤ) (x : Point) (inside : CrossesFlat t level x 0 → ⊥) where
  pub crosses_by : (d : Dir) → LeadsToEnd t level x d → CrossesFlat t level x 1
  crosses_by d leads = (step d x, (leads.across.beside, leads.across.same_level, leads.end))

  pub leads_by : IsStepped t → CrossesFlat t level x 1 → (d : Dir) × LeadsToEnd t level x d
  leads_by is crosses =
      let way = is.steps x crosses.0 crosses.1.0 in (
        way.0,
        record {
          across = subst (IsAcross t level x) way.1 (record { beside = crosses.1.0; same_level = crosses.1.1 });
          end = subst (λ y. CrossesFlat t level y 0) way.1 crosses.1.2;
        },
      )

  one : CrossesFlat t level x 1 → IsFlatDistance t level x 1
  one crosses = record { crosses = crosses; least = least }
    where
      least : (j : ℕ) → CrossesFlat t level x j → 1 ≤ j
      least zero end = absurd (inside end)
      least (suc j) other = omega arith

  nearer_by : (d : Dir) → LeadsToEnd t level x d → IsNearer t level x (step d x)
  nearer_by d leads = search rules

  leads_if : (d e : Dir) → LeadsToEnd t level x d → IsNearer t level x (step e x) → LeadsToEnd t level x e
  leads_if d e leads near =
      let k = near.nearer.0 in
      let same : suc k ≡ 1 = one_distance t level x (suc k) 1 near.nearer.1.1 (one (crosses_by d leads)) in
      let zero_is : k ≡ 0 = omega arith in
      record {
        across = record { beside = near.beside; same_level = near.same_level };
        end = subst (CrossesFlat t level (step e x)) zero_is near.nearer.1.0.crosses;
      }

  pub first_is_direction : (d : Dir) → LeadsToEnd t level x d → ((e : Dir) → LeadsToEnd t level x e → order_of d ≤ order_of e) → IsDirection t level x (Some d)
  first_is_direction d leads first = inr (
    (λ low. inside (inl low)),
    (not_out, record { nearer = nearer_by d leads; first = λ e near. first e (leads_if d e leads near) }),
  )
    where
      not_out : IsFalse (t.is_outlet x)
      not_out = ⊎_elim (λ out. absurd (inside (inr out))) (λ not. not) (cases_Bool (t.is_outlet x))
