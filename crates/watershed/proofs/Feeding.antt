-- The points that drain straight to a point, found one direction after another.
use Rattle.watershed.proofs.Prelude.{Contains-append_left, Contains-push, Contains-push_cases, Dir, DrainsBack, IsDirection, IsDonor, IsToldOf, IsTrue, List, Point, Some, Terrain, ℕ, ℤ, [], ap, arith, back_of, back_twice, cases_Bool, cases_eq, inl, inr, none-some, one_direction, order_below, order_of, same_order, step, step_back, subst, sym, ⊎_elim, ◌++◌, ◌+◌, ◌<◌, ◌∙◌, ◌∷◌, ◌≡◌, ◌≤◌}
use Rattle.std.specs.Prelude.{Contains, ◌↔◌, ◌⊎◌}
use Rattle.water.specs.Flows.{direction_of}
use Rattle.water.specs.declared.flow.Flow.{Flow}
use Rattle.watershed.specs.Feeding.{IsDonorAdded}

module _ (Drains : Dir → Type 0) (p : Point) (start : List Point) where
  -- the donors in the first k directions are added
  pub record AreDonorsBy (found : List Point) (k : ℕ) : Type 0 where
    pub drain : (x : Point) → Contains found x → Contains start x ⊎ ((d : Dir) × ((step d p ≡ x) × Drains d))
    pub kept : (x : Point) → Contains start x → Contains found x
    pub all : (d : Dir) → order_of d < k → Drains d → Contains found (step d p)

  pub one_more : (old new : List Point) (d : Dir) → AreDonorsBy old (order_of d) → IsDonorAdded Drains p d old new → AreDonorsBy new (order_of d + 1)
  one_more old new d by (inl added) = subst (λ l. AreDonorsBy l (order_of d + 1)) (sym added.0) (record {
    drain = λ x has. ⊎_elim (λ before. by.drain x before) (λ this. inr (d, (this, added.1))) (Contains-push_cases old (step d p) x has);
    kept = λ x has. Contains-append_left old (step d p ∷ []) x (by.kept x has);
    all = λ e below drains. elim (cases_eq (order_of e) (order_of d)) [
      | inl this ↦ subst (λ f. Contains (old ++ step d p ∷ []) (step f p)) (sym (same_order e d this)) (Contains-push old (step d p))
      | inr other ↦ Contains-append_left old (step d p ∷ []) (step e p) (by.all e (omega arith) drains)
    ];
  })
  one_more old new d by (inr left) = subst (λ l. AreDonorsBy l (order_of d + 1)) (sym left.0) (record {
    drain = by.drain;
    kept = by.kept;
    all = λ e below drains. elim (cases_eq (order_of e) (order_of d)) [
      | inl this ↦ absurd (left.1 (subst Drains (same_order e d this) drains))
      | inr other ↦ by.all e (omega arith) drains
    ];
  })

module _ (t : Terrain Point) (level : Point → ℤ) (p : Point) where
  -- the donors of a point are its neighbours in the eight directions that drain back
  pub all_donors : (start found : List Point) (k : ℕ) → 8 ≤ k → AreDonorsBy (DrainsBack t level p) p start found k → (x : Point) → Contains found x ↔ (Contains start x ⊎ IsDonor t level x p)
  all_donors start found k all by x = (
    (λ has. ⊎_elim (λ before. inl before) (λ at. inr (subst (λ q. IsDonor t level q p) at.1.0 (record { on_ground = at.1.1.0; drains = (back_of at.0, (at.1.1.1, step_back at.0 p)) }))) (by.drain x has)),
    (λ has. ⊎_elim (by.kept x) (λ (feeds : IsDonor t level x p).
        let e = feeds.drains.0 in
        let d : Dir = back_of e in
        let there : step d p ≡ x = ap (step d) (sym feeds.drains.1.1) ∙ step_back e x in
        let leads : IsDirection t level x (Some (back_of d)) = subst (λ (f : Dir). IsDirection t level x (Some f)) (sym (back_twice e)) feeds.drains.1.0 in
        subst (Contains found) there (by.all d (omega (arith, all, order_below d)) (subst (λ q. IsTrue (t.is_ground q) × IsDirection t level q (Some (back_of d))) (sym there) (feeds.on_ground, leads)))) has),
  )

  -- the neighbour in this direction drains back exactly if its flow says so
  module _ (d : Dir) (flow : Flow) (told : IsToldOf t level (step d p) flow) where
    pub back_drains : direction_of flow ≡ Some (back_of d) → DrainsBack t level p d
    back_drains back = elim (cases_Bool (t.is_ground (step d p))) [
      | inl solid ↦ (solid, subst (IsDirection t level (step d p)) back (told.on_ground solid))
      | inr off ↦ absurd (none-some (back_of d) (sym (ap direction_of (told.elsewhere.1 off)) ∙ back))
    ]

    pub drains_back : DrainsBack t level p d → direction_of flow ≡ Some (back_of d)
    drains_back drains = one_direction t level (step d p) (direction_of flow) (Some (back_of d)) (told.on_ground drains.0) drains.1
