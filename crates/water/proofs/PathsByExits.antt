-- Flow paths from owner to owner. A path to a point leads within an owner to an exit, and by a step into another owner. In
-- the end it leads within the point's own owner. The law is for any flows and any owners.
use Rattle.std.proofs.Common.{Bool, IsFalse, IsTrue, List, [], ℕ, zero, suc, ℤ, arith, inl, inr, refl, subst, sym, ◌∷◌, ◌++◌, ◌≡◌}
use Rattle.lattice.specs.declared.point.Point.{Point}
use Rattle.lattice.specs.Steps.{step}
use Rattle.lattice.specs.Terrain.{Terrain}
use Rattle.water.specs.FlowPath.{FlowsTo}
use Rattle.water.specs.PartLaws.{DrainsTo}
use Rattle.std.proofs.lemmas.Bool.{cases_Bool}
use Rattle.water.specs.Parts.{IsPathTo, IsPathWithin, Crossing, Crosses}

module _ {P : Type 0} (Flows : P → P → Type 0) (is_one_owner : P → P → Bool) where
  abbrev PathTo : P → P → List P → Type 0
  PathTo = IsPathTo Flows is_one_owner

  abbrev PathWithin : P → P → List P → Type 0
  PathWithin = IsPathWithin Flows is_one_owner

  abbrev ByExits : P → P → List (Crossing P) → Type 0
  ByExits = Crosses Flows is_one_owner

  -- a path over exits, with one more point of the same owner before its start
  before : (end x y : P) (crossings : List (Crossing P)) → Flows x y → IsTrue (is_one_owner x y) → ByExits end y crossings → ByExits end x crossings
  before end x y [] flows one on = (y ∷ on.0, (flows, (one, on.1)))
  before end x y (c ∷ more) flows one on = ((y ∷ on.0.0, (flows, (one, on.0.1))), on.1)

  -- each flow path leads over exits
  pub by_exits : (end x : P) (rest : List P) → PathTo end x rest → (crossings : List (Crossing P)) × ByExits end x crossings
  by_exits end x [] here = ([], ([], here))
  by_exits end x (y ∷ rest) path =
      let on = by_exits end y rest path.1 in
      elim (cases_Bool (is_one_owner x y)) [
        | inl one ↦ (on.0, before end x y on.0 path.0 one on.1)
        | inr other ↦ (record { exit = x; entry = y } ∷ on.0, (([], refl), (path.0, (other, on.1))))
      ]

  -- a path over exits is a flow path
  path_on : (end x z : P) (rest further : List P) → PathWithin z x rest → PathTo end z further → PathTo end x (rest ++ further)
  path_on end x z [] further here on = subst (λ v. PathTo end v further) (sym here) on
  path_on end x z (y ∷ rest) further path on = (path.0, path_on end y z rest further path.1.1 on)

  within : (end x : P) (rest : List P) → PathWithin end x rest → PathTo end x rest
  within end x [] here = here
  within end x (y ∷ rest) path = (path.0, within end y rest path.1.1)

  pub by_path : (end x : P) (crossings : List (Crossing P)) → ByExits end x crossings → (rest : List P) × PathTo end x rest
  by_path end x [] on = (on.0, within end x on.0 on.1)
  by_path end x (c ∷ more) on =
      let further = by_path end c.entry more on.1.1.1 in
      let step : PathTo end c.exit (c.entry ∷ further.0) = (on.1.0, further.1) in
      (on.0.0 ++ (c.entry ∷ further.0), path_on end x c.exit on.0.0 (c.entry ∷ further.0) on.0.1 step)

-- The flow paths of a terrain.
module _ (t : Terrain Point) (level : Point → ℤ) (is_one_owner : Point → Point → Bool) where
  pub path_to : (p x : Point) (k : ℕ) → FlowsTo t level x k p → (rest : List Point) × IsPathTo (DrainsTo t level) is_one_owner p x rest
  path_to p x zero here = ([], here)
  path_to p x (suc k) flows =
      let on = path_to p (step flows.0 x) k flows.1.1 in
      (step flows.0 x ∷ on.0, ((flows.0, (flows.1.0, refl)), on.1))

  pub steps_to : (p x : Point) (rest : List Point) → IsPathTo (DrainsTo t level) is_one_owner p x rest → (k : ℕ) × FlowsTo t level x k p
  steps_to p x [] here = (0, here)
  steps_to p x (y ∷ rest) path =
      let on = steps_to p y rest path.1 in
      (suc on.0, (path.0.0, (path.0.1.0, subst (λ v. FlowsTo t level v on.0 p) path.0.1.1 on.1)))
