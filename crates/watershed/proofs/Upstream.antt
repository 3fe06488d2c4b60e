-- The search up the flow paths: the found points after each step, and that in the end they are the watershed.
use Rattle.std.proofs.Common.{rules}
use Rattle.watershed.proofs.Prelude.{AreRuns, Contains-append_left, Contains-push, Contains-push_cases, FlowsTo, IsDonor, IsFalse, IsInWatershed, IsLawful, IsTrue, List, Point, Run, Terrain, ℕ, ℤ, [], arith, drains_to_ground, inl, inr, refl, step, subst, suc, sym, true≢false, zero, ⊎_elim, ◌++◌, ◌↔◌, ◌∙◌, ◌∷◌, ◌≡◌, ◌⊎◌}
use Rattle.std.specs.Prelude.{Contains, if◌then◌else◌}
use Rattle.watershed.specs.Search.{LeadsTo, AreUpstream}
use Rattle.watershed.proofs.Found.{empty_runs}

module _ (t : Terrain Point) (level : Point → ℤ) (p : Point) where
  -- the state of the search: marked and waiting points lead to p, and the donors of a marked point are marked or waiting
  pub record IsSearching (Marked : Point → Type 0) (waiting : List Point) : Type 0 where
    pub lead : (x : Point) → Marked x ⊎ Contains waiting x → (k : ℕ) × LeadsTo t level x k p
    pub begins : IsTrue (t.is_ground p) → Marked p ⊎ Contains waiting p
    pub elsewhere : (x : Point) → Marked x ⊎ Contains waiting x → IsTrue (t.is_ground p)
    pub closed : (q x : Point) → Marked q → IsDonor t level x q → Marked x ⊎ Contains waiting x

  none_waits : (Marked : Point → Type 0) (x : Point) → ((q : Point) → Marked q → ⊥) → Marked x ⊎ Contains [] x → ⊥
  none_waits Marked x none (inl marked) = none x marked
  none_waits Marked x none (inr has) = absurd (omega (arith, has.1))

  alone : (Marked : Point → Type 0) (x : Point) → ((q : Point) → Marked q → ⊥) → Marked x ⊎ Contains (p ∷ []) x → x ≡ p
  alone Marked x none (inl marked) = absurd (none x marked)
  alone Marked x none (inr has) = ⊎_elim (λ before. absurd (omega (arith, before.1))) (λ this. sym this) (Contains-push_cases [] p x has)

  -- the search starts with the point, if it is ground
  pub begun : (Marked : Point → Type 0) (waiting : List Point) → ((q : Point) → Marked q → ⊥) → waiting ≡ (if t.is_ground p then p ∷ [] else []) → IsSearching Marked waiting
  begun Marked waiting none is = search rules

  -- the last waiting point is marked, and its donors are added to the waiting ones
  module _ (Marked Marked' : Point → Type 0) (rest waiting : List Point) (at : Point)
      (mark : (x : Point) → Marked' x ↔ (Marked x ⊎ (x ≡ at))) (kept : (x : Point) → Contains rest x → Contains waiting x) (new : (x : Point) → Contains waiting x → Contains rest x ⊎ IsDonor t level x at)
      (all : (x : Point) → IsDonor t level x at → (Marked x ⊎ Contains (rest ++ at ∷ []) x) ⊎ Contains waiting x) (so_far : IsSearching Marked (rest ++ at ∷ [])) where
    still : (x : Point) → Marked x ⊎ Contains (rest ++ at ∷ []) x → Marked' x ⊎ Contains waiting x
    still x (inl marked) = inl ((mark x).1 (inl marked))
    still x (inr has) = ⊎_elim (λ before. inr (kept x before)) (λ this. inl ((mark x).1 (inr (sym this)))) (Contains-push_cases rest at x has)

    -- a point found now was found before, or is a donor of the marked one
    was : (x : Point) → Marked' x ⊎ Contains waiting x → (Marked x ⊎ Contains (rest ++ at ∷ []) x) ⊎ IsDonor t level x at
    was x (inl marked) = inl (⊎_elim (λ old. inl old) (λ this. inr (subst (Contains (rest ++ at ∷ [])) (sym this) (Contains-push rest at))) ((mark x).0 marked))
    was x (inr has) = ⊎_elim (λ before. inl (inr (Contains-append_left rest (at ∷ []) x before))) (λ feeds. inr feeds) (new x has)

    waited : Marked at ⊎ Contains (rest ++ at ∷ []) at
    waited = inr (Contains-push rest at)

    pub search_on : IsSearching Marked' waiting
    search_on = record {
      lead = λ x found. ⊎_elim (λ old. so_far.lead x old) (λ feeds. let on = so_far.lead at waited in (suc on.0, (at, (feeds, on.1)))) (was x found);
      begins = λ solid. still p (so_far.begins solid);
      elsewhere = λ x found. so_far.elsewhere at waited;
      closed = λ q x marked feeds. ⊎_elim
          (λ old. still x (so_far.closed q x old feeds))
          (λ this. ⊎_elim (still x) (λ has. inr has) (all x (subst (IsDonor t level x) this feeds)))
          ((mark q).0 marked);
    }

  marked_all : (Marked : Point → Type 0) (x : Point) → Marked x ⊎ Contains [] x → Marked x
  marked_all Marked x (inl marked) = marked
  marked_all Marked x (inr has) = absurd (omega (arith, has.1))

  pub search_done : (Marked : Point → Type 0) → IsSearching Marked [] → AreUpstream t level p Marked
  search_done Marked so_far = search rules

module _ (t : Terrain Point) (level : Point → ℤ) (lawful : IsLawful t) (p : Point) where
  flows_on_ground : (x : Point) (k : ℕ) → IsTrue (t.is_ground x) → FlowsTo t level x k p → IsTrue (t.is_ground p)
  flows_on_ground x zero solid flow = subst (λ q. IsTrue (t.is_ground q)) flow solid
  flows_on_ground x (suc k) solid flow = flows_on_ground (step flow.0 x) k (drains_to_ground t lawful level x flow.0 flow.1.0) flow.1.1

  -- the watershed of a point that isn't ground has no run
  pub no_watershed : (runs : List Run) → AreRuns (IsInWatershed t level p) runs → IsFalse (t.is_ground p) → runs ≡ []
  no_watershed runs are off = empty_runs (IsInWatershed t level p) runs are (λ x within. true≢false (sym (flows_on_ground x within.flows.0 within.on_ground within.flows.1) ∙ off))

  -- the found points are the watershed
  module _ (Found : Point → Type 0) (up : AreUpstream t level p Found) where
    flows : (x : Point) (k : ℕ) → IsTrue (t.is_ground p) → LeadsTo t level x k p → IsInWatershed t level p x
    flows x zero solid leads = record { on_ground = subst (λ q. IsTrue (t.is_ground q)) (sym leads) solid; flows = (0, leads) }
    flows x (suc k) solid leads =
        let feeder = leads.1.0 in
        let on = flows leads.0 k solid leads.1.1 in
        record { on_ground = feeder.on_ground; flows = (suc on.flows.0, (feeder.drains.0, (feeder.drains.1.0, subst (λ q. FlowsTo t level q on.flows.0 p) (sym feeder.drains.1.1) on.flows.1))) }

    -- the flow path of a ground point stays on ground, and the search finds each of its points
    met : (x : Point) (k : ℕ) → IsTrue (t.is_ground x) → FlowsTo t level x k p → Found x
    met x zero solid flow = subst Found (sym flow) (up.begins (subst (λ q. IsTrue (t.is_ground q)) flow solid))
    met x (suc k) solid flow =
        let e = flow.0 in
        up.closed (step e x) x (met (step e x) k (drains_to_ground t lawful level x e flow.1.0) flow.1.1) (record { on_ground = solid; drains = (e, (flow.1.0, refl)) })

    pub found_is_watershed : (x : Point) → Found x ↔ IsInWatershed t level p x
    found_is_watershed x = (
      (λ found. let leads = up.lead x found in flows x leads.0 (up.elsewhere x found) leads.1),
      (λ within. met x within.flows.0 within.on_ground within.flows.1),
    )
