-- Edges listed one by one.
use Rattle.border_graph.proofs.Prelude.{AreListed, Contains, Contains-append_left, Contains-get_or, Contains-push, Contains-push_cases, Edge, List, Spill, ℕ, [], ap, arith, cases_lt, get_or, get_or_default, inl, inr, length, subst, sym, ◌++◌, ◌+◌, ◌<◌, ◌∙◌, ◌∷◌, ◌≡◌, ◌≤◌, ◌⊎◌}
use Rattle.border_graph.specs.TileGraph.{AreListedStill}

-- a list still has the edges of the old one after one more edge is added
pub still_more : (old mid new : List Edge) (way : Edge) → new ≡ mid ++ way ∷ [] → AreListedStill old mid → AreListedStill old new
still_more old mid new way is still x has = subst (λ (l : List Edge). Contains l x) (sym is) (Contains-append_left mid (way ∷ []) x (still x has))

pub last_has : (mid new : List Edge) (way : Edge) → new ≡ mid ++ way ∷ [] → Contains new way
last_has mid new way is = subst (λ (l : List Edge). Contains l way) (sym is) (Contains-push mid way)

pub before_or_last : (mid new : List Edge) (way x : Edge) → new ≡ mid ++ way ∷ [] → Contains new x → Contains mid x ⊎ (x ≡ way)
before_or_last mid new way x is has = elim (Contains-push_cases mid way x (subst (λ (l : List Edge). Contains l x) is has)) [ inl before ↦ inl before | inr last ↦ inr (sym last) ]

module _ (Leads : Spill → Type 0) (edge : Spill → Edge) (row : List Spill) where
  -- the edges of a row's spills, one by one
  module _ (i : ℕ) (spill d : Spill) (small : i < length row) (at : spill ≡ get_or row i d) (old mid : List Edge) (r : AreListed Leads edge row i old mid) where
    this : (j : ℕ) (e : Spill) → j < i + 1 → i ≤ j → spill ≡ get_or row j e
    this j e below later =
        let same : i ≡ j = omega arith in
        at ∙ (get_or_default row i d e small ∙ ap (λ k. get_or row k e) same)

    pub listed_more : (new : List Edge) (way : Edge) → Leads spill → way ≡ edge spill → new ≡ mid ++ way ∷ [] → AreListed Leads edge row (i + 1) old new
    listed_more new way leads is more = record {
      still = still_more old mid new way more r.still;
      listed = λ j e below of. elim (cases_lt j i) [
        | inl earlier ↦ still_more mid mid new way more (λ x has. has) (edge (get_or row j e)) (r.listed j e earlier of)
        | inr later ↦ subst (λ (l : Spill). Contains new (edge l)) (this j e below later) (subst (Contains new) is (last_has mid new way more))
      ];
      only = λ x has. elim (before_or_last mid new way x more has) [
        | inl before ↦ r.only x before
        | inr last ↦ inr (spill, (subst (Contains row) (sym at) (Contains-get_or row i d small), (leads, last ∙ is)))
      ];
    }

    pub listed_less : (Leads spill → ⊥) → AreListed Leads edge row (i + 1) old mid
    listed_less other = record {
      still = r.still;
      listed = λ j e below of. elim (cases_lt j i) [
        | inl earlier ↦ r.listed j e earlier of
        | inr later ↦ absurd (other (subst Leads (sym (this j e below later)) of))
      ];
      only = r.only;
    }

  pub listed_all : (old new : List Edge) → AreListed Leads edge row (length row) old new → (spill : Spill) → Contains row spill → Leads spill → Contains new (edge spill)
  listed_all old new r spill (j, small, at) leads = subst (λ (s : Spill). Contains new (edge s)) at (r.listed j spill small (subst Leads (sym at) leads))
