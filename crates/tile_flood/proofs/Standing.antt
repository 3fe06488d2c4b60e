-- After one more point is marked as supported, all marked points are supported.
use Rattle.std.proofs.Common.{rules}
use Rattle.std.proofs.Common.{◌≡◌, ℕ, zero, suc, ◌++◌, ◌⊎◌, length, Contains, ◌*◌, ◌<◌, ℤ, Bool, true, false, List, [], ◌∷◌, get_or, set, length-set, get_or-set_other, get_or-set_same, inl, inr, refl, arith, sym, subst, ◌∙◌}
use Rattle.std.proofs.lemmas.List.Elements.{Contains-append_cases, Contains-append_left, Contains-append_right}
use Rattle.tile_flood.proofs.Prelude.{cases_eq}
use Rattle.tile_flood.specs.Restoring.{AreReached, AreStanding, HasLower, HoldsUp, StandsBy}

pub only_one : (e f : ℕ) → Contains (e ∷ []) f → f ≡ e
only_one e f (zero, below, is) = sym is
only_one e f (suc k, below, is) = absurd (omega arith)

module _ (n : ℕ) (heights : List ℤ) (sinks : List ℕ) (levels : List ℤ) (labels : List ℕ) where
  pub stand_on : (stands : List Bool) (x : ℕ) (b : Bool) → AreStanding n heights sinks levels labels stands → x < n * n → (b ≡ true → (rest : List ℕ) × StandsBy n heights sinks levels labels x rest) → AreStanding n heights sinks levels labels (set stands x b)
  stand_on stands x b are small by = record {
    whole = length-set stands x b ∙ are.whole;
    each = λ e on. elim (cases_eq e x) [
      | inl at ↦ subst (λ z. (rest : List ℕ) × StandsBy n heights sinks levels labels z rest) (sym at)
          (by (sym (get_or-set_same stands x b false (subst (λ k. x < k) (sym are.whole) small)) ∙ subst (λ z. get_or (set stands x b) z false ≡ true) at on))
      | inr other ↦ are.each e (sym (get_or-set_other stands x e b false other) ∙ on)
    ];
  }

  -- a point that a supported neighbour supports may be marked
  pub held_on : (stands : List Bool) (e : ℕ) → AreStanding n heights sinks levels labels stands → e < n * n → (f : ℕ) × HoldsUp n levels labels stands e f → AreStanding n heights sinks levels labels (set stands e true)
  held_on stands e are small by =
      let at = are.each by.0 by.1.marked in
      stand_on stands e true are small (λ _. (by.0 ∷ at.0, ((by.1.alike, by.1.level), at.1)))

  -- a point with a lower neighbour is supported, so it may be marked
  pub stand_above : (stands : List Bool) (e : ℕ) (b : Bool) → AreStanding n heights sinks levels labels stands → e < n * n → (b ≡ true → (get_or stands e false ≡ true) ⊎ HasLower n levels labels e) → AreStanding n heights sinks levels labels (set stands e b)
  stand_above stands e b are small by = stand_on stands e b are small (λ on. elim (by on) [ inl was ↦ are.each e was | inr down ↦ ([], inr (inr down)) ])

pub still_stands : (n : ℕ) (stands : List Bool) (e f : ℕ) → length stands ≡ n * n → f < n * n → get_or stands e false ≡ true → get_or (set stands f true) e false ≡ true
still_stands n stands e f whole small was = search rules

-- a point marked just now is added to the list
pub reached_push : (n : ℕ) (stands : List Bool) (reached reached' : List ℕ) (f : ℕ) → length stands ≡ n * n → f < n * n → AreReached n stands reached → reached' ≡ reached ++ f ∷ [] → AreReached n (set stands f true) reached'
reached_push n stands reached reached' f whole small are is e has = elim (Contains-append_cases reached (f ∷ []) e (subst (λ xs. Contains xs e) is has)) [
  | inl was ↦ ((are e was).0, still_stands n stands e f whole small (are e was).1)
  | inr last ↦ subst (λ z. (z < n * n) × (get_or (set stands f true) z false ≡ true)) (sym (only_one f e last)) (small, get_or-set_same stands f true false (subst (λ k. f < k) (sym whole) small))
]

-- a point removed from the list is put before the others
pub reached_pop : (n : ℕ) (stands : List Bool) (reached reached' : List ℕ) (e : ℕ) → AreReached n stands reached → reached ≡ reached' ++ e ∷ [] → AreReached n stands (e ∷ reached')
reached_pop n stands reached reached' e are is z has = are z (subst (λ xs. Contains xs z) (sym is) (elim (Contains-append_cases (e ∷ []) reached' z has) [
  | inl first ↦ Contains-append_right reached' (e ∷ []) z first
  | inr rest ↦ Contains-append_left reached' (e ∷ []) z rest
]))

pub reached_first : (n : ℕ) (stands : List Bool) (reached : List ℕ) (e : ℕ) → AreReached n stands (e ∷ reached) → (e < n * n) × (get_or stands e false ≡ true)
reached_first n stands reached e are = are e (0, omega arith, refl)

pub reached_rest : (n : ℕ) (stands : List Bool) (reached : List ℕ) (e : ℕ) → AreReached n stands (e ∷ reached) → AreReached n stands reached
reached_rest n stands reached e are z has = are z (Contains-append_right (e ∷ []) reached z has)
