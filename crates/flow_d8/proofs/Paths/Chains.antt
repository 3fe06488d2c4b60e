-- If each point of a list leads to the next one, and the last leads nowhere, the points are distinct.
use Rattle.std.proofs.Common.{◌≡◌, ◌≢◌, ℕ, zero, suc, ◌+◌, ◌-◌, ◌<◌, IsTrue, Some, List, [], ◌∷◌, ◌++◌, length, get_or, inl, inr, sym, ap, ap₂, ◌∙◌, subst, arith, length-append}
use Rattle.flow_d8.proofs.Prelude.{AllPairs, Dir, Point, cases_eq, fits_point, get_or_append_left, get_or_at, step}
use Rattle.std.proofs.lemmas.Option.{same_Some}
use Rattle.flow_d8.specs.Directions.{Directions, LeadsTo, IsChain, direction_in}

module _ (d : Directions) (path : List Point) (chain : IsChain d path) where
  -- equal points are followed by equal points
  same_on : (i j k : ℕ) (x : Point) → get_or path i x ≡ get_or path j x → i < j → j + k < length path → get_or path (i + k) x ≡ get_or path (j + k) x
  same_on i j zero x same less within = ap (λ n. get_or path n x) (omega arith) ∙ same ∙ ap (λ n. get_or path n x) (omega arith)
  same_on i j (suc k) x same less within =
      let before = same_on i j k x same less (omega arith) in
      let a = chain (i + k) x (omega arith) in
      let b = chain (j + k) x (omega arith) in
      let one : a.0 ≡ b.0 = same_Some a.0 b.0 (sym a.1.0 ∙ ap (direction_in d) before ∙ b.1.0) in
      ap (λ n. get_or path n x) (omega arith) ∙ a.1.1.0 ∙ ap₂ step one before ∙ sym b.1.1.0 ∙ ap (λ n. get_or path n x) (omega arith)

  module _ (last : Point) (ends : (x : Point) → get_or path (length path - 1) x ≡ last) where
    pub chain_once : ((e : Dir) → direction_in d last ≡ Some e → IsTrue (fits_point (step e last)) → ⊥) → AllPairs (λ p q. p ≢ q) path
    chain_once off i j x before within same =
        let k = length path - 1 - j in
        let a = chain (i + k) x (omega arith) in
        let at : get_or path (i + k) x ≡ last = same_on i j k x same before (omega arith) ∙ ap (λ n. get_or path n x) (omega arith) ∙ ends x in
        off a.0 (ap (direction_in d) (sym at) ∙ a.1.0) (subst (λ p. IsTrue (fits_point (step a.0 p))) at a.1.1.1)

    pub chain_longer : (to : Point) → LeadsTo d last to → IsChain d (path ++ to ∷ [])
    chain_longer to leads i x small = elim (cases_eq (i + 1) (length path)) [
      | inl end ↦
          let here : get_or (path ++ to ∷ []) i x ≡ last = get_or_append_left path (to ∷ []) x i (omega arith) ∙ ap (λ n. get_or path n x) (omega arith) ∙ ends x in
          let there : get_or (path ++ to ∷ []) (i + 1) x ≡ to = get_or_at path to [] x (i + 1) (sym end) in
          subst (λ p. LeadsTo d p (get_or (path ++ to ∷ []) (i + 1) x)) (sym here) (subst (LeadsTo d last) (sym there) leads)
      | inr inner ↦
          let less : i + 1 < length path = omega (arith, small, length-append path (to ∷ [])) in
          subst (λ p. LeadsTo d p (get_or (path ++ to ∷ []) (i + 1) x)) (sym (get_or_append_left path (to ∷ []) x i (omega arith)))
          (subst (LeadsTo d (get_or path i x)) (sym (get_or_append_left path (to ∷ []) x (i + 1) less)) (chain i x less))
    ]

pub ends_with : (path : List Point) (to x : Point) → get_or (path ++ to ∷ []) (length (path ++ to ∷ []) - 1) x ≡ to
ends_with path to x = get_or_at path to [] x (length (path ++ to ∷ []) - 1) (omega (arith, length-append path (to ∷ [])))
