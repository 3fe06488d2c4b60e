-- The number of nodes that aren't visited yet.
use Rattle.border_graph.proofs.Prelude.{Bool, ℕ, ap, arith, cases_eq, false, inl, inr, refl, suc, sym, true, zero, ◌+◌, ◌<◌, ◌∙◌, ◌≡◌}

one_unless : Bool → ℕ
one_unless true = 0
one_unless false = 1

-- how many nodes below n aren't visited yet
pub left_below : ℕ → (ℕ → Bool) → ℕ
left_below zero visited = 0
left_below (suc n) visited = one_unless (visited n) + left_below n visited

-- the number of nodes left is the same if the same nodes are visited
same_left : (n : ℕ) (visited visited' : ℕ → Bool) → ((x : ℕ) → x < n → visited' x ≡ visited x) → left_below n visited' ≡ left_below n visited
unfolding left_below
same_left zero visited visited' same = refl
same_left (suc n) visited visited' same =
    let rest : left_below n visited' ≡ left_below n visited = same_left n visited visited' (λ x small. same x (omega arith)) in
    let here : one_unless (visited' n) ≡ one_unless (visited n) = ap one_unless (same n (omega arith)) in
    omega arith

-- the number of nodes left falls if one more node is visited
pub fewer_left : (n c : ℕ) (visited visited' : ℕ → Bool) → c < n → visited c ≡ false → visited' c ≡ true → ((x : ℕ) → (x ≡ c → ⊥) → visited' x ≡ visited x) → left_below n visited' < left_below n visited
unfolding left_below one_unless
fewer_left zero c visited visited' small was now others = absurd (omega arith)
fewer_left (suc n) c visited visited' small was now others = elim (cases_eq c n) [
  | inl same ↦
      let before : one_unless (visited n) ≡ 1 = ap one_unless (ap visited (sym same) ∙ was) in
      let after : one_unless (visited' n) ≡ 0 = ap one_unless (ap visited' (sym same) ∙ now) in
      let rest : left_below n visited' ≡ left_below n visited = same_left n visited visited' (λ x low. others x (λ is. absurd (omega arith))) in
      omega arith
  | inr other ↦
      let here : one_unless (visited' n) ≡ one_unless (visited n) = ap one_unless (others n (λ is. other (sym is))) in
      let rest : left_below n visited' < left_below n visited = fewer_left n c visited visited' (omega arith) was now others in
      omega arith
]
