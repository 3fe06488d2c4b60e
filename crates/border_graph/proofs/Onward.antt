-- Paths over links, one after another.
use Rattle.border_graph.proofs.Prelude.{IsWayBelow, List, ℕ, ℤ, [], subst, sym, ≤ℤ_trans, ◌∷◌, ◌≤ℤ◌}

-- a path to a, continued by a path from a
pub go_on : (L : ℕ → ℕ → ℤ → Type 0) (a b : ℕ) (level : ℤ) (x : ℕ) (rest more : List ℕ) → IsWayBelow L a level x rest → IsWayBelow L b level a more → (all : List ℕ) × IsWayBelow L b level x all
go_on L a b level x [] more way on = (more, subst (λ v. IsWayBelow L b level v more) (sym way) on)
go_on L a b level x (y ∷ rest) more way on = let further = go_on L a b level y rest more way.1 on in (y ∷ further.0, (way.0, further.1))

-- a path at a level is a path at any higher level
pub way_up : {Q : Type 0} (L : Q → Q → ℤ → Type 0) (out : Q) (low high : ℤ) → low ≤ℤ high → (x : Q) (rest : List Q) → IsWayBelow L out low x rest → IsWayBelow L out high x rest
way_up L out low high le x [] way = way
way_up L out low high le x (y ∷ rest) way = ((way.0.0, (way.0.1.0, ≤ℤ_trans way.0.0 low high way.0.1.1 le)), way_up L out low high le y rest way.1)
