-- Paths edge by edge, their crests, and the least crest.
use Rattle.std.specs.Prelude.{◌≡◌, ℕ, ℤ, ◌≤ℤ◌, List, [], ◌∷◌}
use Rattle.std.specs.Int.{int_max}
use Rattle.border_graph.specs.declared.edge_source.Edge.{Edge}

-- the greatest level of the edges on the path
abbrev pub crest : Edge → List Edge → ℤ
crest way [] = way.level
crest way (next ∷ rest) = int_max way.level (crest next rest)

module _ (IsLink : ℕ → ℕ → ℤ → Type 0) where
  -- the edges form a path from x to the outlet node
  abbrev pub LeadsOut : ℕ → List Edge → Type 0
  LeadsOut x [] = x ≡ 0
  LeadsOut x (way ∷ rest) = IsLink x way.to way.level × LeadsOut way.to rest

  -- the level is the least crest over all paths from x to the outlet node
  pub record IsLeastCrest (x : ℕ) (level : ℤ) : Type 0 where
    pub reached : (way : Edge) × (rest : List Edge) × (LeadsOut x (way ∷ rest) × (crest way rest ≡ level))
    pub least : (way : Edge) (rest : List Edge) → LeadsOut x (way ∷ rest) → level ≤ℤ crest way rest
