-- The edges from a node of a graph, and which nodes it reaches.
use Rattle.std.specs.Prelude.{ℕ, ℤ, List, Contains}
use Rattle.border_graph.specs.Links.{IsWayBelow}
use Rattle.border_graph.specs.Joining.{Rim}
use Rattle.border_graph.specs.Linking.{node_number}
use Rattle.border_graph.specs.declared.edge_source.Edge.{Edge}

-- the list contains all edges from x
abbrev pub AreAllEdges : (ℕ → ℕ → ℤ → Type 0) → ℕ → List Edge → Type 0
AreAllEdges IsLink x ways = (y : ℕ) (level : ℤ) → IsLink x y level → Contains ways (record { level = level; to = y })

-- the list contains exactly the edges from x
pub record AreEdges (IsLink : ℕ → ℕ → ℤ → Type 0) (x : ℕ) (ways : List Edge) : Type 0 where
  pub each : (way : Edge) → Contains ways way → IsLink x way.to way.level
  pub all : AreAllEdges IsLink x ways

-- a path leads from the start to x at no more than the level
abbrev pub IsReachedBelow : (ℕ → ℕ → ℤ → Type 0) → ℕ → ℤ → ℕ → Type 0
IsReachedBelow IsLink start level x = (rest : List ℕ) × IsWayBelow IsLink x level start rest

-- a path leads from the start to a rim point of tile t at no more than the level
abbrev pub IsTileReached : ℕ → (ℕ → ℕ → ℤ → Type 0) → ℕ → ℤ → ℕ → Type 0
IsTileReached n IsLink start level t = (k : ℕ) × IsReachedBelow IsLink start level (node_number n (Rim t k))
