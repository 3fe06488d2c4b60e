-- The links between the rim points of all tiles, by node number: a graph that can be read node by node.
use Rattle.std.specs.Prelude.{◌≡◌, ℕ, ℤ, List}
use Rattle.border_graph.specs.Summaries.{Summary}
use Rattle.border_graph.specs.Joining.{Node, Rim, IsLink}
use Rattle.border_graph.specs.Linking.{node_number}

-- a link leads from node x to node y at this level
pub record IsPlacedLink (n : ℕ) (summaries : List Summary) (x y : ℕ) (level : ℤ) : Type 0 where
  pub tile : ℕ
  pub number : ℕ
  pub to : Node
  pub starts : x ≡ node_number n (Rim tile number)
  pub ends : y ≡ node_number n to
  pub link : IsLink n summaries (Rim tile number) to level

-- node x is a rim point of tile t
abbrev pub IsOfTile : ℕ → ℕ → ℕ → Type 0
IsOfTile n t x = (k : ℕ) × (x ≡ node_number n (Rim t k))
