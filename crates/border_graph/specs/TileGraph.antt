-- The list of edges from a rim point inside its own tile.
use Rattle.std.specs.Prelude.{◌≡◌, ℕ, ◌+◌, ◌<◌, ℤ, ◌⊎◌, List, [], ◌∷◌, Contains, slice_index_or}
use Rattle.std.specs.List.Sorted.{IsNonDecreasingBy}
use Rattle.lattice.specs.Limits.{IsSide}
use Rattle.labelling.specs.declared.spill.Spill.{Spill}
use Rattle.border_graph.specs.Summaries.{Summary}
use Rattle.border_graph.specs.Joining.{Outlet, Rim, IsLink}
use Rattle.border_graph.specs.Rows.{AreTurned}
use Rattle.border_graph.specs.declared.edge_source.Edge.{Edge}

-- the side of a tile, and its summary
pub record TileGraph : Type 0 where
  pub side : ℕ
  pub summary : Summary

-- the tile's spills, and its links in the opposite direction, are in the order of their first labels
pub record AreTileRows (n : ℕ) (b : Summary) (back : List Spill) : Type 0 where
  pub side : IsSide n
  pub in_order : IsNonDecreasingBy (λ (s : Spill). s.a) b.spills
  pub turned : AreTurned n b back
  pub back_in_order : IsNonDecreasingBy (λ (s : Spill). s.a) back

-- all edges of the old list are in the new one
abbrev pub AreListedStill : List Edge → List Edge → Type 0
AreListedStill old new = (way : Edge) → Contains old way → Contains new way

-- the edge to the outlet node at the level of a spill
abbrev pub out_at : Spill → Edge
out_at spill = record { level = spill.level; to = 0 }

-- the edge to the rim point to which a spill leads, where nodes are numbered from `first + 1` on
abbrev pub across : ℕ → Spill → Edge
across first spill = record { level = spill.level; to = first + (1 + spill.b) }

-- the added edges are those of the first `count` spills of a row that satisfy `Leads`
pub record AreListed (Leads : Spill → Type 0) (edge : Spill → Edge) (row : List Spill) (count : ℕ) (old new : List Edge) : Type 0 where
  pub still : AreListedStill old new
  pub listed : (j : ℕ) (d : Spill) → j < count → Leads (slice_index_or row j d) → Contains new (edge (slice_index_or row j d))
  pub only : (way : Edge) → Contains new way → Contains old way ⊎ ((spill : Spill) × (Contains row spill × (Leads spill × (way ≡ edge spill))))

module _ (n : ℕ) (b : Summary) (k : ℕ) where
  -- the added edges lead from rim point k to the outlet node
  pub record AreEdgesOut (old new : List Edge) : Type 0 where
    pub still : AreListedStill old new
    pub only : (way : Edge) → Contains new way → Contains old way ⊎ ((way.to ≡ 0) × IsLink n (b ∷ []) (Rim 0 k) Outlet way.level)
    pub all : (level : ℤ) → IsLink n (b ∷ []) (Rim 0 k) Outlet level → Contains new (record { level = level; to = 0 })

  -- the added edges lead from rim point k to others of its tile, whose nodes are numbered from `first + 1` on
  pub record AreEdgesAcross (first : ℕ) (old new : List Edge) : Type 0 where
    pub still : AreListedStill old new
    pub only : (way : Edge) → Contains new way → Contains old way ⊎ ((l : ℕ) × ((way.to ≡ first + (1 + l)) × IsLink n (b ∷ []) (Rim 0 k) (Rim 0 l) way.level))
    pub all : (l : ℕ) (level : ℤ) → IsLink n (b ∷ []) (Rim 0 k) (Rim 0 l) level → Contains new (record { level = level; to = first + (1 + l) })
