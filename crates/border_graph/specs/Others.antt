-- The list of edges from a rim point, inside its tile and to the same point of other tiles.
use Rattle.std.specs.Prelude.{◌≡◌, ◌≢◌, ℕ, ◌+◌, ◌-◌, ◌*◌, ◌^◌, ◌<◌, ◌≤◌, ℤ, pos, ◌⊎◌, List, Option, IfSome, MatchOption, Contains, length, slice_index_or}
use Rattle.lattice.specs.declared.point.Point.{Point}
use Rattle.lattice.specs.Corners.{Corner}
use Rattle.lattice.specs.Lattice.{IsIndexOf, point_of}
use Rattle.lattice.specs.Mosaic.{void}
use Rattle.lattice.specs.RimPoints.{IsRimPoint}
use Rattle.lattice.specs.Block.{rim_number}
use Rattle.border_graph.specs.Joining.{Rim, rim_point}
use Rattle.border_graph.specs.Linking.{node_number}
use Rattle.border_graph.specs.declared.edge_source.Edge.{Edge}
use Rattle.border_graph.specs.TileGraph.{TileGraph, AreListedStill, AreEdgesOut, AreEdgesAcross}

abbrev pub corner_at : List Corner → ℕ → Corner
corner_at corners t = slice_index_or corners t (record { lat = pos 0; lon = pos 0 })

-- the corners are distinct
abbrev pub AreApart : List Corner → Type 0
AreApart corners = (t u : ℕ) → t < length corners → u < length corners → corner_at corners t ≡ corner_at corners u → t ≡ u

-- there are more rim points than node numbers
abbrev pub AreTooMany : ℕ → List Corner → Type 0
AreTooMany n corners = 2 ^ 32 ≤ 1 + length corners * (4 * (n - 1))

module _ (n : ℕ) (corners : List Corner) (t : ℕ) (p : Point) (height : ℤ) where
  -- the edge leads to the node of the point p in another tile, at the given height
  pub record IsToOther (way : Edge) : Type 0 where
    pub tile : ℕ
    pub small : tile < length corners
    pub apart : t ≢ tile
    pub index : ℕ
    pub at : IsIndexOf n (corner_at corners tile) p index
    pub to : way.to ≡ node_number n (Rim tile (rim_number n index))
    pub level : way.level ≡ height

  -- if the corner's tile is another one and has the point p, the edge to the point's node there is listed
  abbrev pub IsOtherListed : Corner → List Edge → Type 0
  IsOtherListed c new = (u e : ℕ) → u < length corners → corner_at corners u ≡ c → t ≢ u → IsIndexOf n c p e → Contains new (record { level = height; to = node_number n (Rim u (rim_number n e)) })

  -- exactly the edges to the point p in all other tiles are added
  pub record AddsOthers (old new : List Edge) : Type 0 where
    pub still : AreListedStill old new
    pub only : (way : Edge) → Contains new way → Contains old way ⊎ IsToOther way
    pub listed : AreApart corners → (c : Corner) → IsOtherListed c new

-- the node of the point p in the corner's tile, if that is another tile that has the point
pub record IsOtherNode (n : ℕ) (corners : List Corner) (t : ℕ) (p : Point) (c : Corner) (found : Option ℕ) : Type 0 where
  pub only : (height : ℤ) → IfSome found (λ to. IsToOther n corners t p height (record { level = height; to = to }))
  pub all : AreApart corners → (u e : ℕ) → u < length corners → corner_at corners u ≡ c → t ≢ u → IsIndexOf n c p e → MatchOption found ⊥ (λ to. to ≡ node_number n (Rim u (rim_number n e)))

-- the added edges lead from a rim point of a tile to the same point of other tiles; none if the point is void
pub record AreEdgesToOthers (n : ℕ) (corners : List Corner) (ways : TileGraph) (t k : ℕ) (old new : List Edge) : Type 0 where
  pub index : ℕ
  pub rim : IsRimPoint n k index
  pub nothing : (rim_point ways.summary k).height ≡ void → new ≡ old
  pub others : (rim_point ways.summary k).height ≢ void → AddsOthers n corners t (point_of n (corner_at corners t) index) (rim_point ways.summary k).height old new

-- the added edges are those from a rim point of a tile, one kind after another
pub record AreTileEdges (n : ℕ) (corners : List Corner) (ways : TileGraph) (t k : ℕ) (old new : List Edge) : Type 0 where
  pub side : ways.side ≡ n
  pub first : List Edge
  pub second : List Edge
  pub out : AreEdgesOut n ways.summary k old first
  pub across : AreEdgesAcross n ways.summary k (t * (4 * (n - 1))) first second
  pub index : ℕ
  pub rim : IsRimPoint n k index
  pub nothing : (rim_point ways.summary k).height ≡ void → new ≡ second
  pub others : (rim_point ways.summary k).height ≢ void → AddsOthers n corners t (point_of n (corner_at corners t) index) (rim_point ways.summary k).height second new
