-- Loaded tiles, and the flows of their samples.
use Rattle.std.specs.Prelude.{◌≡◌, ◌≢◌, IsTrue, ℕ, ◌+◌, ◌*◌, ◌/◌, ◌%◌, ◌<◌, ◌≤◌, ℤ, true, List, Contains, length, slice_index_or}
use Rattle.flow_d8.specs.Prelude.{Corner, Dir, Holds, point_of, terrain, Mosaic, Terrain, Point, Flow, Unknown}
use Rattle.flow_d8.specs.Filled.{is_deep, number_of}
use Rattle.flow_d8.specs.LevelsAround.{OnLevels}
use Rattle.flow_d8.specs.Places.{place_by}
use Rattle.flow_d8.specs.PresentTiles.{corners_of}
use Rattle.water.specs.Drainage.{CrossesFlat}
use Rattle.flow_d8.specs.Flows.{IsFlow, AreFlows}
use Rattle.water.specs.Flows.{IsTellingAll}
use Rattle.flow_d8.specs.Tiles.{Tiles, IsInTile, IsSampleOf, no_corner, place_of}

-- each flow is known
abbrev pub AreKnown : List Flow → Type 0
AreKnown flows = (k : ℕ) → k < length flows → slice_index_or flows k Unknown ≡ Unknown → ⊥

-- each flow of the corner's tile is right
abbrev pub AreFlowsIn : Terrain Point → (Point → ℤ) → ℕ → Corner → List Flow → Type 0
AreFlowsIn t level n c flows = (e : ℕ) → e < n * n → IsFlow t level (point_of n c e) (slice_index_or flows e Unknown)

-- each flow of the corner's tile is right on the mosaic
abbrev pub AreTileFlows : Mosaic → Corner → List Flow → Type 0
AreTileFlows m c flows = OnLevels m (λ level. AreFlowsIn (terrain m) level m.side c flows)

-- flows that are right on a terrain are still right after the change
abbrev pub StayFlows : Tiles → List Flow → Tiles → List Flow → Type 0
StayFlows tiles flows new_tiles new_flows = (t : Terrain Point) (level : Point → ℤ) → AreFlows t level (place_of tiles) flows → AreFlows t level (place_of new_tiles) new_flows

-- the flow of the point's first loaded sample; Unknown if no loaded tile has the point
abbrev pub flow_of : Tiles → List Flow → Point → Flow
flow_of tiles flows p = slice_index_or flows (number_of tiles.side tiles.corners p) Unknown

-- the loaded tiles are present, and the known flows of their samples are right
pub record IsGridOf (m : Mosaic) (tiles : Tiles) (flows : List Flow) : Type 0 where
  pub same_side : tiles.side ≡ m.side
  pub present : (i : ℕ) → i < length tiles.corners → Contains (corners_of m) (slice_index_or tiles.corners i no_corner)
  pub told : OnLevels m (λ level. AreFlows (terrain m) level (place_of tiles) flows)

-- no known flow changes
abbrev pub KeepsKnown : Tiles → List Flow → Tiles → List Flow → Type 0
KeepsKnown tiles flows new_tiles new_flows = (p : Point) → (flow_of tiles flows p ≡ Unknown → ⊥) → flow_of new_tiles new_flows p ≡ flow_of tiles flows p

-- the flows of `count` samples, from `first` on, are unknown; the others are unchanged
pub record AreInvalidated (first count : ℕ) (old new : List Flow) : Type 0 where
  pub whole : length new ≡ length old
  pub run : (k : ℕ) → first ≤ k → k < first + count → slice_index_or new k Unknown ≡ Unknown
  pub others : (k : ℕ) → (first ≤ k → k < first + count → ⊥) → slice_index_or new k Unknown ≡ slice_index_or old k Unknown

-- unknown flows among `count` samples, from `first` on, are set to those of the list; all others are unchanged
pub record AreFilledIn (first count : ℕ) (bytes old new : List Flow) : Type 0 where
  pub whole : length new ≡ length old
  pub known : (k : ℕ) → (slice_index_or old k Unknown ≡ Unknown → ⊥) → slice_index_or new k Unknown ≡ slice_index_or old k Unknown
  pub filled : (e : ℕ) → e < count → slice_index_or old (first + e) Unknown ≡ Unknown → slice_index_or new (first + e) Unknown ≡ slice_index_or bytes e Unknown
  pub others : (k : ℕ) → (first ≤ k → k < first + count → ⊥) → slice_index_or new k Unknown ≡ slice_index_or old k Unknown

-- some loaded tile has the point
abbrev pub IsAtHand : Tiles → Point → Type 0
IsAtHand tiles p = (i : ℕ) × ((i < length tiles.corners) × Holds tiles.side (slice_index_or tiles.corners i no_corner) p)

-- the flows of slot `to` are now those that slot `from` had; each slot has `area` flows
pub record AreMoved (area from to : ℕ) (old new : List Flow) : Type 0 where
  pub whole : length new ≡ length old
  pub moved : (e : ℕ) → e < area → slice_index_or new (to * area + e) Unknown ≡ slice_index_or old (from * area + e) Unknown
  pub others : (k : ℕ) → k / area ≢ to → slice_index_or new k Unknown ≡ slice_index_or old k Unknown

-- the last slot's flows have moved to this slot, and the last slot is gone; each slot has `area` flows
pub record IsCut (area last slot : ℕ) (old new : List Flow) : Type 0 where
  pub whole : length new ≡ last * area
  pub moved : slot < last → (e : ℕ) → e < area → slice_index_or new (slot * area + e) Unknown ≡ slice_index_or old (last * area + e) Unknown
  pub others : (k : ℕ) → k < length new → k / area ≢ slot → slice_index_or new k Unknown ≡ slice_index_or old k Unknown

-- each flow is resolved: it shows where its sample's point drains, or that it isn't ground
abbrev pub AreTold : List Flow → Type 0
AreTold flows = (k : ℕ) → k < length flows → IsTellingAll (slice_index_or flows k Unknown)

-- each ground point is in a loaded tile, and some number of steps leads from it across its flat
abbrev pub AreCrossed : Tiles → Terrain Point → (Point → ℤ) → Type 0
AreCrossed tiles t level = (p : Point) → IsTrue (t.is_ground p) → IsAtHand tiles p × ((j : ℕ) × CrossesFlat t level p j)

-- each of the eight flows around the place, in rows of this width, is resolved
abbrev pub AreResolvedAround : List Flow → ℕ → ℕ → Type 0
AreResolvedAround flows width k = (d : Dir) → IsTellingAll (slice_index_or flows (place_by width k d) Unknown)

-- the slot's tile has the point at least two samples from its edges, and the flows around it are resolved
pub record IsResolvedAround (tiles : Tiles) (flows : List Flow) (slot : ℕ) (p : Point) : Type 0 where
  pub small : slot < length tiles.corners
  pub sample : ℕ
  pub in_slot : IsInTile tiles slot sample
  pub here : IsSampleOf tiles p sample
  pub deep : is_deep tiles.side (sample % (tiles.side * tiles.side)) ≡ true
  pub resolved : AreResolvedAround flows tiles.side sample
