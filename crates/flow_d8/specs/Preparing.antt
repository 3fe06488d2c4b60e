-- What the levels around a tile's samples show about the samples' flows.
use Rattle.std.specs.Prelude.{◌≡◌, ℕ, ◌+◌, ◌*◌, ◌/◌, ◌%◌, ◌<◌, ◌≤◌, ◌⊎◌, ℤ, pos, int_lt, Bool, false, IsTrue, IsFalse, if◌then◌else◌, List, length, Contains, slice_index_or}
use Rattle.flow_d8.specs.Prelude.{Corner, void, step, order_of, north_of, east_of, Terrain, Point, Dir, East, South, West, North, Flow, Unknown, NoGround, Outlet, To, Beside, Flat, FlatTo}
use Rattle.water.specs.Drainage.{HasLower, IsSteepest}
use Rattle.flow_d8.specs.LevelGrid.{IsLevelGrid, level_beside}
use Rattle.flow_d8.specs.Places.{place_by, IsInner, IsShown}
use Rattle.flow_d8.specs.declared.preparing.Sides.{Sides}
use Rattle.flow_d8.specs.Padded.{padded_point}

abbrev pub flow_in : List Flow → ℕ → Flow
flow_in flows k = slice_index_or flows k Unknown

abbrev pub level_in : List ℤ → ℕ → ℤ
level_in levels k = slice_index_or levels k void

-- what a flow from the levels around the point says is true
abbrev pub IsLocal : Terrain Point → (Point → ℤ) → Point → Flow → Type 0
IsLocal t level p NoGround = IsFalse (t.is_ground p)
IsLocal t level p Outlet = IsTrue (t.is_ground p) × (HasLower t level p → ⊥) × ((d : Dir) × IsFalse (t.is_adjacent p (step d p)))
IsLocal t level p (To d) = IsTrue (t.is_ground p) × IsSteepest t level p d
IsLocal t level p Flat = IsTrue (t.is_ground p) × (HasLower t level p → ⊥) × ((d : Dir) → IsTrue (t.is_adjacent p (step d p)))
IsLocal t level p _ = ⊥

-- the flow is known and says nothing about adjacent exits
abbrev pub IsPlain : Flow → Type 0
IsPlain Unknown = ⊥
IsPlain (Beside d) = ⊥
IsPlain (FlatTo d) = ⊥
IsPlain _ = Unit {0}

-- a point with this flow is an exit: its water goes down or leaves the mosaic
abbrev pub IsEnd : Flow → Type 0
IsEnd Outlet = Unit {0}
IsEnd (To d) = Unit {0}
IsEnd _ = ⊥

-- the flow of place k, from its level and the levels around it, in rows of this width
pub record IsPlaceFlow (levels : List ℤ) (width k : ℕ) (flow : Flow) : Type 0 where
  pub so : (t : Terrain Point) (level : Point → ℤ) (p : Point) → IsLevelGrid t level → IsShown t level levels width p k → IsLocal t level p flow
  pub none : flow ≡ NoGround → level_in levels k ≡ void
  pub full : flow ≡ Flat → (d : Dir) → level_in levels (place_by width k d) ≡ void → ⊥
  pub plain : IsPlain flow

-- the sink s stands at place k of the square around the tile
pub record IsSinkPlace (n : ℕ) (c : Corner) (s : Point) (k : ℕ) : Type 0 where
  pub row : ℕ
  pub column : ℕ
  pub row_low : 1 ≤ row
  pub row_high : row < n + 3
  pub column_low : 1 ≤ column
  pub column_high : column < n + 3
  pub at : k ≡ row * (n + 4) + column
  pub is : padded_point n c row column ≡ s

abbrev pub HasSink : ℕ → Corner → List Point → ℕ → Type 0
HasSink n c sinks k = (s : Point) × (Contains sinks s × IsSinkPlace n c s k)

-- the sink s makes an outlet of its place if the place was inside a flat; all other flows are unchanged
pub record IsDrainedAt (n : ℕ) (c : Corner) (s : Point) (flows new_flows : List Flow) : Type 0 where
  pub whole : length new_flows ≡ length flows
  pub each : (k : ℕ) → (flow_in new_flows k ≡ flow_in flows k) ⊎ ((flow_in flows k ≡ Flat) × (flow_in new_flows k ≡ Outlet) × IsSinkPlace n c s k)
  pub sunk : (k : ℕ) → IsSinkPlace n c s k → flow_in new_flows k ≡ Flat → ⊥

-- the sinks make outlets of their places inside flats; all other flows are unchanged
pub record AreDrained (n : ℕ) (c : Corner) (sinks : List Point) (flows new_flows : List Flow) : Type 0 where
  pub whole : length new_flows ≡ length flows
  pub each : (k : ℕ) → (flow_in new_flows k ≡ flow_in flows k) ⊎ ((flow_in flows k ≡ Flat) × (flow_in new_flows k ≡ Outlet) × HasSink n c sinks k)
  pub sunk : (k : ℕ) → HasSink n c sinks k → flow_in new_flows k ≡ Flat → ⊥

-- the flow of place k, from the levels around it and the sinks
pub record IsSunkFlow (n : ℕ) (c : Corner) (levels : List ℤ) (sinks : List Point) (k : ℕ) (flow : Flow) : Type 0 where
  pub local : Flow
  pub is : IsPlaceFlow levels (n + 4) k local
  pub or_sink : (flow ≡ local) ⊎ ((local ≡ Flat) × (flow ≡ Outlet) × HasSink n c sinks k)
  pub sunk : HasSink n c sinks k → flow ≡ Flat → ⊥

abbrev pub AreSunkFlows : ℕ → Corner → List ℤ → List Point → List Flow → Type 0
AreSunkFlows n c levels sinks flows = (k : ℕ) → IsInner (n + 4) (length levels) k → IsSunkFlow n c levels sinks k (flow_in flows k)

module _ (levels : List ℤ) (flows : List Flow) (width k : ℕ) where
  -- the step d leads to an exit of the place's level
  pub record IsEndBeside (d : Dir) : Type 0 where
    pub level : level_in levels (place_by width k d) ≡ level_in levels k
    pub end : IsEnd (flow_in flows (place_by width k d))

  pub record IsFirstEndBeside (d : Dir) : Type 0 where
    pub leads : IsEndBeside d
    pub first : (e : Dir) → IsEndBeside e → order_of d ≤ order_of e

  -- a flow `Flat` becomes one that says whether an exit is adjacent; other flows are unchanged
  abbrev pub IsEnded : Flow → Type 0
  IsEnded flow = ((flow_in flows k ≡ Flat → ⊥) × (flow ≡ flow_in flows k))
      ⊎ ((flow_in flows k ≡ Flat) × (((flow ≡ Flat) × ((d : Dir) → IsEndBeside d → ⊥)) ⊎ ((d : Dir) × ((flow ≡ Beside d) × IsFirstEndBeside d))))

-- the place of the sample in row r and column s
abbrev pub place_in : ℕ → ℕ → ℕ → ℕ
place_in n r s = (r + 2) * (n + 4) + (s + 2)

abbrev pub AreEnded : ℕ → List ℤ → List Flow → ℕ → List Flow → Type 0
AreEnded n levels around count flows = (e : ℕ) → e < count → IsEnded levels around (n + 4) (place_in n (e / n) (e % n)) (flow_in flows e)

-- the step leads across this edge
abbrev pub leads_over : Dir → Dir → Bool
leads_over North d = int_lt (pos 0) (north_of d)
leads_over East d = int_lt (pos 0) (east_of d)
leads_over South d = int_lt (north_of d) (pos 0)
leads_over West d = int_lt (east_of d) (pos 0)
leads_over _ d = false

-- the flow of place k, from its level and the levels around it that aren't across the edge
pub record IsFlowWithout (levels : List ℤ) (width : ℕ) (side : Dir) (k : ℕ) (flow : Flow) : Type 0 where
  pub so : (t : Terrain Point) (level : Point → ℤ) (p : Point) → IsLevelGrid t level → level_in levels k ≡ (if t.is_ground p then level p else void)
      → (IsTrue (t.is_ground p) → (d : Dir) → (if leads_over side d then void else level_in levels (place_by width k d)) ≡ level_beside t level p d) → IsLocal t level p flow
  pub plain : IsPlain flow

-- the sample lies on this edge, at no corner, and the tile across the edge is absent
abbrev pub IsClosedAt : ℕ → Sides → Dir → ℕ → ℕ → Type 0
IsClosedAt n sides North r s = (sides.north ≡ false) × (r ≡ 0) × (0 < s) × (s + 1 < n)
IsClosedAt n sides East r s = (sides.east ≡ false) × (s + 1 ≡ n) × (0 < r) × (r + 1 < n)
IsClosedAt n sides South r s = (sides.south ≡ false) × (r + 1 ≡ n) × (0 < s) × (s + 1 < n)
IsClosedAt n sides West r s = (sides.west ≡ false) × (s ≡ 0) × (0 < r) × (r + 1 < n)
IsClosedAt n sides _ r s = ⊥

pub record IsClosedFlow (n : ℕ) (levels : List ℤ) (sides : Sides) (e : ℕ) (flow : Flow) : Type 0 where
  pub side : Dir
  pub row : ℕ
  pub column : ℕ
  pub closed : IsClosedAt n sides side row column
  pub at : e ≡ row * n + column
  pub is : IsFlowWithout levels (n + 4) side (place_in n row column) flow

-- each flow is unchanged, or computed without the levels beyond a closed edge
pub record IsClosing (n : ℕ) (levels : List ℤ) (sides : Sides) (flows new_flows : List Flow) : Type 0 where
  pub whole : length new_flows ≡ length flows
  pub each : (e : ℕ) → (flow_in new_flows e ≡ flow_in flows e) ⊎ IsClosedFlow n levels sides e (flow_in new_flows e)

-- the sample's position along the edge
abbrev pub along_of : Dir → ℕ → ℕ → ℕ
along_of North r s = s
along_of South r s = s
along_of _ r s = r
