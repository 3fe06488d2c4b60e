-- The outcome of resolving the flat of a sample.
use Rattle.std.specs.Prelude.{◌≡◌, ℕ, IsTrue, List, slice_index_or}
use Rattle.flow_d8.specs.Prelude.{Point, Dir, step, Flow, Unknown}
use Rattle.water.specs.Drainage.{CrossesFlat}
use Rattle.flow_d8.specs.Filled.{number_of}
use Rattle.flow_d8.specs.declared.resolving.Resolution.{Resolution}
use Rattle.flow_d8.specs.declared.resolving.Resolution.TheVariants.{Resolved, NotFlat, Meets}
use Rattle.flow_d8.specs.Flows.{IsOfFlat, IsResolved}
use Rattle.flow_d8.specs.Component.{Connects}
use Rattle.flow_d8.specs.Tiles.{Tiles, place_of, by_of, IsSampleOf, OnGround}

-- the samples of the seed's flat have their directions, if some number of steps leads from their point across the flat
abbrev pub AreResolved : Tiles → ℕ → List Flow → List Flow → Type 0
AreResolved tiles seed flows new_flows = (n k e : ℕ) → Connects flows (by_of tiles) seed n k → IsSampleOf tiles (place_of tiles k) e → IsOfFlat (slice_index_or flows e Unknown)
    → OnGround tiles flows (λ t level. (j : ℕ) → CrossesFlat t level (place_of tiles k) j → IsResolved t level (place_of tiles e) (slice_index_or new_flows e Unknown))

-- the point lies one step from the sample, and its flow is unknown
abbrev pub IsUnknownBeside : Tiles → List Flow → ℕ → Point → Type 0
IsUnknownBeside tiles flows k q = (d : Dir) × ((q ≡ step d (place_of tiles k)) × (slice_index_or flows (by_of tiles k d) Unknown ≡ Unknown))

-- the point lies one step from a sample inside a flat, and its flow is unknown
abbrev pub IsMissing : Tiles → List Flow → Point → Type 0
IsMissing tiles flows q = (k : ℕ) × (IsOfFlat (slice_index_or flows k Unknown) × IsUnknownBeside tiles flows k q)

-- a step from the seed's flat leads to the point q, whose flow is unknown: no tile has q, or the flow of its first sample is
-- unknown
pub record IsMet (tiles : Tiles) (flows : List Flow) (seed : ℕ) (q : Point) : Type 0 where
  pub beside : (n : ℕ) × (k : ℕ) × (d : Dir) × (Connects flows (by_of tiles) seed n k × (IsOfFlat (slice_index_or flows k Unknown) × (q ≡ step d (place_of tiles k))))
  pub nothing : slice_index_or flows (number_of tiles.side tiles.corners q) Unknown ≡ Unknown

-- what each outcome of resolving a flat means for the flows
abbrev pub IsOutcome : Tiles → ℕ → List Flow → List Flow → Resolution → Type 0
IsOutcome tiles seed flows new_flows Resolved = IsOfFlat (slice_index_or flows seed Unknown) × AreResolved tiles seed flows new_flows
IsOutcome tiles seed flows new_flows NotFlat = (IsOfFlat (slice_index_or flows seed Unknown) → ⊥) × (new_flows ≡ flows)
IsOutcome tiles seed flows new_flows (Meets q) = IsMet tiles flows seed q × (new_flows ≡ flows)

-- a point of unknown flow that the flat reaches is ground
abbrev pub IsMetOnGround : Tiles → List Flow → Resolution → Type 0
IsMetOnGround tiles flows (Meets q) = OnGround tiles flows (λ t level. IsTrue (t.is_ground q))
IsMetOnGround tiles flows _ = Unit {0}
