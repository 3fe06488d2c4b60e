-- What joining computes.
use Rattle.std.specs.Prelude.{◌≡◌, ◌≢◌, ◌⊎◌, ℕ, ◌-◌, ◌*◌, ◌<◌, ℤ, List, [], length, slice_index_or}
use Rattle.lattice.specs.Limits.{IsSide}
use Rattle.lattice.specs.Mosaic.{Mosaic, void}
use Rattle.labelling.specs.Raising.{AreRimLevels}
use Rattle.border_graph.specs.Summaries.{Summary}
use Rattle.border_graph.specs.Links.{IsWayBelow}
use Rattle.border_graph.specs.Joining.{Node, Outlet, Rim, summary_at, rim_point, IsThere, IsLink}
use Rattle.border_graph.specs.Sharing.{AreInOrder}

-- each summary has as many rim points as a tile with side n
abbrev pub IsSideOf : ℕ → List Summary → Type 0
IsSideOf n summaries = (t : ℕ) → t < length summaries → length (summary_at summaries t).rim ≡ 4 * (n - 1)

-- the summaries have no common side
abbrev pub HaveNoSide : List Summary → Type 0
HaveNoSide summaries = (n : ℕ) → IsSide n → IsSideOf n summaries → ⊥

-- the filled levels of the rim of each tile, in the order of tiles
pub record AreJoined (m : Mosaic) (summaries : List Summary) (joined : List (List ℤ)) : Type 0 where
  pub whole : length joined ≡ length summaries
  pub each : (t : ℕ) → t < length summaries → AreRimLevels m (summary_at summaries t).corner (slice_index_or joined t [])

-- each ground rim point of the summaries has a level
abbrev pub AreLevelled : List Summary → List (List ℤ) → Type 0
AreLevelled summaries joined = (t k : ℕ) → t < length summaries → (rim_point (summary_at summaries t) k).height ≢ void → slice_index_or (slice_index_or joined t []) k void ≢ void

-- no links above the void lead from some ground rim point to an outlet, if the summaries are in the order of tiles
pub record LeadsNowhere (n : ℕ) (summaries : List Summary) : Type 0 where
  pub tile : ℕ
  pub number : ℕ
  pub there : IsThere n summaries tile number
  pub no_way : AreInOrder summaries → (level : ℤ) (rest : List Node) → IsWayBelow (λ x y l. IsLink n summaries x y l × (l ≢ void)) Outlet level (Rim tile number) rest → ⊥

-- the summaries have no common side, or no links lead from some ground rim point to an outlet
abbrev pub CannotBeJoined : List Summary → Type 0
CannotBeJoined summaries = HaveNoSide summaries ⊎ ((n : ℕ) × (IsSideOf n summaries × LeadsNowhere n summaries))
