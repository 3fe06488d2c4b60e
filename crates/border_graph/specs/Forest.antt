-- Building the least spanning forest: passes are kept one after another, the lowest first.
use Rattle.std.specs.Prelude.{◌≡◌, ℕ, ◌+◌, ◌<◌, ◌≤◌, ℤ, ◌≤ℤ◌, List, Contains, length, slice_index_or}
use Rattle.border_graph.specs.declared.pass.Pass.{Pass}
use Rattle.border_graph.specs.Passes.{AreJoined}
use Rattle.border_graph.specs.UnionFind.{IsFalling, AreOver, roots}

-- the passes are sorted by level, the lowest first
abbrev pub IsRisingBy : List Pass → Type 0
IsRisingBy sorted = (j k : ℕ) (d : Pass) → j ≤ k → k < length sorted → (slice_index_or sorted j d).level ≤ℤ (slice_index_or sorted k d).level

module _ (count : ℕ) (sorted : List Pass) (k : ℕ) where
  -- none of the first k passes is above the level
  abbrev pub IsOverAll : ℤ → Type 0
  IsOverAll level = (j : ℕ) (d : Pass) → j < k → (slice_index_or sorted j d).level ≤ℤ level

  -- of the first k passes exactly those are kept that joined two separate parts
  pub record IsForestSoFar (parent : List ℕ) (kept : List Pass) : Type 0 where
    pub whole : length parent ≡ count
    pub falling : IsFalling parent
    pub only : (p : Pass) → Contains kept p → Contains sorted p
    pub over : (level : ℤ) → IsOverAll level → AreOver kept level parent
    pub done : (j : ℕ) (d : Pass) → j < k → AreJoined kept (slice_index_or sorted j d).level (slice_index_or sorted j d).a (slice_index_or sorted j d).b
    pub few : length kept + roots count parent ≤ count
