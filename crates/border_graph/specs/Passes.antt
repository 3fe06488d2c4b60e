-- Places that are joined over passes.
use Rattle.std.specs.Prelude.{ℕ, ℤ, ◌<◌, ◌⊎◌, List, Contains}
use Rattle.border_graph.specs.Links.{IsWayBelow}
use Rattle.border_graph.specs.declared.pass.Pass.{Pass}

-- a pass leads between the two places, in either direction
abbrev pub IsPass : List Pass → ℕ → ℕ → ℤ → Type 0
IsPass passes x y level = Contains passes (record { level = level; a = x; b = y }) ⊎ Contains passes (record { level = level; a = y; b = x })

-- paths at no more than the level lead from each of the two places to the other
abbrev pub AreJoined : List Pass → ℤ → ℕ → ℕ → Type 0
AreJoined passes level x y = ((rest : List ℕ) × IsWayBelow (IsPass passes) y level x rest) × ((rest : List ℕ) × IsWayBelow (IsPass passes) x level y rest)

-- The kept passes span all passes: the two places of each pass are joined over kept ones at no more than its level. So
-- between any two places the least crest stays.
pub record SpanAll (all kept : List Pass) : Type 0 where
  pub only : (p : Pass) → Contains kept p → Contains all p
  pub joined : (p : Pass) → Contains all p → AreJoined kept p.level p.a p.b

-- all places of the passes have numbers below `count`
abbrev pub AreInside : ℕ → List Pass → Type 0
AreInside count passes = (p : Pass) → Contains passes p → (p.a < count) × (p.b < count)
