-- Reducing a tile's spills to fewer, over which water gets as low. The definitions are this product's own.
use Rattle.std.specs.Prelude.{◌≡◌, ◌≢◌, ℕ, ◌+◌, ◌<◌, ◌⊎◌, ◌++◌, ◌∷◌, [], ℤ, List, Contains, nat_eq, if◌then◌else◌, slice_index_or}
use Rattle.labelling.specs.declared.spill.Spill.{Spill}
use Rattle.labelling.specs.Labelling.{OUT}
use Rattle.border_graph.specs.Links.{IsWayBelow}
use Rattle.border_graph.specs.Passes.{AreInside}
use Rattle.border_graph.specs.declared.pass.Pass.{Pass}

-- water that drains to the label x crosses at this level to water that drains to the label y. Nothing crosses from OUT
abbrev pub IsCrossing : List Spill → ℕ → ℕ → ℤ → Type 0
IsCrossing spills x y level = (x ≢ OUT) × (Contains spills (record { a = x; b = y; level = level }) ⊎ Contains spills (record { a = y; b = x; level = level }))

-- x is the number of one of `size` rim points, or OUT
abbrev pub IsLabelOf : ℕ → ℕ → Type 0
IsLabelOf size x = (x < size) ⊎ (x ≡ OUT)

-- The kept spills suffice: wherever a spill leads from one label to another, kept spills lead there, or out, at no more than
-- its level. So the least level at which water gets out from any label stays.
pub record Suffice (size : ℕ) (all kept : List Spill) : Type 0 where
  pub only : (s : Spill) → Contains kept s → Contains all s
  pub crossed : (x y : ℕ) (level : ℤ) → IsLabelOf size x → IsLabelOf size y → IsCrossing all x y level
      → ((rest : List ℕ) × IsWayBelow (IsCrossing kept) y level x rest) ⊎ ((rest : List ℕ) × IsWayBelow (IsCrossing kept) OUT level x rest)

-- the label of a place: a rim number itself, and OUT for the number after the last
abbrev pub label_of : ℕ → ℕ → ℕ
label_of size place = if nat_eq place size then OUT else place

-- the pass between two places, as the spill between their labels
abbrev pub spill_of : ℕ → Pass → Spill
spill_of size pass = record { a = label_of size pass.a; b = label_of size pass.b; level = pass.level }

-- the spill is listed as a pass, if both its labels are labels of the tile
abbrev pub IsPassListed : ℕ → Spill → List Pass → List Pass → Type 0
IsPassListed size spill old new = ((new ≡ old) × (IsLabelOf size spill.a → IsLabelOf size spill.b → ⊥))
    ⊎ ((pass : Pass) × ((new ≡ old ++ pass ∷ []) × ((spill_of size pass ≡ spill) × ((pass.a < size + 1) × (pass.b < size + 1)))))

-- the passes are the first `count` spills, without those that have a label foreign to the tile
pub record ArePassesOf (size : ℕ) (spills : List Spill) (count : ℕ) (passes : List Pass) : Type 0 where
  pub inside : AreInside (size + 1) passes
  pub from : (p : Pass) → Contains passes p → Contains spills (spill_of size p)
  pub listed : (j : ℕ) (d : Spill) → j < count → IsLabelOf size (slice_index_or spills j d).a → IsLabelOf size (slice_index_or spills j d).b
      → (p : Pass) × (Contains passes p × (spill_of size p ≡ slice_index_or spills j d))
