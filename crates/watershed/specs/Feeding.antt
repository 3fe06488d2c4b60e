-- The points that drain straight to a point, found one direction after another.
use Rattle.std.specs.Prelude.{◌≡◌, ◌⊎◌, List, [], ◌∷◌, ◌++◌}
use Rattle.lattice.specs.declared.point.Point.{Point}
use Rattle.lattice.specs.declared.direction.Dir.{Dir}
use Rattle.lattice.specs.Steps.{step}

-- the neighbour in this direction is added if it drains back
abbrev pub IsDonorAdded : (Dir → Type 0) → Point → Dir → List Point → List Point → Type 0
IsDonorAdded Drains p d old new = ((new ≡ old ++ step d p ∷ []) × Drains d) ⊎ ((new ≡ old) × (Drains d → ⊥))
