-- The sides and capacities that a store may have (defined by this product).
use Rattle.std.specs.Prelude.{◌≡◌, ◌⊎◌, ◌<◌, ◌≤◌, ℕ}
use Rattle.lattice.specs.Limits.{largest_side, most_tiles}
use Rattle.lattice.specs.declared.refusal.Refusal.{Refusal}
use Rattle.lattice.specs.declared.refusal.Refusal.TheVariants.{BadSide, BadCapacity}

-- A store of this side and capacity is allowed.
pub record IsTaken (side capacity : ℕ) : Type 0 where
  pub side_low : 3 ≤ side
  pub side_high : side ≤ largest_side
  pub capacity_low : 1 ≤ capacity
  pub capacity_high : capacity ≤ most_tiles

-- Such a store is refused; the side is tested first, then the capacity.
abbrev pub IsRefusedFor : (side capacity : ℕ) → Refusal → Type 0
IsRefusedFor side capacity refusal =
    (((side < 3) ⊎ (largest_side < side)) × (refusal ≡ BadSide))
    ⊎ ((3 ≤ side) × (side ≤ largest_side) × ((capacity < 1) ⊎ (most_tiles < capacity)) × (refusal ≡ BadCapacity))
