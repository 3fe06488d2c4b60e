-- How a query may be refused. The definitions are this product's own.
use Rattle.std.specs.Prelude.{ℕ, Bool, true, List, Contains}
use Rattle.lattice.specs.Corners.{Corner}
use Rattle.lattice.specs.Lattice.{Holds}
use Rattle.lattice.specs.declared.point.Point.{Point}
use Rattle.lattice.specs.declared.refusal.Refusal.{Refusal}
use Rattle.lattice.specs.declared.refusal.Refusal.TheVariants.{Outside, Void}
use Rattle.catalogue.specs.Endings.{ends_any}

-- none of these corners' tiles holds the point
abbrev pub IsHeldByNone : ℕ → List Corner → Point → Type 0
IsHeldByNone n corners p = (c : Corner) → Contains corners c → Holds n c p → ⊥

-- a query's possible refusals: Outside, Void, NoMemory, and those of a read
abbrev pub may_refuse : Refusal → Bool
may_refuse Outside = true
may_refuse Void = true
may_refuse r = ends_any r
