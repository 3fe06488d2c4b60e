-- The spills of a labelling, cached with its passages by bands of rows. The definitions are this product's own.
use Rattle.std.specs.Prelude.{ℕ, ℤ, List, Option, IfSome}
use Rattle.std.specs.Global.{Vec}
use Rattle.labelling.specs.Spills.{AreSpills}
use Rattle.labelling.specs.declared.spill.Spill.{Spill}
use Rattle.tile_flood.specs.Bands.{AreBands}

-- the passages of a labelling, band by band
abbrev pub SpillLists : Type 0
SpillLists = List (Vec Spill)

-- the spills of each labelling with these bands
abbrev pub AreSpillsOfBands : SpillLists → List Spill → Type 0
AreSpillsOfBands bands spills = (n : ℕ) (levels : List ℤ) (labels : List ℕ) → AreBands n levels labels bands → AreSpills n levels levels labels spills

abbrev pub AreJoined : SpillLists → Option (Vec Spill) → Type 0
AreJoined bands spills = IfSome spills (λ held. AreSpillsOfBands bands held.items)
