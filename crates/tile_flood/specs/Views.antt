-- The block of a `BlockView`, and the definitions of specs/Restoring for the `Planes` that a function reads.
use Rattle.std.specs.Prelude.{ℕ, Bool, List}
use Rattle.lattice.specs.Block.{Block}
use Rattle.labelling.specs.Blocks.{block_of}
use Rattle.tile_flood.specs.Restoring.{AreFitting, AreStanding, IsFitting, StandStill}
use Rattle.tile_flood.specs.declared.views.BlockView.{BlockView}
use Rattle.tile_flood.specs.declared.views.Planes.{Planes}

abbrev pub viewed_block : BlockView → Block
viewed_block v = block_of v.n v.heights.now v.sinks.now

abbrev pub AreStandingIn : Planes → List Bool → Type 0
AreStandingIn p = AreStanding p.block.n p.block.heights.now p.block.sinks.now p.levels.now p.labels.now

abbrev pub IsFittingIn : Planes → List ℕ → ℕ → Type 0
IsFittingIn p = IsFitting p.block.n p.block.heights.now p.block.sinks.now p.levels.now p.labels.now

abbrev pub AreFittingIn : Planes → List ℕ → ℕ → Type 0
AreFittingIn p = AreFitting p.block.n p.block.heights.now p.block.sinks.now p.levels.now p.labels.now

abbrev pub StandStillIn : Planes → List Bool → List Bool → Type 0
StandStillIn p = StandStill p.block.n p.levels.now p.labels.now
