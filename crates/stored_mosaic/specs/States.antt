-- Which images of a store's disk a state allows (defined by this product).
use Rattle.std.specs.Prelude.{◌≡◌, ◌⊎◌, ℕ, Some}
use Rattle.disk.specs.Disk.{Image}
use Rattle.engine.specs.State.{Contents, State}
use Rattle.stored_mosaic.specs.Standing.{StandsFor}

-- The image stores the last known contents, or those of the commit in doubt.
abbrev pub StandsForState : (sectors side capacity : ℕ) → Image → State → Type 0
StandsForState sectors side capacity image s =
    StandsFor sectors side capacity image s.contents
    ⊎ ((doubted : Contents) × (s.doubt ≡ Some doubted) × StandsFor sectors side capacity image doubted)
