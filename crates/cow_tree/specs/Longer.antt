-- What a lengthened disk stores (defined by this product).
use Rattle.std.specs.Prelude.{◌≡◌, ℕ, ◌<◌, ◌≤◌}
use Rattle.disk.specs.Disk.{Image}
use Rattle.cow_tree.specs.Stored.{Stored}
use Rattle.cow_tree.specs.Layout.{Stands}

-- The images agree on the first n sectors.
abbrev pub AgreesBelow : ℕ → Image → Image → Type 0
AgreesBelow sectors a b = (k : ℕ) → k < sectors → a k ≡ b k

-- A lengthened disk whose first sectors are unchanged stores the same.
abbrev pub StandsWhereLonger : Type 0
StandsWhereLonger = (sectors more : ℕ) (image longer : Image) (stored : Stored) → sectors ≤ more → AgreesBelow sectors image longer → Stands sectors image stored → Stands more longer stored
