-- How an upgrade changes a store, and when it is refused (defined by this product).
use Rattle.std.specs.Prelude.{◌≡◌, ℕ, ◌+◌, ◌*◌, ◌<◌, ◌≤◌, ◌^◌, length}
use Rattle.lattice.specs.declared.refusal.Refusal.{Refusal}
use Rattle.lattice.specs.declared.refusal.Refusal.TheVariants.{Device, NoMemory, Worn, TooSmall, NotOld}
use Rattle.page_codec.specs.Formats.{upgraded}
use Rattle.page_codec.specs.Sizes.{index_pages_of, sectors_asked}
use Rattle.page_codec.specs.declared.version.Version.TheVariants.{One, Two}
use Rattle.page_codec.specs.Roots.{RootValue, format_of}
use Rattle.cow_tree.specs.Stored.{Stored}

-- the store after one commit in the second version: the tiles, the sinks and the count stay
abbrev pub upgraded_store : Stored → Stored
upgraded_store was = record was { version = Two; number = was.number + 1 }

-- the number of sectors that the second version needs for the store of this root
abbrev pub sectors_upgraded : RootValue → ℕ
sectors_upgraded root = sectors_asked (upgraded (format_of root))

-- The store is of the first version, the disk has the sectors that the second needs, and the commit number can grow.
pub record MayUpgrade (sectors : ℕ) (root : RootValue) : Type 0 where
  pub old : root.version ≡ One
  pub room : sectors_upgraded root ≤ sectors
  pub number : root.number + 1 < 2 ^ 64

-- the reason for a refused upgrade, tested in this order
abbrev pub UpgradesNot : ℕ → RootValue → Refusal → Type 0
UpgradesNot sectors root NotOld = root.version ≡ Two
UpgradesNot sectors root TooSmall = (root.version ≡ One) × (sectors < sectors_upgraded root)
UpgradesNot sectors root Worn = (root.version ≡ One) × (sectors_upgraded root ≤ sectors) × (¬ (root.number + 1 < 2 ^ 64))
UpgradesNot sectors root NoMemory = MayUpgrade sectors root
UpgradesNot sectors root Device = MayUpgrade sectors root
UpgradesNot sectors root why = ⊥

-- the most writes: a record and its index pages for each of three planes a tile, a root and two gates
abbrev pub most_upgrade_writes : RootValue → ℕ
most_upgrade_writes root = 3 * (1 + index_pages_of (upgraded (format_of root))) * length root.entries + 3
