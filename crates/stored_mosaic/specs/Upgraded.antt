-- A store's tree after an upgrade (defined by this product).
use Rattle.std.specs.Prelude.{◌≡◌, ◌+◌, ℕ, nat_le, Bool, true, false, Result}
use Rattle.disk.specs.declared.disk.Disk.{Ghosts}
use Rattle.lattice.specs.declared.refusal.Refusal.{Refusal}
use Rattle.lattice.specs.declared.refusal.Refusal.TheVariants.{Device, NoMemory, Failed, Worn, TooSmall, NotOld}
use Rattle.page_codec.specs.Formats.{upgraded}
use Rattle.page_codec.specs.Sizes.{sectors_asked}
use Rattle.page_codec.specs.declared.version.Version.TheVariants.{Two}
use Rattle.page_codec.specs.Roots.{RootValue, format_of}
use Rattle.engine.specs.Steps.{Upgrades}
use Rattle.cow_tree.specs.Trees.{disk_of, root_of}
use Rattle.cow_tree.specs.declared.tree.Tree.{Tree}
use Rattle.stored_mosaic.specs.Ended.{Ending, HasEnded}

-- whether this many sectors suffice for the second version of the store with this root
abbrev pub has_room : ℕ → RootValue → Bool
has_room sectors root = nat_le (sectors_asked (upgraded (format_of root))) sectors

abbrev pub may_refuse_upgrade : Refusal → Bool
may_refuse_upgrade Failed = true
may_refuse_upgrade NotOld = true
may_refuse_upgrade TooSmall = true
may_refuse_upgrade Worn = true
may_refuse_upgrade NoMemory = true
may_refuse_upgrade Device = true
may_refuse_upgrade r = false

-- the root after an upgrade: one more commit, in the second version, with the same count
pub record UpgradesOn (was root : RootValue) : Type 0 where
  pub version : root.version ≡ Two
  pub count : root.count ≡ was.count
  pub number : root.number ≡ was.number + 1

-- how an upgrade of a store with this root ends, on this many sectors
abbrev pub upgrade_ending : ℕ → RootValue → Ending (Unit {0})
upgrade_ending sectors root = record {
  may_refuse = may_refuse_upgrade;
  is_idle = λ done. false;
  Knows = λ was done now. UpgradesOn was now;
  Happens = λ s result t. Upgrades (has_room sectors root) s result t;
}

-- A tree made the upgrade, with this result.
abbrev pub IsUpgraded : {D : Type 0} (g : Ghosts D) → Result (Unit {0}) Refusal → Tree D g → Tree D g → Type 0
IsUpgraded g result old new = HasEnded g (upgrade_ending (g.size (disk_of old)) (root_of old)) result old new
