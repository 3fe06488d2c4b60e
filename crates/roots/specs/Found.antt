-- What the steps of opening and of a commit pass to one another.
use Rattle.std.specs.Prelude.{◌≡◌, ◌≢◌, ◌⊎◌, ◌<◌, Option, Some, None, Result, Ok, Err, Bool, true, false}
use Rattle.disk.specs.Disk.{Image, SameBut, TornAt}
use Rattle.disk.specs.Stops.{AddsNothing}
use Rattle.disk.specs.declared.disk.Disk.{Ghosts}
use Rattle.lattice.specs.declared.refusal.Refusal.{Refusal}
use Rattle.page_codec.specs.Roots.{RootValue}
use Rattle.page_codec.specs.declared.damaged.Damaged.{Damaged}
use Rattle.roots.specs.Opening.{ReadsAs}
use Rattle.roots.specs.Slots.{gate, root_sector, IsSpelledBy, IsCurrent, SamePages, StandsOpen}
use Rattle.roots.specs.declared.opening.Found.{Found}
use Rattle.roots.specs.declared.slot.Slot.{Slot}
use Rattle.roots.specs.declared.slot.Slot.TheVariants.{A, B}

-- The run made no writes or syncs.
pub record OnlyReads {D : Type 0} (g : Ghosts D) (old new : D) : Type 0 where
  pub size : g.size new ≡ g.size old
  pub writes : g.writes new ≡ g.writes old
  pub seen : g.honest new → g.seen new ≡ g.seen old
  pub nothing : g.honest new → AddsNothing g old new

-- the contents of a slot whose gate was read as open or closed
abbrev pub HoldsBehind : Bool → Slot → Image → Option (Result RootValue Damaged) → Type 0
HoldsBehind opened slot image None = opened ≡ false
HoldsBehind opened slot image (Some read) = (opened ≡ true) × ReadsAs (image (root_sector slot)) read

-- The other slot has no root, or an earlier one.
abbrev pub HoldsEarlier : Bool → RootValue → Option (Result RootValue Damaged) → Type 0
HoldsEarlier false root held = held ≡ None
HoldsEarlier true root held = (earlier : RootValue) × (held ≡ Some (Ok earlier)) × (earlier.number < root.number)

-- By the contents of slots A and B, the root in this slot is the current one.
abbrev pub FoundIn : Slot → Bool → RootValue → Option (Result RootValue Damaged) → Option (Result RootValue Damaged) → Type 0
FoundIn A other_open root a b = (a ≡ Some (Ok root)) × HoldsEarlier other_open root b
FoundIn B other_open root a b = (b ≡ Some (Ok root)) × HoldsEarlier other_open root a

-- the root that opening found, or the refusal
abbrev pub found_as : Result Found Refusal → Result RootValue Refusal
found_as (Ok found) = Ok found.root
found_as (Err refusal) = Err refusal

-- While a slot is filled, its root is torn, or its root is whole and its gate is torn.
abbrev pub Filling : Slot → RootValue → (Image → Type 0) → Image → Image → Type 0
Filling slot root images seen image =
    TornAt (root_sector slot) images image
    ⊎ ((d : Image) × SameBut (root_sector slot) seen d × IsSpelledBy root (d (root_sector slot)) × SameBut (gate slot) d image)

-- while a root other than the current one and the next one stands open, the pages are those of one of these images in which it stood so
abbrev pub KeepsEarlierYet : RootValue → RootValue → (Image → Type 0) → Image → Type 0
KeepsEarlierYet root next images image = (earlier : RootValue) → earlier ≢ root → earlier ≢ next → StandsOpen earlier image → ((d : Image) × images d × StandsOpen earlier d × SamePages d image)

-- the image has this current root, and the pages of that image
abbrev pub HasMoved : RootValue → Image → Image → Type 0
HasMoved root pages image = IsCurrent root image × SamePages pages image
