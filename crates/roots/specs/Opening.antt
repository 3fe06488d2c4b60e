-- What opening answers on an image (defined by this product).
use Rattle.std.specs.Prelude.{◌≡◌, ◌⊎◌, ◌↔◌, ℕ, ◌≤◌, ◌<◌, List, Option, Some, None, Result, Ok, Err, true, false, nat_lt, ◌==◌, if◌then◌else◌}
use Rattle.disk.specs.Disk.{Image}
use Rattle.lattice.specs.declared.refusal.Refusal.{Refusal}
use Rattle.lattice.specs.declared.refusal.Refusal.TheVariants as refusal
use Rattle.page_codec.specs.Roots.{RootValue, format_of, HasMagic, HasKnownVersion}
use Rattle.page_codec.specs.Sizes.{sectors_asked}
use Rattle.page_codec.specs.declared.damaged.Damaged.{Damaged}
use Rattle.page_codec.specs.declared.damaged.Damaged.TheVariants.{Magic, Version, Rule}
use Rattle.roots.specs.declared.slot.Slot.{Slot}
use Rattle.roots.specs.declared.slot.Slot.TheVariants.{A, B}
use Rattle.roots.specs.Slots.{is_open, gate, root_sector, IsSpelledBy, IsCurrent}

-- the refusal for the first test of a root's bytes that fails
abbrev pub FailsAs : List ℕ → Damaged → Type 0
FailsAs bytes Magic = ¬ HasMagic bytes
FailsAs bytes Version = HasMagic bytes × (¬ HasKnownVersion bytes)
FailsAs bytes Rule = HasMagic bytes × HasKnownVersion bytes × ((root : RootValue) → ¬ IsSpelledBy root bytes)

-- Reading the bytes gives this root or this refusal.
abbrev pub ReadsAs : List ℕ → Result RootValue Damaged → Type 0
ReadsAs bytes (Ok root) = IsSpelledBy root bytes
ReadsAs bytes (Err why) = FailsAs bytes why

-- the contents of a slot: nothing behind a closed gate, otherwise the value of its root's bytes
abbrev pub Holds : Slot → Image → Option (Result RootValue Damaged) → Type 0
Holds slot image None = is_open (image (gate slot)) ≡ false
Holds slot image (Some read) = (is_open (image (gate slot)) ≡ true) × ReadsAs (image (root_sector slot)) read

abbrev pub refusal_of : Damaged → Refusal
refusal_of Magic = refusal.NotAStore
refusal_of Version = refusal.Version
refusal_of Rule = refusal.Damaged

-- of two roots, the one with the greater commit number
abbrev pub later : RootValue → RootValue → Result RootValue Refusal
later a b = if a.number == b.number then Err refusal.Damaged else Ok (if nat_lt a.number b.number then b else a)

-- the current root, by the contents of slots A and B; slot A is judged first
abbrev pub chosen : Option (Result RootValue Damaged) → Option (Result RootValue Damaged) → Result RootValue Refusal
chosen None None = Err refusal.NotAStore
chosen (Some (Err why)) b = Err (refusal_of why)
chosen None (Some (Err why)) = Err (refusal_of why)
chosen (Some (Ok a)) (Some (Err why)) = Err (refusal_of why)
chosen (Some (Ok a)) None = Ok a
chosen None (Some (Ok b)) = Ok b
chosen (Some (Ok a)) (Some (Ok b)) = later a b

-- the last test of opening: the disk has the sectors that a store of the current root's format needs
abbrev pub fitting : ℕ → Result RootValue Refusal → Result RootValue Refusal
fitting sectors (Err why) = Err why
fitting sectors (Ok root) = if nat_lt sectors (sectors_asked (format_of root)) then Err refusal.TooSmall else Ok root

-- what opening answers on a disk with this many sectors and this image, if no call fails
abbrev pub OpensAs : ℕ → Image → Result RootValue Refusal → Type 0
OpensAs sectors image answer =
    ((sectors < 4) × (answer ≡ Err refusal.NotAStore))
    ⊎ ((4 ≤ sectors) × ((a b : Option (Result RootValue Damaged)) × Holds A image a × Holds B image b × (answer ≡ fitting sectors (chosen a b))))

-- the refusals that opening may answer, on any disk
abbrev pub IsRefusalOfOpening : Refusal → Type 0
IsRefusalOfOpening why =
    (why ≡ refusal.Device) ⊎ ((why ≡ refusal.NotAStore) ⊎ ((why ≡ refusal.Version) ⊎ ((why ≡ refusal.Damaged) ⊎ (why ≡ refusal.TooSmall))))

-- The image has this current root, and the disk has enough sectors for it.
abbrev pub HoldsStore : ℕ → Image → RootValue → Type 0
HoldsStore sectors image root = IsCurrent root image × (sectors_asked (format_of root) ≤ sectors)

-- Opening has only one answer on an image.
abbrev pub OpeningAnswersOnce : Type 0
OpeningAnswersOnce = (sectors : ℕ) (image : Image) (x y : Result RootValue Refusal) → OpensAs sectors image x → OpensAs sectors image y → x ≡ y

-- Opening answers Ok exactly where the image has a current root and the disk has room for its store.
abbrev pub StoresOpen : Type 0
StoresOpen = (sectors : ℕ) (image : Image) (root : RootValue) → OpensAs sectors image (Ok root) ↔ HoldsStore sectors image root
