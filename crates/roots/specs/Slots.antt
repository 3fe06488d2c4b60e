-- Two roots behind gates, and which of them is current (defined by this product).
use Rattle.std.specs.Prelude.{◌≡◌, ◌≢◌, ℕ, ◌≤◌, ◌<◌, List, [], ◌∷◌, Bool, true, false, ◌==◌, slice_index}
use Rattle.disk.specs.Disk.{Image}
use Rattle.page_codec.specs.Numbers.{padded}
use Rattle.page_codec.specs.Roots.{RootValue, IsRoot, root_bytes}
use Rattle.roots.specs.declared.slot.Slot.{Slot}
use Rattle.roots.specs.declared.slot.Slot.TheVariants.{A, B}

-- A gate is open exactly if its first byte is 0xA7.
unfoldable pub is_open : List ℕ → Bool
is_open bytes = slice_index bytes 0 == 167

-- the bytes of a closed gate
abbrev pub closed_gate : List ℕ
closed_gate = padded 4096 []

abbrev pub open_gate : List ℕ
open_gate = padded 4096 (167 ∷ [])

-- the sector of a slot's gate
abbrev pub gate : Slot → ℕ
gate A = 0
gate B = 2

-- the sector of a slot's root
abbrev pub root_sector : Slot → ℕ
root_sector A = 1
root_sector B = 3

abbrev pub other : Slot → Slot
other A = B
other B = A

-- These bytes are the root's only spelling.
pub record IsSpelledBy (root : RootValue) (bytes : List ℕ) : Type 0 where
  pub rules : IsRoot root
  pub spelled : bytes ≡ root_bytes root

-- The bytes spell a root with a lesser commit number.
abbrev pub IsLaterThan : RootValue → List ℕ → Type 0
IsLaterThan root bytes = (earlier : RootValue) × IsSpelledBy earlier bytes × (earlier.number < root.number)

-- The gate of this slot is open, and the root is behind it. If the other gate is open too, a root with a lesser commit
-- number is behind that one.
pub record IsCurrentIn (slot : Slot) (root : RootValue) (image : Image) : Type 0 where
  pub opened : is_open (image (gate slot)) ≡ true
  pub here : IsSpelledBy root (image (root_sector slot))
  pub greatest : is_open (image (gate (other slot))) ≡ true → IsLaterThan root (image (root_sector (other slot)))

-- an image's current root
abbrev pub IsCurrent : RootValue → Image → Type 0
IsCurrent root image = (slot : Slot) × IsCurrentIn slot root image

-- An image has at most one current root.
abbrev pub OneIsCurrent : Type 0
OneIsCurrent = (image : Image) (first second : RootValue) → IsCurrent first image → IsCurrent second image → first ≡ second

-- the current root, and the other slot: a root with a lesser commit number behind an open gate, or a closed gate
pub record IsAt (slot : Slot) (other_open : Bool) (root : RootValue) (image : Image) : Type 0 where
  pub current : IsCurrentIn slot root image
  pub shown : other_open ≡ true → is_open (image (gate (other slot))) ≡ true
  pub shut : other_open ≡ false → is_open (image (gate (other slot))) ≡ false
  pub earlier : other_open ≡ true → IsLaterThan root (image (root_sector (other slot)))

-- The images have the same pages.
abbrev pub SamePages : Image → Image → Type 0
SamePages a b = (k : ℕ) → 4 ≤ k → a k ≡ b k

abbrev pub SamePagesBut : ℕ → Image → Image → Type 0
SamePagesBut p a b = (k : ℕ) → 4 ≤ k → k ≢ p → a k ≡ b k

-- The image has this current root and the pages of one of these images.
abbrev pub KeepsAll : RootValue → (Image → Type 0) → Image → Type 0
KeepsAll root images image = IsCurrent root image × ((d : Image) × images d × SamePages d image)

-- this root stands behind an open gate, current or not
abbrev pub StandsOpen : RootValue → Image → Type 0
StandsOpen root image = (slot : Slot) × (is_open (image (gate slot)) ≡ true) × IsSpelledBy root (image (root_sector slot))

-- what stands behind the gate of this other slot, if that is open, is a root with a lesser commit number
abbrev pub IsNotPassed : Slot → RootValue → Image → Type 0
IsNotPassed slot root image = is_open (image (gate slot)) ≡ true → IsLaterThan root (image (root_sector slot))

-- For who reads beside a writer: while a root other than the current one stands behind an open gate, the pages are those of one of
-- these images in which it stood so.
abbrev pub KeepsEarlier : RootValue → (Image → Type 0) → Image → Type 0
KeepsEarlier root images image = (earlier : RootValue) → earlier ≢ root → StandsOpen earlier image → ((d : Image) × images d × StandsOpen earlier d × SamePages d image)

-- the image has this current root and, except one page, the pages of one of these images
abbrev pub KeepsBut : ℕ → RootValue → (Image → Type 0) → Image → Type 0
KeepsBut p root images image = IsCurrent root image × ((d : Image) × images d × SamePagesBut p d image)
