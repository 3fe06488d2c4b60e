-- A file that is read beside its writer. Source: this product's own model of a reader.
use Rattle.std.specs.Prelude.{◌≡◌, ℕ, ◌≤◌, List, Contains, true}
use Rattle.disk.specs.Disk.{Image}
use Rattle.page_codec.specs.Roots.{RootValue}
use Rattle.roots.specs.declared.slot.Slot.{Slot}
use Rattle.roots.specs.Slots.{is_open, gate, root_sector, IsSpelledBy}

-- a sector that was read at some moment, with the bytes that came
pub record TimedReading : Type 0 where
  pub at : ℕ
  pub sector : ℕ
  pub bytes : List ℕ

-- What the file's sectors hold as time goes on. While a sector is written it may hold any bytes.
module _ (images : ℕ → Image) where
  -- a read gives what its sector holds at that moment
  abbrev pub IsTrueReading : TimedReading → Type 0
  IsTrueReading reading = reading.bytes ≡ images reading.at reading.sector

  module _ (slot : Slot) (root : RootValue) where
    -- the root is in its sector, behind whatever gate
    abbrev pub IsThere : ℕ → Type 0
    IsThere n = IsSpelledBy root (images n (root_sector slot))

    -- the root is in its sector behind an open gate
    abbrev pub StandsAt : ℕ → Type 0
    StandsAt n = (is_open (images n (gate slot)) ≡ true) × IsThere n

    -- What a writer owes its readers: a root that was written over doesn't come back, nor one whose gate was closed, and while a root
    -- stands the pages that it reaches are these.
    pub record IsKeptFor (reached : List ℕ) (pages : Image) : Type 0 where
      pub there_once : (a n b : ℕ) → a ≤ n → n ≤ b → IsThere a → IsThere b → IsThere n
      pub stands_once : (a n b : ℕ) → a ≤ n → n ≤ b → StandsAt a → StandsAt b → StandsAt n
      pub keeps : (n k : ℕ) → StandsAt n → Contains reached k → images n k ≡ pages k

    -- the root was read, then its gate, which was open, and then the root again
    pub record IsConfirmed (root_before gate_after root_after : TimedReading) : Type 0 where
      pub true_before : IsTrueReading root_before
      pub true_gate : IsTrueReading gate_after
      pub true_after : IsTrueReading root_after
      pub at_root_before : root_before.sector ≡ root_sector slot
      pub at_gate : gate_after.sector ≡ gate slot
      pub at_root_after : root_after.sector ≡ root_sector slot
      pub first : root_before.at ≤ gate_after.at
      pub second : gate_after.at ≤ root_after.at
      pub was_there : IsSpelledBy root root_before.bytes
      pub was_open : is_open gate_after.bytes ≡ true
      pub is_there : IsSpelledBy root root_after.bytes

-- What is read between two confirmations of a root, of pages that it reaches, is of one image: that which has them as they were when it
-- was committed.
abbrev pub ReadersSeeOneImage : Type 0
ReadersSeeOneImage = (images : ℕ → Image) (slot : Slot) (root : RootValue) (reached : List ℕ) (pages : Image) → IsKeptFor images slot root reached pages
    → (a b c d e f : TimedReading) → IsConfirmed images slot root a b c → IsConfirmed images slot root d e f
    → (reading : TimedReading) → IsTrueReading images reading → Contains reached reading.sector → b.at ≤ reading.at → reading.at ≤ e.at → reading.bytes ≡ pages reading.sector
