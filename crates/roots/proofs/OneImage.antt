-- What is read between two confirmations.
use Rattle.std.proofs.Common.{◌≡◌, ◌≤◌, ℕ, List, true, sym, ◌∙◌, ap, subst, arith}
use Rattle.disk.specs.Disk.{Image}
use Rattle.page_codec.specs.Roots.{RootValue}
use Rattle.roots.specs.declared.slot.Slot.{Slot}
use Rattle.roots.specs.Slots.{is_open, gate, root_sector, IsSpelledBy}
use Rattle.roots.specs.Shared.{TimedReading, IsTrueReading, IsThere, StandsAt, IsKeptFor, IsConfirmed, ReadersSeeOneImage}

-- bytes that were read of a sector
of : (images : ℕ → Image) (reading : TimedReading) (s : ℕ) (P : List ℕ → Type 0) → IsTrueReading images reading → reading.sector ≡ s → P reading.bytes → P (images reading.at s)
of images reading s P true_reading at p = subst P (true_reading ∙ ap (λ (k : ℕ). images reading.at k) at) p

-- when the gate was read, it was the gate of this root
stood : (images : ℕ → Image) (slot : Slot) (root : RootValue) (reached : List ℕ) (pages : Image) → IsKeptFor images slot root reached pages
    → (a b c : TimedReading) → IsConfirmed images slot root a b c → StandsAt images slot root b.at
stood images slot root reached pages kept a b c is = (
  of images b (gate slot) (λ (l : List ℕ). is_open l ≡ true) is.true_gate is.at_gate is.was_open,
  kept.there_once a.at b.at c.at is.first is.second
      (of images a (root_sector slot) (λ (l : List ℕ). IsSpelledBy root l) is.true_before is.at_root_before is.was_there)
      (of images c (root_sector slot) (λ (l : List ℕ). IsSpelledBy root l) is.true_after is.at_root_after is.is_there),
)

pub one_image : ReadersSeeOneImage
one_image images slot root reached pages kept a b c d e f before after reading true_reading reaches from to =
    let stands = kept.stands_once b.at reading.at e.at from to (stood images slot root reached pages kept a b c before) (stood images slot root reached pages kept d e f after) in
    true_reading ∙ kept.keeps reading.at reading.sector stands reaches
