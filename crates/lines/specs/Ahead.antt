-- The buffer of bytes that were read ahead, and what is taken from it and from the reader (defined by this product).
use Rattle.std.specs.Prelude.{ℕ, ◌+◌, ◌*◌, ◌<◌, ◌≤◌, List, length, Option, refl}
use Rattle.std.specs.Coded.{Coded, code_by, coded_list, coded_ℕ, coded×}
use Rattle.std.specs.Io.KnownBytes.{prepend_known, Consumes}
use Rattle.lines.specs.declared.ahead.Room.{Room}
use Rattle.lines.specs.declared.ahead.Room.TheVariants.{Heap, Inline}
use Rattle.lines.specs.declared.ahead.TheConstants.{CHUNK}

-- the bytes read and not yet taken, the size of the last read, and the number of reads that may still be made
pub record Lookahead : Type 0 where
  pub bytes : List ℕ
  pub given : ℕ
  pub reads : ℕ

abbrev pub lookahead_code : Coded Lookahead
lookahead_code = code_by ((List ℕ) × (ℕ × ℕ)) (coded× (coded_list coded_ℕ) (coded× coded_ℕ coded_ℕ)) (λ a. (a.bytes, (a.given, a.reads))) (λ p. record { bytes = p.0; given = p.1.0; reads = p.1.1 }) (λ _. refl)

-- the bytes of the buffer
abbrev pub bytes_of : Room → List ℕ
bytes_of (Heap bytes) = bytes.items
bytes_of (Inline bytes) = bytes

-- The buffer has room for one byte at least and one chunk at most.
abbrev pub is_usable : ℕ → Type 0
is_usable n = (0 < n) × (n ≤ CHUNK)

-- the bytes still to be taken: those in the buffer, then those of the reader
abbrev pub to_come : Lookahead → Option (List ℕ) → Option (List ℕ)
to_come ahead remaining = prepend_known ahead.bytes remaining

-- These bytes were taken.
abbrev pub Taken : Lookahead → Option (List ℕ) → Lookahead → Option (List ℕ) → List ℕ → Type 0
Taken old old_remaining new new_remaining bytes = Consumes (to_come old old_remaining) (to_come new new_remaining) bytes

-- The bytes are fewer than one read gives.
abbrev pub IsNear : List ℕ → Type 0
IsNear bytes = length bytes < CHUNK

-- The buffer has the rest of the last read, from which at least one byte was taken. So that read gave the last byte
-- taken, and no read came after it.
pub record IsRest (ahead : Lookahead) : Type 0 where
  pub some_taken : length ahead.bytes < ahead.given
  pub near : IsNear ahead.bytes

-- a measure that each read and each byte taken reduces
abbrev pub weight : Lookahead → ℕ
weight ahead = (CHUNK + 1) * ahead.reads + length ahead.bytes
