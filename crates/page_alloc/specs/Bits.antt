-- Bits in words of 64: bit n is bit n % 64 of word n / 64, counted from the lowest. After the last word no bit is set.
use Rattle.std.specs.Prelude.{ℕ, ◌/◌, ◌%◌, List, Bool, nat_eq, slice_index}
use Rattle.std.specs.Int.{bit_at}

-- whether the bit with this number is set
unfoldable pub has_bit : List ℕ → ℕ → Bool
has_bit words bit = nat_eq (bit_at (slice_index words (bit / 64)) (bit % 64)) 1
