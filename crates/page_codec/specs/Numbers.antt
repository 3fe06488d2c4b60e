-- Numbers in sectors (defined by this product): the least significant byte first, signed ones in two's complement.
use Rattle.std.specs.Prelude.{ℕ, ◌-◌, ◌==◌, ℤ, Bool, List, ◌++◌, length, replicate}
use Rattle.std.specs.List.{list_all}
use Rattle.std.specs.Int.{w16, w32, cast_unsigned}
use Rattle.byteorder.specs.Endian.{little_bytes}

unfoldable pub i16_bytes : ℤ → List ℕ
i16_bytes z = little_bytes 2 (cast_unsigned w16 z)

unfoldable pub i32_bytes : ℤ → List ℕ
i32_bytes z = little_bytes 4 (cast_unsigned w32 z)

unfoldable pub u32_bytes : ℕ → List ℕ
u32_bytes n = little_bytes 4 n

unfoldable pub u64_bytes : ℕ → List ℕ
u64_bytes n = little_bytes 8 n

unfoldable pub zeros : ℕ → List ℕ
zeros n = replicate n 0

-- whether all bytes are zero
abbrev pub is_all_zero : List ℕ → Bool
is_all_zero bytes = list_all (λ byte. byte == 0) bytes

-- the bytes, padded with zeros to this length
abbrev pub padded : ℕ → List ℕ → List ℕ
padded n bytes = bytes ++ zeros (n - length bytes)
