-- HGT bytes (SRTM documentation): signed 16-bit samples in metres, most significant byte first, without header and
-- trailer; lines from north to south, in a line from west to east.
use Rattle.std.specs.Prelude.{◌≡◌, ℕ, suc, ◌+◌, ◌-◌, ◌*◌, ◌/◌, ◌%◌, ◌<◌, ℤ, pos, negsuc, ◌-ℤ◌, nat_lt, if◌then◌else◌, List, [], ◌∷◌, length, slice_index, slice_index_or}

-- the sample as an unsigned number of two bytes: plus 65536 if it is negative (negsuc n is -(n + 1))
abbrev pub unsigned_of : ℤ → ℕ
unsigned_of (pos n) = n
unsigned_of (negsuc n) = 65536 - suc n

-- the bytes are the HGT bytes of n by n samples
pub record AreHgtBytes (n : ℕ) (bytes : List ℕ) (samples : List ℤ) : Type 0 where
  pub two_each : length bytes ≡ 2 * (n * n)
  pub whole : length samples ≡ n * n
  pub each : (e : ℕ) → e < n * n → 256 * slice_index bytes (2 * e) + slice_index bytes (2 * e + 1) ≡ unsigned_of (slice_index_or samples e (pos 0))

-- ---- functions that compute the samples in bytes and the bytes of samples

-- the sample that two bytes spell
abbrev pub sample_of : ℕ → ℕ → ℤ
sample_of high low = if nat_lt high 128 then pos (256 * high + low) else pos (256 * high + low) -ℤ pos 65536

abbrev pub samples_in : List ℕ → List ℤ
samples_in (high ∷ low ∷ rest) = sample_of high low ∷ samples_in rest
samples_in _ = []

abbrev pub high_byte : ℤ → ℕ
high_byte s = unsigned_of s / 256 % 256

abbrev pub low_byte : ℤ → ℕ
low_byte s = unsigned_of s % 256

abbrev pub hgt_bytes : List ℤ → List ℕ
hgt_bytes [] = []
hgt_bytes (s ∷ rest) = high_byte s ∷ low_byte s ∷ hgt_bytes rest
