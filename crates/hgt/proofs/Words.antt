-- A sample as a 16-bit machine number, and as two bytes.
use Rattle.std.proofs.Common.{◌≡◌, ℕ, ◌+◌, ◌*◌, ◌<◌, ℤ, pos, negsuc, refl, arith, SFits, of_z, to_z, w16, List, get_or, drop, ap, ◌∙◌, add-zero}
use Rattle.std.proofs.lemmas.Int.{ints}
use Rattle.std.proofs.lemmas.List.{get_or-drop}
use Rattle.lattice.specs.Mosaic.{IsSample}
use Rattle.hgt.specs.Bytes.{unsigned_of, sample_of, high_byte, low_byte}

pub word_of_sample : (s : ℤ) → of_z w16 s ≡ unsigned_of s
word_of_sample (pos n) = refl
word_of_sample (negsuc n) = refl

pub sample_of_word : (h l : ℕ) → h < 256 → l < 256 → to_z w16 (h * 256 + l) ≡ sample_of h l
sample_of_word h l high low = grind (arith, ints)

pub IsSample-from_fits : (s : ℤ) → SFits w16 s → IsSample s
IsSample-from_fits s fits = (omega (arith, ints), omega (arith, ints))

pub sample_of_bytes : (s : ℤ) → IsSample s → sample_of (high_byte s) (low_byte s) ≡ s
sample_of_bytes (pos n) is = grind (arith, ints)
sample_of_bytes (negsuc n) is = grind (arith, ints)

pub high_byte_of : (h l : ℕ) → h < 256 → l < 256 → high_byte (sample_of h l) ≡ h
high_byte_of h l high low = grind (arith, ints)

pub low_byte_of : (h l : ℕ) → h < 256 → l < 256 → low_byte (sample_of h l) ≡ l
low_byte_of h l high low = grind (arith, ints)

pub unsigned-sample_of : (h l : ℕ) → h < 256 → l < 256 → 256 * h + l ≡ unsigned_of (sample_of h l)
unsigned-sample_of h l high low = grind (arith, ints)

pub sample_of_pair : (h l : ℕ) (s : ℤ) → h < 256 → l < 256 → IsSample s → 256 * h + l ≡ unsigned_of s → s ≡ sample_of h l
sample_of_pair h l (pos n) high low is e = grind (arith, ints)
sample_of_pair h l (negsuc n) high low is e = grind (arith, ints)

pub byte-high_byte : (s : ℤ) → high_byte s < 256
byte-high_byte s = omega arith

pub byte-low_byte : (s : ℤ) → low_byte s < 256
byte-low_byte s = omega arith

-- the sample as the code reads it
pub sample_of_reads : (bytes : List ℕ) (k : ℕ) → get_or bytes k 0 < 256 → get_or bytes (k + 1) 0 < 256
    → to_z w16 (get_or (drop k bytes) 0 0 * 256 + (get_or (drop k bytes) 1 0 * 1 + 0)) ≡ sample_of (get_or bytes k 0) (get_or bytes (k + 1) 0)
sample_of_reads bytes k high low =
    let word : get_or (drop k bytes) 0 0 * 256 + (get_or (drop k bytes) 1 0 * 1 + 0) ≡ get_or bytes k 0 * 256 + get_or bytes (k + 1) 0 =
    omega (arith, get_or-drop k bytes 0 0, get_or-drop k bytes 1 0, ap (λ n. get_or bytes n 0) (add-zero k)) in
    ap (to_z w16) word ∙ sample_of_word (get_or bytes k 0) (get_or bytes (k + 1) 0) high low
