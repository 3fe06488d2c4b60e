-- Laws of HGT bytes: 16-bit samples and their bytes determine each other.
use Rattle.std.specs.Prelude.{◌≡◌, ℕ, ◌*◌, ◌%◌, ◌<◌, ℤ, List, All, length}
use Rattle.lattice.specs.Mosaic.{IsSample}
use Rattle.hgt.specs.Bytes.{AreHgtBytes, samples_in, hgt_bytes}

abbrev pub IsByte : ℕ → Type 0
IsByte b = b < 256

-- Bytes are the HGT bytes of at most one list of samples.
abbrev pub SamplesAreDetermined : Type 0
SamplesAreDetermined = (n : ℕ) (bytes : List ℕ) (samples : List ℤ) → All IsByte bytes → All IsSample samples → AreHgtBytes n bytes samples → samples ≡ samples_in bytes

-- Samples have at most one list of HGT bytes.
abbrev pub BytesAreDetermined : Type 0
BytesAreDetermined = (n : ℕ) (bytes : List ℕ) (samples : List ℤ) → All IsByte bytes → All IsSample samples → AreHgtBytes n bytes samples → bytes ≡ hgt_bytes samples

-- Each list of samples has HGT bytes.
abbrev pub SamplesHaveBytes : Type 0
SamplesHaveBytes = (n : ℕ) (samples : List ℤ) → All IsSample samples → length samples ≡ n * n → AreHgtBytes n (hgt_bytes samples) samples

abbrev pub SamplesReadBack : Type 0
SamplesReadBack = (samples : List ℤ) → All IsSample samples → samples_in (hgt_bytes samples) ≡ samples

abbrev pub BytesWriteBack : Type 0
BytesWriteBack = (bytes : List ℕ) → All IsByte bytes → length bytes % 2 ≡ 0 → hgt_bytes (samples_in bytes) ≡ bytes
