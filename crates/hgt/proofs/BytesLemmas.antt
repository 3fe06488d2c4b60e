-- Samples in bytes and bytes of samples, by index.
use Rattle.std.proofs.Common.{◌≡◌, ℕ, zero, suc, ◌+◌, ◌*◌, ◌/◌, ◌%◌, ◌<◌, ℤ, pos, List, [], ◌∷◌, length, get_or, set, All, subst, refl, ap, sym, ◌∙◌, arith, of_z, w16, Bool, true, false, cond, nat_lt, ◌≤◌, ◌-ℤ◌}
use Rattle.std.specs.List.{flat_map}
use Rattle.std.proofs.lemmas.List.{same_lists, get_or_default}
use Rattle.std.proofs.lemmas.List.Elements.{All-head, All-tail, All-nil, All-cons}
use Rattle.std.proofs.lemmas.Bool.{ltb-true, ltb-false}
use Rattle.std.proofs.lemmas.Int.{ints}
use Rattle.lattice.specs.Mosaic.{IsSample}
use Rattle.lattice.proofs.Pairs.{length-pairs, get_or-pairs}
use Rattle.hgt.specs.Bytes.{AreHgtBytes, unsigned_of, sample_of, samples_in, hgt_bytes, high_byte, low_byte}
use Rattle.hgt.specs.HgtLaws.{IsByte}
use Rattle.hgt.proofs.Words.{word_of_sample, sample_of_bytes, high_byte_of, low_byte_of, unsigned-sample_of, sample_of_pair, byte-high_byte, byte-low_byte}

pub get_or-samples_in : (bytes : List ℕ) (i : ℕ) (d : ℤ) → 2 * i + 1 < length bytes → get_or (samples_in bytes) i d ≡ sample_of (get_or bytes (2 * i) 0) (get_or bytes (2 * i + 1) 0)
get_or-samples_in = get_or-pairs samples_in sample_of refl (λ b c rest. refl)

pub length-samples_in : (bytes : List ℕ) (n : ℕ) → length bytes ≡ 2 * n → length (samples_in bytes) ≡ n
length-samples_in = length-pairs samples_in sample_of refl (λ b c rest. refl)

-- the sample that two bytes spell
pub sample_of_is_sample : (high low : ℕ) → high < 256 → low < 256 → IsSample (sample_of high low)
sample_of_is_sample high low h l = by (nat_lt high 128) refl
  where
    by : (b : Bool) → nat_lt high 128 ≡ b → IsSample (cond b (pos (256 * high + low)) (pos (256 * high + low) -ℤ pos 65536))
    by true small = let below : high < 128 = ltb-true high 128 small in (omega (arith, ints), omega (arith, ints))
    by false large = let above : 128 ≤ high = ltb-false high 128 large in (omega (arith, ints), omega (arith, ints))

pub samples_in_are_samples : (bytes : List ℕ) → All (λ b. b < 256) bytes → All IsSample (samples_in bytes)
samples_in_are_samples [] small = All-nil IsSample
samples_in_are_samples (high ∷ []) small = All-nil IsSample
samples_in_are_samples (high ∷ (low ∷ rest)) small =
    let later = All-tail (λ b. b < 256) high (low ∷ rest) small in
    All-cons IsSample (sample_of high low) (samples_in rest)
    (sample_of_is_sample high low (All-head (λ b. b < 256) high (low ∷ rest) small) (All-head (λ b. b < 256) low rest later))
    (samples_in_are_samples rest (All-tail (λ b. b < 256) low rest later))

pub length-hgt_bytes : (samples : List ℤ) → length (hgt_bytes samples) ≡ 2 * length samples
length-hgt_bytes [] = refl
length-hgt_bytes (s ∷ samples) = let rest = length-hgt_bytes samples in omega arith

-- The samples of the bytes are the values at each index.
pub samples_in_are : (bytes : List ℕ) (samples : List ℤ) → length bytes ≡ 2 * length samples
    → ((e : ℕ) (d : ℤ) → e < length samples → get_or samples e d ≡ sample_of (get_or bytes (2 * e) 0) (get_or bytes (2 * e + 1) 0)) → samples ≡ samples_in bytes
samples_in_are bytes samples twice each =
    same_lists samples (samples_in bytes) (sym (length-samples_in bytes (length samples) twice))
    (λ e d below. each e d below ∙ sym (get_or-samples_in bytes e d (omega arith)))

pub samples_in-hgt_bytes : (samples : List ℤ) → All IsSample samples → samples_in (hgt_bytes samples) ≡ samples
samples_in-hgt_bytes [] all = refl
samples_in-hgt_bytes (s ∷ samples) all =
    let here = sample_of_bytes s (All-head IsSample s samples all) in
    let rest = samples_in-hgt_bytes samples (All-tail IsSample s samples all) in
    cc

pub hgt_bytes-samples_in : (bytes : List ℕ) → All IsByte bytes → length bytes % 2 ≡ 0 → hgt_bytes (samples_in bytes) ≡ bytes
hgt_bytes-samples_in [] all even = refl
hgt_bytes-samples_in (b ∷ []) all even = absurd (omega arith)
hgt_bytes-samples_in (b ∷ c ∷ bytes) all even =
    let first = All-head IsByte b (c ∷ bytes) all in
    let later = All-tail IsByte b (c ∷ bytes) all in
    let second = All-head IsByte c bytes later in
    let high = high_byte_of b c first second in
    let low = low_byte_of b c first second in
    let rest = hgt_bytes-samples_in bytes (All-tail IsByte c bytes later) (omega arith) in
    cc

-- The pair of bytes at an index spells the sample at that index.
pub each-pair : (bytes : List ℕ) (e : ℕ) → All IsByte bytes → 2 * e + 1 < length bytes
    → 256 * get_or bytes (2 * e) 0 + get_or bytes (2 * e + 1) 0 ≡ unsigned_of (get_or (samples_in bytes) e (pos 0))
each-pair bytes e all below =
    rw (get_or-samples_in bytes e (pos 0) below) (unsigned-sample_of _ _ (all (2 * e) 0 (omega arith)) (all (2 * e + 1) 0 below))

pub AreHgtBytes-samples_in : (n : ℕ) (bytes : List ℕ) → All IsByte bytes → length bytes ≡ 2 * (n * n) → AreHgtBytes n bytes (samples_in bytes)
AreHgtBytes-samples_in n bytes all twice = record {
  two_each = twice;
  whole = length-samples_in bytes (n * n) twice;
  each = λ e below. each-pair bytes e all (omega arith);
}

pub samples_are_samples_in : (n : ℕ) (bytes : List ℕ) (samples : List ℤ) → All IsByte bytes → All IsSample samples → AreHgtBytes n bytes samples → samples ≡ samples_in bytes
samples_are_samples_in n bytes samples all fits are =
    samples_in_are bytes samples (omega arith)
    (λ e d below.
    let same : get_or samples e d ≡ get_or samples e (pos 0) = get_or_default samples e d (pos 0) below in
    same ∙ sample_of_pair (get_or bytes (2 * e) 0) (get_or bytes (2 * e + 1) 0) (get_or samples e (pos 0))
    (all (2 * e) 0 (omega arith)) (all (2 * e + 1) 0 (omega arith)) (fits e (pos 0) below) (are.each e (omega arith)))

pub bytes_are_hgt_bytes : (n : ℕ) (bytes : List ℕ) (samples : List ℤ) → All IsByte bytes → All IsSample samples → AreHgtBytes n bytes samples → bytes ≡ hgt_bytes samples
bytes_are_hgt_bytes n bytes samples all fits are =
    sym (hgt_bytes-samples_in bytes all (omega arith)) ∙ ap hgt_bytes (sym (samples_are_samples_in n bytes samples all fits are))

pub IsByte-hgt_bytes : (samples : List ℤ) → All IsByte (hgt_bytes samples)
IsByte-hgt_bytes [] k d below = absurd (omega arith)
IsByte-hgt_bytes (s ∷ samples) zero d below = byte-high_byte s
IsByte-hgt_bytes (s ∷ samples) (suc zero) d below = byte-low_byte s
IsByte-hgt_bytes (s ∷ samples) (suc (suc k)) d below = IsByte-hgt_bytes samples k d (omega arith)

pub AreHgtBytes-hgt_bytes : (n : ℕ) (samples : List ℤ) → All IsSample samples → length samples ≡ n * n → AreHgtBytes n (hgt_bytes samples) samples
AreHgtBytes-hgt_bytes n samples all whole =
    let twice : length (hgt_bytes samples) ≡ 2 * (n * n) = omega (arith, length-hgt_bytes samples) in
    let are = AreHgtBytes-samples_in n (hgt_bytes samples) (IsByte-hgt_bytes samples) twice in
    subst (AreHgtBytes n (hgt_bytes samples)) (samples_in-hgt_bytes samples all) are

-- bytes written one sample after another
pub hgt_bytes-flat_map : (f : ℤ → List ℕ) (samples : List ℤ) → ((s : ℤ) → f s ≡ of_z w16 s / 256 % 256 ∷ of_z w16 s % 256 ∷ []) → flat_map f samples ≡ hgt_bytes samples
hgt_bytes-flat_map f [] is = refl
hgt_bytes-flat_map f (s ∷ samples) is = rw (is s, word_of_sample s, hgt_bytes-flat_map f samples is)

-- one sample written
pub samples_in-set : (bytes : List ℕ) (i : ℕ) (s : ℤ) → IsSample s → 2 * i + 1 < length bytes
    → samples_in (set (set bytes (2 * i) (high_byte s)) (2 * i + 1) (low_byte s)) ≡ set (samples_in bytes) i s
samples_in-set [] i s is below = absurd (omega arith)
samples_in-set (b ∷ []) i s is below = absurd (omega arith)
samples_in-set (b ∷ c ∷ bytes) zero s is below = ap (λ t. t ∷ samples_in bytes) (sample_of_bytes s is)
samples_in-set (b ∷ c ∷ bytes) (suc i) s is below =
    let high : 2 * suc i ≡ suc (suc (2 * i)) = omega arith in
    let low : 2 * suc i + 1 ≡ suc (suc (2 * i + 1)) = omega arith in
    let rest = samples_in-set bytes i s is (omega arith) in
    rw (low, high) (ap (λ t. sample_of b c ∷ t) rest)
