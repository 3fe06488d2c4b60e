-- Fields of fixed length: their lengths, and that bytes begin with one number only.
use Rattle.std.proofs.Common.{◌≡◌, ℕ, zero, suc, ◌^◌, ◌<◌, ℤ, true, eqb, List, [], ◌∷◌, ◌++◌, length, take, drop, refl, sym, ap, ◌∙◌}
use Rattle.std.specs.List.{list_all}
use Rattle.std.specs.Int.{w16, w32, cast_unsigned, cast_signed}
use Rattle.page_codec.proofs.Prelude.{FitsSigned, drop-append_seam, take-append_seam, to_z-of_z}
use Rattle.std.proofs.lemmas.Bool.{and_parts, eqb-true}
use Rattle.std.proofs.Math.Facts.{Fits-of_z}
use Rattle.std.proofs.Math.ListN.{length-replicate}
use Rattle.byteorder.specs.Endian.{little_number}
use Rattle.byteorder.specs.Numbers.{little_number-reads_back}
use Rattle.page_codec.specs.Numbers.{i16_bytes, i32_bytes, u32_bytes, u64_bytes, zeros}

pub length-i16_bytes : (z : ℤ) → length (i16_bytes z) ≡ 2
unfolding i16_bytes
length-i16_bytes z = refl

pub length-i32_bytes : (z : ℤ) → length (i32_bytes z) ≡ 4
unfolding i32_bytes
length-i32_bytes z = refl

pub length-u32_bytes : (n : ℕ) → length (u32_bytes n) ≡ 4
unfolding u32_bytes
length-u32_bytes n = refl

pub length-u64_bytes : (n : ℕ) → length (u64_bytes n) ≡ 8
unfolding u64_bytes
length-u64_bytes n = refl

pub length-zeros : (n : ℕ) → length (zeros n) ≡ n
unfolding zeros
length-zeros n = length-replicate n 0

-- If two bytes lists are equal, so are their fronts of one length, and so are the rests.
pub same_fronts : (a b x y : List ℕ) → length a ≡ length b → a ++ x ≡ b ++ y → (a ≡ b) × (x ≡ y)
same_fronts a b x y same e =
    let front : a ≡ b = sym (take-append_seam a x) ∙ ap (λ (l : List ℕ). take (length a) l) e ∙ ap (λ (n : ℕ). take n (b ++ y)) same ∙ take-append_seam b y in
    let rest : x ≡ y = sym (drop-append_seam a x) ∙ ap (λ (l : List ℕ). drop (length a) l) e ∙ ap (λ (n : ℕ). drop n (b ++ y)) same ∙ drop-append_seam b y in
    (front, rest)

pub same_u32 : (m n : ℕ) (x y : List ℕ) → m < 2 ^ 32 → n < 2 ^ 32 → u32_bytes m ++ x ≡ u32_bytes n ++ y → (m ≡ n) × (x ≡ y)
unfolding u32_bytes
same_u32 m n x y hm hn e =
    let number : m ≡ n = sym (little_number-reads_back 4 m x hm) ∙ ap (λ (l : List ℕ). little_number 4 l) e ∙ little_number-reads_back 4 n y hn in
    (number, (same_fronts (u32_bytes m) (u32_bytes n) x y refl e).1)

pub same_u64 : (m n : ℕ) (x y : List ℕ) → m < 2 ^ 64 → n < 2 ^ 64 → u64_bytes m ++ x ≡ u64_bytes n ++ y → (m ≡ n) × (x ≡ y)
unfolding u64_bytes
same_u64 m n x y hm hn e =
    let number : m ≡ n = sym (little_number-reads_back 8 m x hm) ∙ ap (λ (l : List ℕ). little_number 8 l) e ∙ little_number-reads_back 8 n y hn in
    (number, (same_fronts (u64_bytes m) (u64_bytes n) x y refl e).1)

pub same_i16 : (a b : ℤ) (x y : List ℕ) → FitsSigned w16 a → FitsSigned w16 b → i16_bytes a ++ x ≡ i16_bytes b ++ y → (a ≡ b) × (x ≡ y)
unfolding i16_bytes
same_i16 a b x y fits_a fits_b e =
    let bits : cast_unsigned w16 a ≡ cast_unsigned w16 b = sym (little_number-reads_back 2 (cast_unsigned w16 a) x (Fits-of_z fits_a).fits) ∙ ap (λ (l : List ℕ). little_number 2 l) e ∙ little_number-reads_back 2 (cast_unsigned w16 b) y (Fits-of_z fits_b).fits in
    let number : a ≡ b = sym (to_z-of_z w16 a fits_a) ∙ ap (cast_signed w16) bits ∙ to_z-of_z w16 b fits_b in
    (number, (same_fronts (i16_bytes a) (i16_bytes b) x y refl e).1)

pub same_i32 : (a b : ℤ) (x y : List ℕ) → FitsSigned w32 a → FitsSigned w32 b → i32_bytes a ++ x ≡ i32_bytes b ++ y → (a ≡ b) × (x ≡ y)
unfolding i32_bytes
same_i32 a b x y fits_a fits_b e =
    let bits : cast_unsigned w32 a ≡ cast_unsigned w32 b = sym (little_number-reads_back 4 (cast_unsigned w32 a) x (Fits-of_z fits_a).fits) ∙ ap (λ (l : List ℕ). little_number 4 l) e ∙ little_number-reads_back 4 (cast_unsigned w32 b) y (Fits-of_z fits_b).fits in
    let number : a ≡ b = sym (to_z-of_z w32 a fits_a) ∙ ap (cast_signed w32) bits ∙ to_z-of_z w32 b fits_b in
    (number, (same_fronts (i32_bytes a) (i32_bytes b) x y refl e).1)

pub zeros_from_all : (bytes : List ℕ) → list_all (λ b. eqb b 0) bytes ≡ true → bytes ≡ zeros (length bytes)
unfolding zeros
zeros_from_all [] all = refl
zeros_from_all (b ∷ bytes) all =
    let parts = and_parts (eqb b 0) (list_all (λ b. eqb b 0) bytes) all in
    let first : b ≡ 0 = eqb-true b 0 parts.0 in
    let rest : bytes ≡ zeros (length bytes) = zeros_from_all bytes parts.1 in
    cc

pub all_from_zeros : (n : ℕ) → list_all (λ b. eqb b 0) (zeros n) ≡ true
unfolding zeros
all_from_zeros zero = refl
all_from_zeros (suc n) = all_from_zeros n
