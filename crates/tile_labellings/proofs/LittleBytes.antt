-- Conversion of 16-bit numbers to two bytes each, the least significant first, and back.
use Rattle.std.proofs.Common.{◌≡◌, ℕ, ◌+◌, ◌*◌, ◌/◌, ◌%◌, ◌<◌, ℤ, pos, negsuc, of_z, to_z, w8, w16, Fits, List, [], ◌∷◌, length, drop, get_or, refl, sym, ap, ◌∙◌, subst, arith, add-zero}
use Rattle.std.specs.List.{All, flat_map}
use Rattle.std.proofs.lemmas.Int.{ints}
use Rattle.std.proofs.lemmas.Grind.{same_number_lists}
use Rattle.std.proofs.lemmas.List.{same_lists, length-map, get_or-map, get_or-drop}
use Rattle.std.proofs.lemmas.List.Elements.{All-head, All-tail}
use Rattle.lattice.specs.Mosaic.{IsSample}
use Rattle.lattice.proofs.Pairs.{length-pairs, get_or-pairs}
use Rattle.tile_flood.specs.Kept.{labels_in, levels_in, signed}

whole : (n : ℕ) → n < 65536 → n % 256 + 256 * (n / 256 % 256) ≡ n
whole n below = omega (arith, below)

-- converting bytes back gives the labels, if each was converted by itself
pub labels_back : (f : ℕ → List ℕ) → ((n : ℕ) → f n ≡ n % 256 ∷ n / 256 % 256 ∷ []) → (labels : List ℕ) → All (λ n. n < 65536) labels → labels_in (flat_map f labels) ≡ labels
labels_back f is [] fits = refl
labels_back f is (n ∷ labels) fits =
    let here = whole n (All-head (λ k. k < 65536) n labels fits) in
    let rest = labels_back f is labels (All-tail (λ k. k < 65536) n labels fits) in
    rw (is n) (ap (λ (k : ℕ). k ∷ labels_in (flat_map f labels)) here ∙ ap (λ (l : List ℕ). n ∷ l) rest)

word : (z : ℤ) → IsSample z → signed (of_z w16 z % 256 + 256 * (of_z w16 z / 256 % 256)) ≡ z
word (pos n) is = grind (arith, ints)
word (negsuc n) is = grind (arith, ints)

pub levels_back : (f : ℤ → List ℕ) → ((z : ℤ) → f z ≡ of_z w16 z % 256 ∷ of_z w16 z / 256 % 256 ∷ []) → (levels : List ℤ) → All IsSample levels → levels_in (flat_map f levels) ≡ levels
levels_back f is [] fits = refl
levels_back f is (z ∷ levels) fits =
    let here = word z (All-head IsSample z levels fits) in
    let rest = levels_back f is levels (All-tail IsSample z levels fits) in
    rw (is z) (ap (λ (k : ℤ). k ∷ levels_in (flat_map f levels)) here ∙ ap (λ (l : List ℤ). z ∷ l) rest)

-- ---- how bytes are read

get_or-labels_in : (bytes : List ℕ) (i d : ℕ) → 2 * i + 1 < length bytes → get_or (labels_in bytes) i d ≡ get_or bytes (2 * i) 0 + 256 * get_or bytes (2 * i + 1) 0
get_or-labels_in = get_or-pairs labels_in (λ low high. low + 256 * high) refl (λ b c rest. refl)

pub length-labels_in : (bytes : List ℕ) (n : ℕ) → length bytes ≡ 2 * n → length (labels_in bytes) ≡ n
length-labels_in = length-pairs labels_in (λ low high. low + 256 * high) refl (λ b c rest. refl)

pub length-levels_in : (bytes : List ℕ) (n : ℕ) → length bytes ≡ 2 * n → length (levels_in bytes) ≡ n
length-levels_in bytes n h = length-map (labels_in bytes) signed ∙ length-labels_in bytes n h

-- the k-th 16-bit number in the bytes
word_at : (bytes : List ℕ) (k : ℕ) → get_or (drop (2 * k) bytes) 0 0 + 256 * (get_or (drop (2 * k) bytes) 1 0 + 256 * 0) ≡ get_or bytes (2 * k) 0 + 256 * get_or bytes (2 * k + 1) 0
word_at bytes k = omega (arith, get_or-drop (2 * k) bytes 0 0, get_or-drop (2 * k) bytes 1 0, ap (λ n. get_or bytes n 0) (add-zero (2 * k)))

pub labels_read : (bytes labels : List ℕ) → length bytes ≡ 2 * length labels
    → ((k : ℕ) → k < length labels → get_or labels k 0 ≡ get_or (drop (2 * k) bytes) 0 0 + 256 * (get_or (drop (2 * k) bytes) 1 0 + 256 * 0)) → labels ≡ labels_in bytes
labels_read bytes labels twice each =
    same_number_lists labels (labels_in bytes) (sym (length-labels_in bytes (length labels) twice))
    (λ k below. each k below ∙ (word_at bytes k ∙ sym (get_or-labels_in bytes k 0 (omega arith))))

-- the machine's reading of 16 bits as a signed number
signed_word : (n : ℕ) → n < 65536 → to_z w16 n ≡ signed n
signed_word n below = grind (arith, ints)

pub levels_read : (bytes : List ℕ) (levels : List ℤ) → length bytes ≡ 2 * length levels → ((k : ℕ) → Fits w8 (get_or bytes k 0))
    → ((d : ℤ) (k : ℕ) → k < length levels → get_or levels k d ≡ to_z w16 (get_or (drop (2 * k) bytes) 0 0 + 256 * (get_or (drop (2 * k) bytes) 1 0 + 256 * 0))) → levels ≡ levels_in bytes
levels_read bytes levels twice small each =
    same_lists levels (levels_in bytes) (sym (length-levels_in bytes (length levels) twice))
    (λ k d below.
    let inside : k < length (labels_in bytes) = subst (λ n. k < n) (sym (length-labels_in bytes (length levels) twice)) below in
    let word = get_or bytes (2 * k) 0 + 256 * get_or bytes (2 * k + 1) 0 in
    let fits : word < 65536 = omega (arith, small (2 * k), small (2 * k + 1)) in
    each d k below ∙ (ap (to_z w16) (word_at bytes k) ∙ (signed_word word fits ∙ (ap signed (sym (get_or-labels_in bytes k 0 (omega arith))) ∙ sym (get_or-map signed (labels_in bytes) k 0 d inside)))))
