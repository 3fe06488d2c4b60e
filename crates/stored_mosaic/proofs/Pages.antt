-- Bytes and samples of a plane, from its pages.
use Rattle.std.proofs.Common.{rules}
use Rattle.stored_mosaic.proofs.Prelude.{All, IsPage, List, PlanePages, Some, ℕ, ℤ, [], ap, arith, concat, concat-append, get_or, get_or_from_slice_get, high_byte, length, low_byte, plane_bytes, refl, sample_of, samples_of_plane, set, slice_get, slice_get_within, subst, suc, sym, take, zero, ◌*◌, ◌++◌, ◌+◌, ◌-◌, ◌<◌, ◌∙◌, ◌∷◌, ◌≡◌, ◌≤◌}
use Rattle.std.proofs.Math.ListN.{get_or-append}
use Rattle.std.proofs.Math.Seq.{get_or-append_right}
use Rattle.std.proofs.lemmas.List.{append-nil, length-append, length-set, length-take, length-take-le, get_or-take, take_more}
use Rattle.std.proofs.lemmas.List.Elements.{All-nil, All-head, All-tail, All-append, All-take, All-set}
use Rattle.hgt.proofs.BytesLemmas.{get_or-samples_in, length-samples_in}
use Rattle.hgt.proofs.Words.{byte-high_byte, byte-low_byte}

abbrev IsByte : ℕ → Type 0
IsByte b = b < 256

pub length_joined : (pages : PlanePages) → All IsPage pages → length (concat pages) ≡ 4096 * length pages
length_joined [] all = refl
length_joined (page ∷ rest) all =
    let first = (All-head IsPage page rest all).whole in
    let later = length_joined rest (All-tail IsPage page rest all) in
    omega (arith, first, later, length-append page (concat rest))

pub bytes_joined : (pages : PlanePages) → All IsPage pages → All (λ b. b < 256) (concat pages)
bytes_joined [] all = All-nil IsByte
bytes_joined (page ∷ rest) all =
    All-append IsByte page (concat rest) (All-head IsPage page rest all).bytes (bytes_joined rest (All-tail IsPage page rest all))

pub bytes_of_plane : (n : ℕ) (pages : PlanePages) → All IsPage pages → All (λ b. b < 256) (plane_bytes n pages)
bytes_of_plane n pages all = All-take IsByte (2 * (n * n)) (concat pages) (bytes_joined pages all)

pub length_plane : (n : ℕ) (pages : PlanePages) → All IsPage pages → 2 * (n * n) ≤ 4096 * length pages → length (plane_bytes n pages) ≡ 2 * (n * n)
length_plane n pages all enough =
    length-take-le (2 * (n * n)) (concat pages) (subst (λ (m : ℕ). 2 * (n * n) ≤ m) (sym (length_joined pages all)) enough)

-- Whole pages are long enough for the plane's bytes.
pub long_enough : (n : ℕ) (pages : PlanePages) → All IsPage pages → length (plane_bytes n pages) ≡ 2 * (n * n) → 2 * (n * n) ≤ 4096 * length pages
long_enough n pages all cut = omega (arith, cut, length-take (2 * (n * n)) (concat pages), length_joined pages all)

-- A byte of a page is a byte of the joined pages.
pub byte_joined : (pages : PlanePages) (i k d : ℕ) → All IsPage pages → i < length pages → k < 4096
    → get_or (concat pages) (4096 * i + k) d ≡ get_or (get_or pages i []) k d
byte_joined [] i k d all within below = absurd (omega (arith, within))
byte_joined (page ∷ rest) zero k d all within below =
    let whole = (All-head IsPage page rest all).whole in
    ap (λ j. get_or (page ++ concat rest) j d) (let e : 4096 * 0 + k ≡ k = omega arith in e)
    ∙ get_or-append page (concat rest) d k (omega (arith, whole, below))
byte_joined (page ∷ rest) (suc i) k d all within below =
    let whole = (All-head IsPage page rest all).whole in
    get_or-append_right page (concat rest) (4096 * suc i + k) d (omega (arith, whole))
    ∙ ap (λ j. get_or (concat rest) j d) (let e : 4096 * suc i + k - length page ≡ 4096 * i + k = omega (arith, whole) in e)
    ∙ byte_joined rest i k d (All-tail IsPage page rest all) (omega (arith, within)) below

-- the page with a sample at its index in the page, most significant byte first
abbrev pub with_bytes : ℕ → ℤ → List ℕ → List ℕ
with_bytes j s page = set (set page (2 * j) (high_byte s)) (2 * j + 1) (low_byte s)

pub page_with_bytes : (j : ℕ) (s : ℤ) (page : List ℕ) → IsPage page → IsPage (with_bytes j s page)
page_with_bytes j s page is = search rules

module _ (pages : PlanePages) (i j e : ℕ) (all : All IsPage pages) (within : i < length pages) (here : e ≡ 2048 * i + j) (below : j < 2048) where
  high_at : 4096 * i + 2 * j ≡ 2 * e
  high_at = omega (arith, here)

  low_at : 4096 * i + (2 * j + 1) ≡ 2 * e + 1
  low_at = omega (arith, here)

  -- A sample read from its page is the plane's sample.
  pub sample_in_page : (n : ℕ) (d : ℤ) → e < n * n → 2 * (n * n) ≤ 4096 * length pages
      → get_or (samples_of_plane n pages) e d ≡ sample_of (get_or (get_or pages i []) (2 * j) 0) (get_or (get_or pages i []) (2 * j + 1) 0)
  sample_in_page n d inside enough =
      let long = length_plane n pages all enough in
      let at : (k : ℕ) (m : ℕ) → k < 4096 → 4096 * i + k ≡ m → m < 2 * (n * n) → get_or (plane_bytes n pages) m 0 ≡ get_or (get_or pages i []) k 0 =
      λ k m small is less. get_or-take (2 * (n * n)) (concat pages) m 0 less ∙ ap (λ x. get_or (concat pages) x 0) (sym is) ∙ byte_joined pages i k 0 all within small in
      get_or-samples_in (plane_bytes n pages) e d (omega (arith, inside, long))
      ∙ ap (λ h. sample_of h (get_or (plane_bytes n pages) (2 * e + 1) 0)) (at (2 * j) (2 * e) (omega (arith, below)) high_at (omega (arith, inside)))
      ∙ ap (λ l. sample_of (get_or (get_or pages i []) (2 * j) 0) l) (at (2 * j + 1) (2 * e + 1) (omega (arith, below)) low_at (omega (arith, inside)))

pub length_samples : (n : ℕ) (pages : PlanePages) → All IsPage pages → 2 * (n * n) ≤ 4096 * length pages → length (samples_of_plane n pages) ≡ n * n
length_samples n pages all enough = length-samples_in (plane_bytes n pages) (n * n) (length_plane n pages all enough)

-- one more page is joined to those before it

pub joined_more : (pages : PlanePages) (i : ℕ) (page : List ℕ) → slice_get pages i ≡ Some page → concat (take (i + 1) pages) ≡ concat (take i pages) ++ page
joined_more pages i page read =
    ap concat (take_more pages i [] (slice_get_within pages i page read))
    ∙ concat-append (take i pages) (get_or pages i [] ∷ [])
    ∙ ap (λ (l : List ℕ). concat (take i pages) ++ l) (append-nil (get_or pages i []) ∙ get_or_from_slice_get pages i page [] read)
