-- The bytes of a plane and its pages.
use Rattle.cow_tree.proofs.Prelude.{All, IsPage, List, ℕ, [], ap, ap₂, arith, cases_lt, concat, drop, length, pages_of, pages_of_bytes, plane_bytes, refl, replicate, suc, sym, take, zero, ⊎_elim, ◌*◌, ◌++◌, ◌-◌, ◌<◌, ◌∙◌, ◌≡◌, ◌≤◌}
use Rattle.std.proofs.lemmas.List.{append-nil, append_assoc, length-append, length-take, length-take-le, length-drop, length-replicate, take_all, take-append-drop, take_at, nil_from_length}
use Rattle.std.proofs.lemmas.List.Elements.{All-nil, All-cons, All-append, All-take, All-drop, All-replicate}
use Rattle.page_codec.specs.Numbers.{padded, zeros}

pub length-padded : (bytes : List ℕ) → length bytes ≤ 4096 → length (padded 4096 bytes) ≡ 4096
unfolding zeros
length-padded bytes le = omega (arith, length-append bytes (replicate (4096 - length bytes) 0), length-replicate {A = ℕ} (4096 - length bytes) 0)

-- A whole page is the same after padding.
whole_page : (bytes : List ℕ) → length bytes ≡ 4096 → padded 4096 bytes ≡ bytes
unfolding zeros
whole_page bytes whole = ap (λ (n : ℕ). bytes ++ replicate n 0) (let e : 4096 - length bytes ≡ 0 = omega arith in e) ∙ append-nil bytes

-- the pages joined begin with the bytes
pub joined : (count : ℕ) (bytes : List ℕ) → length bytes ≤ 4096 * count → (rest : List ℕ) × (concat (pages_of_bytes count bytes) ≡ bytes ++ rest)
joined zero bytes le = ([], sym (append-nil bytes ∙ nil_from_length bytes (omega arith)))
joined (suc count) bytes le = ⊎_elim last (λ (ge : 4096 ≤ length bytes). whole ge (joined count (drop 4096 bytes) (omega (arith, length-drop 4096 bytes)))) (cases_lt (length bytes) 4096)
  where
    page : List ℕ
    page = padded 4096 (take 4096 bytes)

    others : List ℕ
    others = concat (pages_of_bytes count (drop 4096 bytes))

    last : length bytes < 4096 → (rest : List ℕ) × (concat (pages_of_bytes (suc count) bytes) ≡ bytes ++ rest)
    last lt = (zeros (4096 - length bytes) ++ others, ap (λ (l : List ℕ). padded 4096 l ++ others) (take_all 4096 bytes (omega arith)) ∙ append_assoc bytes (zeros (4096 - length bytes)) others)

    whole : 4096 ≤ length bytes → (rest : List ℕ) × (others ≡ drop 4096 bytes ++ rest) → (rest : List ℕ) × (concat (pages_of_bytes (suc count) bytes) ≡ bytes ++ rest)
    whole ge was = (
      was.0,
      ap₂ (λ (x y : List ℕ). x ++ y) (whole_page (take 4096 bytes) (length-take-le 4096 bytes ge)) was.1
          ∙ sym (append_assoc (take 4096 bytes) (drop 4096 bytes) was.0)
          ∙ ap (λ (l : List ℕ). l ++ was.0) (take-append-drop 4096 bytes),
    )

-- a plane's bytes are read back from its pages
pub plane_read_back : (n : ℕ) (bytes : List ℕ) → length bytes ≡ 2 * (n * n) → plane_bytes n (pages_of_bytes (pages_of n) bytes) ≡ bytes
plane_read_back n bytes whole =
    let was = joined (pages_of n) bytes (omega (arith, whole)) in
    ap (take (2 * (n * n))) was.1 ∙ take_at bytes was.0 (2 * (n * n)) whole

pub length-pages_of_bytes : (count : ℕ) (bytes : List ℕ) → length (pages_of_bytes count bytes) ≡ count
length-pages_of_bytes zero bytes = refl
length-pages_of_bytes (suc count) bytes = ap suc (length-pages_of_bytes count (drop 4096 bytes))

-- The pages of a plane's bytes are whole pages.
page_filled : (bytes : List ℕ) → length bytes ≤ 4096 → All (λ b. b < 256) bytes → IsPage (padded 4096 bytes)
unfolding zeros
page_filled bytes le all = record {
  whole = length-padded bytes le;
  bytes = All-append (λ b. b < 256) bytes (replicate (4096 - length bytes) 0) all (All-replicate (λ b. b < 256) (4096 - length bytes) 0 (omega arith));
}

pub whole_pages : (count : ℕ) (bytes : List ℕ) → All (λ b. b < 256) bytes → All IsPage (pages_of_bytes count bytes)
whole_pages zero bytes all = All-nil IsPage
whole_pages (suc count) bytes all =
    All-cons IsPage (padded 4096 (take 4096 bytes)) (pages_of_bytes count (drop 4096 bytes))
    (page_filled (take 4096 bytes) (omega (arith, length-take 4096 bytes)) (All-take (λ b. b < 256) 4096 bytes all))
    (whole_pages count (drop 4096 bytes) (All-drop (λ b. b < 256) 4096 bytes all))
