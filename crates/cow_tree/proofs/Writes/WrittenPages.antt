-- The pages of a plane during its writes.
use Rattle.cow_tree.proofs.Prelude.{Image, List, ℕ, [], ap, arith, drop, drop-drop, get_or, length, length-map, map, padded, page_of_bytes, pages_of_bytes, refl, same_lists, suc, sym, take, zero, ◌*◌, ◌+◌, ◌<◌, ◌∙◌, ◌∷◌, ◌≡◌}
use Rattle.cow_tree.proofs.Writes.Planes.{length-pages_of_bytes}

-- page i among the pages of a plane's bytes
pub page_at : (count : ℕ) (bytes : List ℕ) (i : ℕ) (d : List ℕ) → i < count → get_or (pages_of_bytes count bytes) i d ≡ page_of_bytes bytes i
page_at zero bytes i d lt = absurd (omega arith)
page_at (suc count) bytes zero d lt = refl
page_at (suc count) bytes (suc i) d lt =
    page_at count (drop 4096 bytes) i d (omega arith)
    ∙ ap (λ (l : List ℕ). padded 4096 (take 4096 l)) (drop-drop (4096 * i) 4096 bytes ∙ ap (λ (n : ℕ). drop n bytes) (let e : 4096 + 4096 * i ≡ 4096 * suc i = omega arith in e))

get_or-map : (image : Image) (pages : List ℕ) (i : ℕ) (d : List ℕ) → i < length pages → get_or (map image pages) i d ≡ image (get_or pages i 0)
get_or-map image [] i d lt = absurd (omega arith)
get_or-map image (p ∷ rest) zero d lt = refl
get_or-map image (p ∷ rest) (suc i) d lt = get_or-map image rest i d (omega arith)

-- If each page of a plane has its bytes on the image, the image has the pages of the plane's bytes.
pub all_written : (image : Image) (pages bytes : List ℕ) → ((k : ℕ) → k < length pages → image (get_or pages k 0) ≡ page_of_bytes bytes k) → map image pages ≡ pages_of_bytes (length pages) bytes
all_written image pages bytes each =
    same_lists (map image pages) (pages_of_bytes (length pages) bytes) (length-map pages image ∙ sym (length-pages_of_bytes (length pages) bytes))
    (λ k d lt. let within : k < length pages = omega (arith, lt, length-map pages image) in
    get_or-map image pages k d within ∙ each k within ∙ sym (page_at (length pages) bytes k d within))
