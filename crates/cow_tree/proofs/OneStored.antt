-- An image stores at most one content: it has one current root, records have one spelling, and so locations and
-- contents are equal.
use Rattle.cow_tree.proofs.Prelude.{All, All-drop, All-head, All-tail, All-take, Corner, EntryValue, Format, IfSome, Image, IsWholePlane, Kept, KeptLocations, List, None, One, Option, PlaneLocation, RootValue, Some, TileLocation, Two, Version, ℕ, [], ap, ap₂, arith, drop, entry_of, entry_of_kept, format_of, get_or, get_or-drop, get_or-take, index_pages_by, length, length-drop, length-take, map, min, nil_from_length, one_is_current, pages_behind, pages_of, part_of, record_bytes, refl, same_lists, same_records, subst, sym, ◌%◌, ◌*◌, ◌+◌, ◌-◌, ◌/◌, ◌<◌, ◌^◌, ◌∙◌, ◌∷◌, ◌≡◌}
use Rattle.std.proofs.Math.Nat.{div-add-mod, mod-lt}
use Rattle.cow_tree.proofs.Standing.{All-front, All-back}
use Rattle.cow_tree.specs.Layout.{HasRecord, HaveKeptRecords, HasRecords, IsIndexed, IsLaidOut, listed_by, stored_in, StandsForOne}

-- Two lists of one length are equal if each part of 1024 elements is.
same_parts : (xs ys : List ℕ) → length xs ≡ length ys → ((t : ℕ) → 1024 * t < length xs → part_of t xs ≡ part_of t ys) → xs ≡ ys
same_parts xs ys len parts =
    same_lists xs ys len
    (λ k d below.
    let t = k / 1024 in
    let j = k % 1024 in
    let at : 1024 * t + j ≡ k = div-add-mod k 1024 in
    let less : j < 1024 = mod-lt k (omega arith) in
    let from : 1024 * t < length xs = omega (arith, at, below) in
    let there : (zs : List ℕ) → get_or (part_of t zs) j d ≡ get_or zs k d = λ zs. get_or-take 1024 (drop (1024 * t) zs) j d less ∙ (get_or-drop (1024 * t) zs j d ∙ ap (λ n. get_or zs n d) at) in
    sym (there xs) ∙ (ap (λ zs. get_or zs j d) (parts t from) ∙ there ys))

part_length : (t : ℕ) (xs ys : List ℕ) → length xs ≡ length ys → length (part_of t xs) ≡ length (part_of t ys)
part_length t xs ys len = length-take 1024 (drop (1024 * t) xs) ∙ (ap (min 1024) (length-drop (1024 * t) xs ∙ (ap (λ n. n - 1024 * t) len ∙ sym (length-drop (1024 * t) ys))) ∙ sym (length-take 1024 (drop (1024 * t) ys)))

-- Lists of page numbers with the same spelling are equal.
alike : (xs ys : List ℕ) → All (λ p. p < 2 ^ 32) xs → All (λ p. p < 2 ^ 32) ys → length xs ≡ length ys → record_bytes xs ≡ record_bytes ys → xs ≡ ys
alike xs ys low low_2 len same = same_records (length ys) xs ys (record { len = len; each = low }) (record { len = refl; each = low_2 }) same

-- the number of index pages of a whole plane
index_length : (format : Format) (p : PlaneLocation) → IsWholePlane format p → (format.version ≡ Two) → (t : ℕ) → 1024 * t < length p.pages → t < length p.index_pages
index_length format p whole two t below = omega (arith, below, whole.pages, whole.index_pages, ap (λ v. index_pages_by v (pages_of format.side)) two)

part_low : (t : ℕ) (pages : List ℕ) → All (λ p. p < 2 ^ 32) pages → All (λ p. p < 2 ^ 32) (part_of t pages)
part_low t pages low = All-take (λ p. p < 2 ^ 32) 1024 (drop (1024 * t) pages) (All-drop (λ p. p < 2 ^ 32) (1024 * t) pages low)

-- Two planes with the same record and index pages have the same pages.
same_behind : (v : Version) (image : Image) (a b : PlaneLocation) → All (λ p. p < 2 ^ 32) (pages_behind a) → All (λ p. p < 2 ^ 32) (pages_behind b)
    → length a.index_pages ≡ length b.index_pages → length a.pages ≡ length b.pages → record_bytes (listed_by v a) ≡ record_bytes (listed_by v b)
    → (v ≡ Two → (t : ℕ) → 1024 * t < length a.pages → t < length a.index_pages)
    → ((t : ℕ) → t < length a.index_pages → IsIndexed image a t) → ((t : ℕ) → t < length b.index_pages → IsIndexed image b t)
    → (v ≡ One → length a.index_pages ≡ 0)
    → (a.index_pages ≡ b.index_pages) × (a.pages ≡ b.pages)
same_behind One image a b low low_2 index_len len same enough p q none = (
  nil_from_length a.index_pages (none refl) ∙ sym (nil_from_length b.index_pages (sym index_len ∙ none refl)),
  alike a.pages b.pages (All-back (λ p. p < 2 ^ 32) a.index_pages a.pages low) (All-back (λ p. p < 2 ^ 32) b.index_pages b.pages low_2) len same,
)
same_behind Two image a b low low_2 index_len len same enough p q none =
    let index = alike a.index_pages b.index_pages (All-front (λ p. p < 2 ^ 32) a.index_pages a.pages low) (All-front (λ p. p < 2 ^ 32) b.index_pages b.pages low_2) index_len same in (
      index,
      same_parts a.pages b.pages len (λ t below.
          let here = enough refl t below in
          alike (part_of t a.pages) (part_of t b.pages) (part_low t a.pages (All-back (λ p. p < 2 ^ 32) a.index_pages a.pages low)) (part_low t b.pages (All-back (λ p. p < 2 ^ 32) b.index_pages b.pages low_2))
          (part_length t a.pages b.pages len)
          (sym (p t here) ∙ (ap (λ l. image (get_or l t 0)) index ∙ q t (omega (arith, here, index_len))))),
    )

-- A record page lists the pages of one plane only.
pub one_plane : (format : Format) (image : Image) (a b : PlaneLocation) → HasRecord format image a → HasRecord format image b → a.record_page ≡ b.record_page → a ≡ b
one_plane format image a b p q same =
    let behind = same_behind format.version image a b p.each q.each (p.whole.index_pages ∙ sym q.whole.index_pages) (p.whole.pages ∙ sym q.whole.pages)
    (sym p.listed ∙ ap image same ∙ q.listed) (λ two. index_length format a p.whole two) p.indexed q.indexed (λ one. p.whole.index_pages ∙ ap (λ v. index_pages_by v (pages_of format.side)) one) in
    ap₂ (λ (r : ℕ) (index : List ℕ). record { record_page = r; index_pages = index; pages = a.pages }) same behind.0
    ∙ ap (λ (pages : List ℕ). record { record_page = b.record_page; index_pages = b.index_pages; pages = pages }) behind.1

pub one_kept : (format : Format) (image : Image) (a b : Option KeptLocations) → IfSome a (HaveKeptRecords format image) → IfSome b (HaveKeptRecords format image) → entry_of_kept a ≡ entry_of_kept b → a ≡ b
one_kept format image None None p q same = refl
one_kept format image None (Some b) p q same = cc
one_kept format image (Some a) None p q same = cc
one_kept format image (Some a) (Some b) p q same =
    let e : record { levels = a.levels.record_page; labels = a.labels.record_page } ≡ record { levels = b.levels.record_page; labels = b.labels.record_page } = cc in
    ap₂ (λ (x y : PlaneLocation). Some (record { levels = x; labels = y }))
    (one_plane format image a.levels b.levels p.levels q.levels (ap (λ (k : Kept). k.levels) e))
    (one_plane format image a.labels b.labels p.labels q.labels (ap (λ (k : Kept). k.labels) e))

pub one_tile : (format : Format) (image : Image) (a b : TileLocation) → HasRecords format image a → HasRecords format image b → entry_of a ≡ entry_of b → a ≡ b
one_tile format image a b p q same =
    let corner : a.corner ≡ b.corner = ap (λ (e : EntryValue). e.corner) same in
    let heights = one_plane format image a.heights b.heights p.heights q.heights (ap (λ (e : EntryValue). e.heights) same) in
    let kept = one_kept format image a.kept b.kept p.kept q.kept (ap (λ (e : EntryValue). e.kept) same) in
    ap₂ (λ (c : Corner) (h : PlaneLocation). record { corner = c; heights = h; kept = a.kept }) corner heights
    ∙ ap (λ (k : Option KeptLocations). record { corner = b.corner; heights = b.heights; kept = k }) kept

pub one_layout : (format : Format) (image : Image) (xs ys : List TileLocation) → All (HasRecords format image) xs → All (HasRecords format image) ys → map entry_of xs ≡ map entry_of ys → xs ≡ ys
one_layout format image [] [] p q same = refl
one_layout format image [] (b ∷ ys) p q same = cc
one_layout format image (a ∷ xs) [] p q same = cc
one_layout format image (a ∷ xs) (b ∷ ys) p q same =
    let first : entry_of a ≡ entry_of b = cc in
    let rest : map entry_of xs ≡ map entry_of ys = cc in
    ap₂ (λ (x : TileLocation) (xs : List TileLocation). x ∷ xs)
    (one_tile format image a b (All-head (HasRecords format image) a xs p) (All-head (HasRecords format image) b ys q) first)
    (one_layout format image xs ys (All-tail (HasRecords format image) a xs p) (All-tail (HasRecords format image) b ys q) rest)

-- One root has one list of tile locations on an image.
pub one_root_layout : (sectors : ℕ) (image : Image) (root : RootValue) (a b : List TileLocation) → IsLaidOut sectors image root a → IsLaidOut sectors image root b → a ≡ b
one_root_layout sectors image root a b p q = one_layout (format_of root) image a b p.records q.records (p.entries ∙ sym q.entries)

pub one_stored : StandsForOne
one_stored sectors image a b p q =
    let root : p.0 ≡ q.0 = one_is_current image p.0 q.0 p.2.laid_out.store.0 q.2.laid_out.store.0 in
    let here : IsLaidOut sectors image q.0 p.1 = subst (λ (r : RootValue). IsLaidOut sectors image r p.1) root p.2.laid_out in
    let tiles : p.1 ≡ q.1 = one_root_layout sectors image q.0 p.1 q.1 here q.2.laid_out in
    p.2.stands ∙ ap₂ (λ (r : RootValue) (ts : List TileLocation). stored_in image r ts) root tiles ∙ sym q.2.stands
