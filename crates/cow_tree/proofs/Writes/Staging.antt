-- How one written page changes the staged tiles: among all pages that they reach, the page is there once.
use Rattle.cow_tree.proofs.Prelude.{All, All-cons, All-head, All-nil, All-tail, AreListedBy, AreStaged, Bool, Corner, Format, IfSome, Image, IsIndexed, IsListedBy, IsTileListed, KeptLocations, List, None, Option, PlaneLocation, SamePagesBut, Some, TileLocation, ℕ, [], ap, ap₂, arith, cases_eq, cases_lt, drop, false, get_or, if◌then◌else◌, inl, inr, is_at, is_unreached, length, list_any, map, moved_plane, not, pages_behind, pages_of_kept, pages_of_plane, pages_of_tile, part_of, reached, record_bytes, refl, slice_set, subst, suc, sym, take, tile_in, times, times-append, true, zero, ◌*◌, ◌++◌, ◌+◌, ◌-◌, ◌/◌, ◌<◌, ◌==◌, ◌||◌, ◌∙◌, ◌∷◌, ◌≡◌, ◌≢◌, ◌≤◌}
use Rattle.std.proofs.lemmas.List.{drop-set-lt, drop-set-add, take-set-le, length-set, get_or-set_same, get_or-set_other}
use Rattle.cow_tree.specs.Stored.{PlanePages, KeptPlanes, StoredTile, with_page_in, with_page}
use Rattle.cow_tree.proofs.Standing.{SameOn, All-front, All-back, map_same, kept_same, tile_same}
use Rattle.page_map.proofs.Occurrences.{times_here, apart_head, absent, set_there}

-- the tile after a write of page i of its heights: the page, its index page and the record have new places, if it is
-- the corner's tile
abbrev pub rewritten : Corner → (i p x r : ℕ) → TileLocation → TileLocation
rewritten c i p x r t = if is_at c t then record t { heights = moved_plane i p x r t.heights } else t

pub rewritten_here : (c : Corner) (i p x r : ℕ) (t : TileLocation) → is_at c t ≡ true → rewritten c i p x r t ≡ record t { heights = moved_plane i p x r t.heights }
rewritten_here c i p x r t here = ap (λ (b : Bool). if b then record t { heights = moved_plane i p x r t.heights } else t) here

pub rewritten_other : (c : Corner) (i p x r : ℕ) (t : TileLocation) → is_at c t ≡ false → rewritten c i p x r t ≡ t
rewritten_other c i p x r t other = ap (λ (b : Bool). if b then record t { heights = moved_plane i p x r t.heights } else t) other

-- how the written page changes what a tile stores
pub record IsWrittenAt (c : Corner) (i p x : ℕ) (page : List ℕ) (a b : Image) (t : TileLocation) : Type 0 where
  pub others : is_at c t ≡ false → SameOn (pages_of_tile t) a b
  pub kept : is_at c t ≡ true → SameOn (pages_of_kept t.kept) a b
  pub index : is_at c t ≡ true → SameOn (slice_set t.heights.index_pages (i / 1024) x) a b
  pub heights : is_at c t ≡ true → map b (slice_set t.heights.pages i p) ≡ slice_set (map a t.heights.pages) i page

pub same_where_absent : (pages : List ℕ) (p : ℕ) (a b : Image) → All (λ q. 4 ≤ q) pages → times p pages ≡ 0 → SamePagesBut p a b → SameOn pages a b
same_where_absent pages p a b low none same k d lt = same _ (low k d lt) (absent p pages none k d lt)

-- a plane's contents after one of its pages was written
set_written : (xs : List ℕ) (i p : ℕ) (page : List ℕ) (a b : Image) → i < length xs → All (λ q. 4 ≤ q) (slice_set xs i p) → times p (slice_set xs i p) ≤ 1 → SamePagesBut p a b → b p ≡ page
    → map b (slice_set xs i p) ≡ slice_set (map a xs) i page
set_written [] i p page a b lt low once same written = absurd (omega arith)
set_written (x ∷ xs) zero p page a b lt low once same written =
    let here = times_here p p xs refl in
    ap₂ (λ (y : List ℕ) (ys : List (List ℕ)). y ∷ ys) written (sym (map_same xs a b (same_where_absent xs p a b (All-tail (λ q. 4 ≤ q) p xs low) (omega (arith, here, once)) same)))
set_written (x ∷ xs) (suc i) p page a b lt low once same written =
    let there = set_there p xs i (omega arith) in
    let split = times-append p (x ∷ []) (slice_set xs i p) in
    let first : x ≢ p = apart_head p x [] (omega (arith, there, split, once)) in
    ap₂ (λ (y : List ℕ) (ys : List (List ℕ)). y ∷ ys) (sym (same x (All-head (λ q. 4 ≤ q) x (slice_set xs i p) low) first))
    (set_written xs i p page a b (omega arith) (All-tail (λ q. 4 ≤ q) x (slice_set xs i p) low) (omega (arith, split, once)) same written)

-- Tiles after the one with the written page, which stay the same.
module _ (c : Corner) (i p x r : ℕ) (page : List ℕ) (a b : Image) (same : SamePagesBut p a b) where
  -- The rewritten tile reaches the page.
  reaches : (t : TileLocation) → is_at c t ≡ true → i < length t.heights.pages → 1 ≤ times p (pages_of_tile (rewritten c i p x r t))
  reaches t here lt =
      let there = set_there p t.heights.pages i lt in
      let index : List ℕ = slice_set t.heights.index_pages (i / 1024) x in
      let pages : List ℕ = slice_set t.heights.pages i p in
      subst (λ (u : TileLocation). 1 ≤ times p (pages_of_tile u)) (sym (rewritten_here c i p x r t here))
      (omega (arith, there, times-append p (r ∷ []) ((index ++ pages) ++ pages_of_kept t.kept), times-append p (index ++ pages) (pages_of_kept t.kept), times-append p index pages))

  beyond_one : (t : TileLocation) → i < length t.heights.pages → All (λ q. 4 ≤ q) (pages_of_tile (rewritten c i p x r t)) → times p (pages_of_tile (rewritten c i p x r t)) ≡ 0 → IsWrittenAt c i p x page a b t
  beyond_one t lt low none = record {
    others = λ other. let e = rewritten_other c i p x r t other in
        same_where_absent (pages_of_tile t) p a b (subst (λ (u : TileLocation). All (λ q. 4 ≤ q) (pages_of_tile u)) e low) (ap (λ (u : TileLocation). times p (pages_of_tile u)) (sym e) ∙ none) same;
    kept = λ here. absurd (omega (arith, reaches t here lt, none));
    index = λ here. absurd (omega (arith, reaches t here lt, none));
    heights = λ here. absurd (omega (arith, reaches t here lt, none));
  }

  beyond : (tiles : List TileLocation) → All (λ t. i < length t.heights.pages) tiles → All (λ q. 4 ≤ q) (reached (map (rewritten c i p x r) tiles)) → times p (reached (map (rewritten c i p x r) tiles)) ≡ 0 → All (IsWrittenAt c i p x page a b) tiles
  beyond [] long low none = All-nil (IsWrittenAt c i p x page a b)
  beyond (t ∷ rest) long low none =
      let first : List ℕ = pages_of_tile (rewritten c i p x r t) in
      let others : List ℕ = reached (map (rewritten c i p x r) rest) in
      let split = times-append p first others in
      All-cons (IsWrittenAt c i p x page a b) t rest
      (beyond_one t (All-head (λ t. i < length t.heights.pages) t rest long) (All-front (λ q. 4 ≤ q) first others low) (omega (arith, split, none)))
      (beyond rest (All-tail (λ t. i < length t.heights.pages) t rest long) (All-back (λ q. 4 ≤ q) first others low) (omega (arith, split, none)))

  -- Some tile before the end is the corner's, so a rewritten tile reaches the page.
  some_reaches : (tiles : List TileLocation) → All (λ t. i < length t.heights.pages) tiles → list_any (is_at c) tiles ≡ true → 1 ≤ times p (reached (map (rewritten c i p x r) tiles))
  some_reaches [] long present = cc
  some_reaches (t ∷ rest) long present =
      let split = times-append p (pages_of_tile (rewritten c i p x r t)) (reached (map (rewritten c i p x r) rest)) in
      elim (is_at c t) as (λ (v : Bool). is_at c t ≡ v → 1 ≤ times p (reached (map (rewritten c i p x r) (t ∷ rest)))) [
        | true ↦ λ here. omega (arith, split, reaches t here (All-head (λ t. i < length t.heights.pages) t rest long))
        | false ↦ λ other. omega (arith, split, some_reaches rest (All-tail (λ t. i < length t.heights.pages) t rest long) (sym (ap (λ (b : Bool). b || list_any (is_at c) rest) other) ∙ present))
      ] refl

  -- the contents of the corner's tile afterwards
  written_one : (t : TileLocation) → is_at c t ≡ true → i < length t.heights.pages → b p ≡ page → All (λ q. 4 ≤ q) (pages_of_tile (rewritten c i p x r t)) → times p (pages_of_tile (rewritten c i p x r t)) ≤ 1 → IsWrittenAt c i p x page a b t
  written_one t here lt written low once =
      let e = rewritten_here c i p x r t here in
      let index : List ℕ = slice_set t.heights.index_pages (i / 1024) x in
      let pages : List ℕ = slice_set t.heights.pages i p in
      let behind : List ℕ = index ++ pages in
      let kept : List ℕ = pages_of_kept t.kept in
      let low_here : All (λ q. 4 ≤ q) ((r ∷ behind) ++ kept) = subst (λ (u : TileLocation). All (λ q. 4 ≤ q) (pages_of_tile u)) e low in
      let low_pages : All (λ q. 4 ≤ q) pages = All-back (λ q. 4 ≤ q) index pages (All-tail (λ q. 4 ≤ q) r behind (All-front (λ q. 4 ≤ q) (r ∷ behind) kept low_here)) in
      let once_here : times p ((r ∷ behind) ++ kept) ≤ 1 = subst (λ (u : TileLocation). times p (pages_of_tile u) ≤ 1) e once in
      let split = times-append p (r ∷ behind) kept in
      let split_2 = times-append p (r ∷ []) behind in
      let split_3 = times-append p index pages in
      let there = set_there p t.heights.pages i lt in
      record {
        others = λ other. absurd (let no : true ≡ false = sym here ∙ other in cc);
        kept = λ _. same_where_absent kept p a b (All-back (λ q. 4 ≤ q) (r ∷ behind) kept low_here) (omega (arith, split, split_2, split_3, there, once_here)) same;
        index = λ _. same_where_absent index p a b (All-front (λ q. 4 ≤ q) index pages (All-tail (λ q. 4 ≤ q) r behind (All-front (λ q. 4 ≤ q) (r ∷ behind) kept low_here))) (omega (arith, split, split_2, split_3, there, once_here)) same;
        heights = λ _. set_written t.heights.pages i p page a b lt low_pages (omega (arith, split, split_2, split_3, once_here)) same written;
      }

  pub written_tiles : b p ≡ page → (tiles : List TileLocation) → All (λ t. i < length t.heights.pages) tiles → list_any (is_at c) tiles ≡ true → All (λ q. 4 ≤ q) (reached (map (rewritten c i p x r) tiles)) → times p (reached (map (rewritten c i p x r) tiles)) ≤ 1
      → All (IsWrittenAt c i p x page a b) tiles
  written_tiles written [] long present low once = cc
  written_tiles written (t ∷ rest) long present low once =
      let first : List ℕ = pages_of_tile (rewritten c i p x r t) in
      let others : List ℕ = reached (map (rewritten c i p x r) rest) in
      let split = times-append p first others in
      let long_here = All-head (λ t. i < length t.heights.pages) t rest long in
      let long_rest = All-tail (λ t. i < length t.heights.pages) t rest long in
      let low_here = All-front (λ q. 4 ≤ q) first others low in
      let low_rest = All-back (λ q. 4 ≤ q) first others low in
      elim (is_at c t) as (λ (v : Bool). is_at c t ≡ v → All (IsWrittenAt c i p x page a b) (t ∷ rest)) [
        | true ↦ λ here.
            let reaches_it = reaches t here long_here in
            All-cons (IsWrittenAt c i p x page a b) t rest
            (written_one t here long_here written low_here (omega (arith, split, once)))
            (beyond rest long_rest low_rest (omega (arith, split, once, reaches_it)))
        | false ↦ λ other.
            let present_rest : list_any (is_at c) rest ≡ true = sym (ap (λ (b : Bool). b || list_any (is_at c) rest) other) ∙ present in
            let reached_later = some_reaches rest long_rest present_rest in
            All-cons (IsWrittenAt c i p x page a b) t rest
            (beyond_one t long_here low_here (omega (arith, split, once, reached_later)))
            (written_tiles written rest long_rest present_rest low_rest (omega (arith, split, once)))
      ] refl

-- what the tile stores afterwards
staged_one : (c : Corner) (i p x r : ℕ) (page : List ℕ) (a b : Image) (t : TileLocation) → IsWrittenAt c i p x page a b t → tile_in b (rewritten c i p x r t) ≡ with_page_in c i page (tile_in a t)
staged_one c i p x r page a b t written =
    elim (is_at c t) as (λ (v : Bool). is_at c t ≡ v → tile_in b (if v then record t { heights = moved_plane i p x r t.heights } else t) ≡ (if v then record (tile_in a t) { heights = slice_set (map a t.heights.pages) i page } else tile_in a t)) [
      | true ↦ λ here. ap₂ (λ (x : PlanePages) (y : Option KeptPlanes). record { corner = t.corner; heights = x; kept = y }) (written.heights here) (sym (kept_same t.kept a b (written.kept here)))
      | false ↦ λ other. sym (tile_same t a b (written.others other))
    ] refl

pub staged_pages : (c : Corner) (i p x r : ℕ) (page : List ℕ) (a b : Image) (tiles : List TileLocation) → All (IsWrittenAt c i p x page a b) tiles → map (tile_in b) (map (rewritten c i p x r) tiles) ≡ with_page c i page (map (tile_in a) tiles)
staged_pages c i p x r page a b [] written = refl
staged_pages c i p x r page a b (t ∷ rest) written =
    ap₂ (λ (x : StoredTile) (xs : List StoredTile). x ∷ xs)
    (staged_one c i p x r page a b t (All-head (IsWrittenAt c i p x page a b) t rest written))
    (staged_pages c i p x r page a b rest (All-tail (IsWrittenAt c i p x page a b) t rest written))

-- ---- the index pages of the plane that has the page
pub listed_same : (format : Format) (committed : List TileLocation) (p : PlaneLocation) (a b : Image) → SameOn (pages_of_plane p) a b → IsListedBy format committed a p → IsListedBy format committed b p
listed_same format committed p a b same had = record {
  listed = λ shared. sym (All-head (λ q. a q ≡ b q) p.record_page (pages_behind p) same) ∙ had.listed shared;
  indexed = λ k lt shared. sym (All-front (λ q. a q ≡ b q) p.index_pages p.pages (All-tail (λ q. a q ≡ b q) p.record_page (pages_behind p) same) k 0 lt) ∙ had.indexed k lt shared;
}

pub kept_listed_same : (format : Format) (committed : List TileLocation) (kept : Option KeptLocations) (a b : Image) → SameOn (pages_of_kept kept) a b → IfSome kept (AreListedBy format committed a) → IfSome kept (AreListedBy format committed b)
kept_listed_same format committed None a b same had = tt
kept_listed_same format committed (Some k) a b same had = record {
  levels = listed_same format committed k.levels a b (All-front (λ q. a q ≡ b q) (pages_of_plane k.levels) (pages_of_plane k.labels) same) had.levels;
  labels = listed_same format committed k.labels a b (All-back (λ q. a q ≡ b q) (pages_of_plane k.levels) (pages_of_plane k.labels) same) had.labels;
}

pub tile_listed_same : (format : Format) (committed : List TileLocation) (t : TileLocation) (a b : Image) → SameOn (pages_of_tile t) a b → IsTileListed format committed a t → IsTileListed format committed b t
tile_listed_same format committed t a b same had = record {
  heights = listed_same format committed t.heights a b (All-front (λ q. a q ≡ b q) (pages_of_plane t.heights) (pages_of_kept t.kept) same) had.heights;
  kept = kept_listed_same format committed t.kept a b (All-back (λ q. a q ≡ b q) (pages_of_plane t.heights) (pages_of_kept t.kept) same) had.kept;
}

-- An index page that doesn't list page i stays the same.
part_stays : (pages : List ℕ) (i p k : ℕ) → k ≢ i / 1024 → part_of k (slice_set pages i p) ≡ part_of k pages
part_stays pages i p k apart = elim (cases_lt i (1024 * k)) [
  | inl before ↦ ap (take 1024) (drop-set-lt (1024 * k) pages i p before)
  | inr behind ↦
      let far : 1024 ≤ i - 1024 * k = omega (arith, behind, apart) in
      let there : 1024 * k + (i - 1024 * k) ≡ i = omega (arith, behind) in
      ap (λ n. take 1024 (drop (1024 * k) (slice_set pages n p))) (sym there)
      ∙ (ap (take 1024) (drop-set-add (1024 * k) pages (i - 1024 * k) p) ∙ take-set-le 1024 (drop (1024 * k) pages) (i - 1024 * k) p far)
]

moved_part : (committed : List TileLocation) (h : PlaneLocation) (i p x : ℕ) (a b : Image) → (i / 1024 < length h.index_pages → list_any (λ q. q == x) (reached committed) ≡ false)
    → SameOn (slice_set h.index_pages (i / 1024) x) a b → ((k : ℕ) → k < length h.index_pages → is_unreached committed (get_or h.index_pages k 0) ≡ false → IsIndexed a h k)
    → (k : ℕ) → k < length (slice_set h.index_pages (i / 1024) x) → is_unreached committed (get_or (slice_set h.index_pages (i / 1024) x) k 0) ≡ false
    → b (get_or (slice_set h.index_pages (i / 1024) x) k 0) ≡ record_bytes (part_of k (slice_set h.pages i p))
moved_part committed h i p x a b fresh same had k lt shared = elim (cases_eq k (i / 1024)) [
  | inl here ↦
      let long : k < length h.index_pages = omega (arith, lt, length-set h.index_pages (i / 1024) x) in
      let is_x : get_or (slice_set h.index_pages (i / 1024) x) k 0 ≡ x = ap (λ n. get_or (slice_set h.index_pages (i / 1024) x) n 0) here ∙ get_or-set_same h.index_pages (i / 1024) x 0 (omega (arith, long, here)) in
      absurd (let no : true ≡ false = sym (ap not (fresh (omega (arith, long, here)))) ∙ (sym (ap (is_unreached committed) is_x) ∙ shared) in cc)
  | inr other ↦
      let long : k < length h.index_pages = omega (arith, lt, length-set h.index_pages (i / 1024) x) in
      let stays : get_or (slice_set h.index_pages (i / 1024) x) k 0 ≡ get_or h.index_pages k 0 = get_or-set_other h.index_pages (i / 1024) k x 0 other in
      sym (same k 0 lt) ∙ (ap a stays ∙ (had k long (sym (ap (is_unreached committed) stays) ∙ shared) ∙ ap record_bytes (sym (part_stays h.pages i p k other))))
]

module _ (format : Format) (committed : List TileLocation) (c : Corner) (i p x r : ℕ) (page : List ℕ) (a b : Image) (fresh : list_any (λ q. q == r) (reached committed) ≡ false) where
  abbrev HasFreshIndex : TileLocation → Type 0
  HasFreshIndex t = i / 1024 < length t.heights.index_pages → list_any (λ q. q == x) (reached committed) ≡ false

  tile_one : (t : TileLocation) → HasFreshIndex t → IsWrittenAt c i p x page a b t → IsTileListed format committed a t → IsTileListed format committed b (rewritten c i p x r t)
  tile_one t fresh_index written had =
      elim (is_at c t) as (λ (v : Bool). is_at c t ≡ v → IsTileListed format committed b (if v then record t { heights = moved_plane i p x r t.heights } else t)) [
        | true ↦ λ here. record {
          heights = record {
            listed = λ shared. absurd (let no : true ≡ false = sym (ap not fresh) ∙ shared in cc);
            indexed = moved_part committed t.heights i p x a b fresh_index (written.index here) had.heights.indexed;
          };
          kept = kept_listed_same format committed t.kept a b (written.kept here) had.kept;
        }
        | false ↦ λ other. tile_listed_same format committed t a b (written.others other) had
      ] refl

  pub still_staged : (tiles : List TileLocation) → All HasFreshIndex tiles → All (IsWrittenAt c i p x page a b) tiles → AreStaged format committed tiles a → AreStaged format committed (map (rewritten c i p x r) tiles) b
  still_staged [] fresh_index written had = All-nil (IsTileListed format committed b)
  still_staged (t ∷ rest) fresh_index written had =
      All-cons (IsTileListed format committed b) (rewritten c i p x r t) (map (rewritten c i p x r) rest)
      (tile_one t (All-head HasFreshIndex t rest fresh_index) (All-head (IsWrittenAt c i p x page a b) t rest written) (All-head (IsTileListed format committed a) t rest had))
      (still_staged rest (All-tail HasFreshIndex t rest fresh_index) (All-tail (IsWrittenAt c i p x page a b) t rest written) (All-tail (IsTileListed format committed a) t rest had))
