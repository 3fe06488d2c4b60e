-- What an image stores depends only on its current root and on the pages that the tiles reach.
use Rattle.cow_tree.proofs.Prelude.{All, All-cons, All-contains_itself, All-head, All-nil, All-tail, Contains, Format, HasRecord, HasRecords, HaveKeptRecords, IfSome, Image, IsCurrent, KeepsAll, KeepsBut, KeptLocations, KeptPlanes, List, None, Option, PlaneLocation, PlanePages, RootValue, SamePages, SamePagesBut, Some, Stored, StoredTile, StoresAt, TileLocation, ℕ, [], ap, ap₂, arith, format_of, get_or, get_or-append-add, get_or_append_left, kept_in, length, length-append, map, pages_behind, pages_of_kept, pages_of_plane, pages_of_tile, plane_in, reached, refl, subst, sym, tile_in, ◌++◌, ◌+◌, ◌∙◌, ◌∷◌, ◌≡◌, ◌≢◌, ◌≤◌}

-- Both images have the same contents on these pages.
abbrev pub SameOn : List ℕ → Image → Image → Type 0
SameOn pages a b = All (λ p. a p ≡ b p) pages

pub All-front : {X : Type 0} (P : X → Type 0) (xs ys : List X) → All P (xs ++ ys) → All P xs
All-front P xs ys all k d lt = subst P (get_or_append_left xs ys d k lt) (all k d (omega (arith, length-append xs ys)))

pub All-back : {X : Type 0} (P : X → Type 0) (xs ys : List X) → All P (xs ++ ys) → All P ys
All-back P xs ys all k d lt = subst P (get_or-append-add xs ys k d) (all (length xs + k) d (omega (arith, length-append xs ys)))

-- A property of all pages that tiles reach holds for the pages of each tile.
pub each_tile : (P : ℕ → Type 0) (tiles : List TileLocation) → All P (reached tiles) → All (λ t. All P (pages_of_tile t)) tiles
each_tile P [] all = All-nil (λ t. All P (pages_of_tile t))
each_tile P (t ∷ rest) all = All-cons (λ t. All P (pages_of_tile t)) t rest (All-front P (pages_of_tile t) (reached rest) all) (each_tile P rest (All-back P (pages_of_tile t) (reached rest) all))

pub map_same : (pages : List ℕ) (a b : Image) → SameOn pages a b → map a pages ≡ map b pages
map_same [] a b same = refl
map_same (p ∷ rest) a b same = ap₂ (λ (x : List ℕ) (xs : List (List ℕ)). x ∷ xs) (All-head (λ q. a q ≡ b q) p rest same) (map_same rest a b (All-tail (λ q. a q ≡ b q) p rest same))

pub plane_same : (p : PlaneLocation) (a b : Image) → SameOn (pages_of_plane p) a b → plane_in a p ≡ plane_in b p
plane_same p a b same = map_same p.pages a b (All-back (λ q. a q ≡ b q) p.index_pages p.pages (All-tail (λ q. a q ≡ b q) p.record_page (pages_behind p) same))

pub kept_same : (kept : Option KeptLocations) (a b : Image) → SameOn (pages_of_kept kept) a b → kept_in a kept ≡ kept_in b kept
kept_same None a b same = refl
kept_same (Some k) a b same =
    let front : SameOn (pages_of_plane k.levels) a b = All-front (λ q. a q ≡ b q) (pages_of_plane k.levels) (pages_of_plane k.labels) same in
    let back : SameOn (pages_of_plane k.labels) a b = All-back (λ q. a q ≡ b q) (pages_of_plane k.levels) (pages_of_plane k.labels) same in
    ap₂ (λ (x y : PlanePages). Some (record { levels = x; labels = y })) (plane_same k.levels a b front) (plane_same k.labels a b back)

pub tile_same : (t : TileLocation) (a b : Image) → SameOn (pages_of_tile t) a b → tile_in a t ≡ tile_in b t
tile_same t a b same =
    ap₂ (λ (x : PlanePages) (y : Option KeptPlanes). record { corner = t.corner; heights = x; kept = y })
    (plane_same t.heights a b (All-front (λ q. a q ≡ b q) (pages_of_plane t.heights) (pages_of_kept t.kept) same))
    (kept_same t.kept a b (All-back (λ q. a q ≡ b q) (pages_of_plane t.heights) (pages_of_kept t.kept) same))

pub tiles_same : (tiles : List TileLocation) (a b : Image) → SameOn (reached tiles) a b → map (tile_in a) tiles ≡ map (tile_in b) tiles
tiles_same [] a b same = refl
tiles_same (t ∷ rest) a b same =
    ap₂ (λ (x : StoredTile) (xs : List StoredTile). x ∷ xs)
    (tile_same t a b (All-front (λ q. a q ≡ b q) (pages_of_tile t) (reached rest) same))
    (tiles_same rest a b (All-back (λ q. a q ≡ b q) (pages_of_tile t) (reached rest) same))

pub record_same : (format : Format) (p : PlaneLocation) (a b : Image) → SameOn (pages_of_plane p) a b → HasRecord format a p → HasRecord format b p
record_same format p a b same has =
    let front : SameOn p.index_pages a b = All-front (λ q. a q ≡ b q) p.index_pages p.pages (All-tail (λ q. a q ≡ b q) p.record_page (pages_behind p) same) in
    record {
      whole = has.whole;
      each = has.each;
      listed = sym (All-head (λ q. a q ≡ b q) p.record_page (pages_behind p) same) ∙ has.listed;
      indexed = λ t lt. sym (front t 0 lt) ∙ has.indexed t lt;
    }

pub kept_records_same : (format : Format) (kept : Option KeptLocations) (a b : Image) → SameOn (pages_of_kept kept) a b → IfSome kept (HaveKeptRecords format a) → IfSome kept (HaveKeptRecords format b)
kept_records_same format None a b same has = has
kept_records_same format (Some k) a b same has = record {
  levels = record_same format k.levels a b (All-front (λ q. a q ≡ b q) (pages_of_plane k.levels) (pages_of_plane k.labels) same) has.levels;
  labels = record_same format k.labels a b (All-back (λ q. a q ≡ b q) (pages_of_plane k.levels) (pages_of_plane k.labels) same) has.labels;
}

pub tile_records_same : (format : Format) (t : TileLocation) (a b : Image) → SameOn (pages_of_tile t) a b → HasRecords format a t → HasRecords format b t
tile_records_same format t a b same has = record {
  heights = record_same format t.heights a b (All-front (λ q. a q ≡ b q) (pages_of_plane t.heights) (pages_of_kept t.kept) same) has.heights;
  kept = kept_records_same format t.kept a b (All-back (λ q. a q ≡ b q) (pages_of_plane t.heights) (pages_of_kept t.kept) same) has.kept;
}

pub records_same : (format : Format) (tiles : List TileLocation) (a b : Image) → SameOn (reached tiles) a b → All (HasRecords format a) tiles → All (HasRecords format b) tiles
records_same format tiles a b same all k d lt = tile_records_same format (get_or tiles k d) a b (each_tile (λ q. a q ≡ b q) tiles same k d lt) (all k d lt)

-- An image with the same current root and the same reached pages stores the same.
pub stores_same : (sectors : ℕ) (root : RootValue) (tiles : List TileLocation) (s : Stored) (a b : Image) → IsCurrent root b → SameOn (reached tiles) a b → StoresAt sectors root tiles s a → StoresAt sectors root tiles s b
stores_same sectors root tiles s a b current same stores = record {
  laid_out = record {
    store = (current, stores.laid_out.store.1);
    entries = stores.laid_out.entries;
    records = records_same (format_of root) tiles a b same stores.laid_out.records;
    page_rule = stores.laid_out.page_rule;
  };
  stands = stores.stands ∙ ap (λ (ts : List StoredTile). record { version = root.version; side = root.side; capacity = root.capacity; number = root.number; count = root.count; sinks = root.sinks; tiles = ts }) (tiles_same tiles a b same);
}

pub same_on_all : (pages : List ℕ) (a b : Image) → All (λ p. 4 ≤ p) pages → SamePages a b → SameOn pages a b
same_on_all pages a b low same k d lt = same _ (low k d lt)

pub apart_from : (pages : List ℕ) (p : ℕ) → ¬ Contains pages p → All (λ q. q ≢ p) pages
apart_from pages p none k d lt e = none (subst (Contains pages) e (All-contains_itself pages k d lt))

pub same_on_but : (pages : List ℕ) (p : ℕ) (a b : Image) → All (λ q. 4 ≤ q) pages → ¬ Contains pages p → SamePagesBut p a b → SameOn pages a b
same_on_but pages p a b low none same k d lt = same _ (low k d lt) (apart_from pages p none k d lt)

-- A step of the roots that keeps all pages, or all but one that no tile reaches, keeps what is stored.
pub stores_kept : (sectors : ℕ) (root : RootValue) (tiles : List TileLocation) (s : Stored) (images : Image → Type 0) → ((i : Image) → images i → StoresAt sectors root tiles s i)
    → (i : Image) → KeepsAll root images i → StoresAt sectors root tiles s i
stores_kept sectors root tiles s images each i keeps =
    let was = each keeps.1.0 keeps.1.1 in
    stores_same sectors root tiles s keeps.1.0 i keeps.0 (same_on_all (reached tiles) keeps.1.0 i was.laid_out.page_rule.low keeps.1.2) was

pub stores_kept_but : (p sectors : ℕ) (root : RootValue) (tiles : List TileLocation) (s : Stored) (images : Image → Type 0) → ((i : Image) → images i → StoresAt sectors root tiles s i)
    → ¬ Contains (reached tiles) p → (i : Image) → KeepsBut p root images i → StoresAt sectors root tiles s i
stores_kept_but p sectors root tiles s images each none i keeps =
    let was = each keeps.1.0 keeps.1.1 in
    stores_same sectors root tiles s keeps.1.0 i keeps.0 (same_on_but (reached tiles) p keeps.1.0 i was.laid_out.page_rule.low none keeps.1.2) was
