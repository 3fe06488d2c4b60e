-- The result of a commit: all staged tiles are reached from the new root.
use Rattle.cow_tree.proofs.Prelude.{All, All-append, All-cons, All-head, All-nil, All-tail, All-weaker, AreListedBy, AreStaged, AreWholeKept, Bool, EntryValue, Format, Ghosts, HasMoved, HasRecord, HasRecords, HaveKeptRecords, IfSome, Image, IsIndexed, IsListedBy, IsOn, IsPageMap, IsTileListed, IsWholePlane, IsWholeTile, KeepsAll, KeepsPageRule, KeptLocations, KeptPlanes, LeavesOnly, List, ListingPage, None, Option, PageMapValue, PlaneLocation, PlanePages, Point, RootValue, Some, Stands, Stored, StoredTile, StoresAt, TileLocation, ℕ, [], all_numbers, ap, ap₂, arith, due_among, entry_of, false, format_of, get_or, if◌then◌else◌, in_turn, index_listing, inl, inr, is_unreached, kept_in, kept_listing, length, listed_by, listing_bytes, listing_of, map, numbers_of, pages_behind, pages_of_kept, pages_of_plane, pages_of_tile, plane_listing, reached, record_bytes, refl, sectors_asked, stored_in, subst, suc, sym, tile_in, tile_listing, tiles_listing, times, true, weaker, zero, ⊎_elim, ◌+◌, ◌<◌, ◌^◌, ◌∙◌, ◌∷◌, ◌≡◌, ◌≤◌, ◌⊎◌}
use Rattle.std.proofs.lemmas.Bool.{cases_Bool}
use Rattle.page_map.specs.Upgraded.{KeptData, TileData, data_of, data_of_kept, listings}
use Rattle.page_map.proofs.UpgradedTiles.{kept_data, data_pages, all_data, tiles_split}
use Rattle.cow_tree.proofs.Listed.Counting.{at_times, times_failing}
use Rattle.cow_tree.proofs.Listed.ListingPages.{all_within, due_numbers, few_due, number_there, plane_at, plane_length, tiles_numbers}
use Rattle.cow_tree.proofs.Standing.{SameOn, All-front, All-back, map_same, stores_kept, each_tile}
use Rattle.cow_tree.proofs.Steps.{stands}
use Rattle.cow_tree.proofs.Tiles.{unfiltered}

-- ---- the contents of tiles' pages, without the records and index pages that list them
abbrev kept_over : Image → Option KeptData → Option KeptPlanes
kept_over image None = None
kept_over image (Some k) = Some (record { levels = map image k.levels; labels = map image k.labels })

abbrev tile_over : Image → TileData → StoredTile
tile_over image d = record { corner = d.corner; heights = map image d.heights; kept = kept_over image d.kept }

over_kept : (image : Image) (kept : Option KeptLocations) → kept_in image kept ≡ kept_over image (data_of_kept kept)
over_kept image None = refl
over_kept image (Some k) = refl

over : (image : Image) (tiles : List TileLocation) → map (tile_in image) tiles ≡ map (tile_over image) (map data_of tiles)
over image [] = refl
over image (t ∷ rest) =
    ap₂ (λ (k : Option KeptPlanes) (ts : List StoredTile). let u : StoredTile = record { corner = t.corner; heights = map image t.heights.pages; kept = k } in u ∷ ts) (over_kept image t.kept) (over image rest)

kept_alike : (a b : Image) (kept : Option KeptData) → SameOn (kept_data kept) a b → kept_over a kept ≡ kept_over b kept
kept_alike a b None same = refl
kept_alike a b (Some k) same =
    ap₂ (λ (x y : PlanePages). Some (record { levels = x; labels = y })) (map_same k.levels a b (All-front (λ q. a q ≡ b q) k.levels k.labels same)) (map_same k.labels a b (All-back (λ q. a q ≡ b q) k.levels k.labels same))

alike : (a b : Image) (tiles : List TileData) → SameOn (all_data tiles) a b → map (tile_over a) tiles ≡ map (tile_over b) tiles
alike a b [] same = refl
alike a b (d ∷ rest) same =
    let here : SameOn (data_pages d) a b = All-front (λ q. a q ≡ b q) (data_pages d) (all_data rest) same in
    let tile : tile_over a d ≡ tile_over b d =
    ap₂ (λ (x : PlanePages) (y : Option KeptPlanes). let u : StoredTile = record { corner = d.corner; heights = x; kept = y } in u)
    (map_same d.heights a b (All-front (λ q. a q ≡ b q) d.heights (kept_data d.kept) here)) (kept_alike a b d.kept (All-back (λ q. a q ≡ b q) d.heights (kept_data d.kept) here)) in
    ap₂ (λ (t : StoredTile) (ts : List StoredTile). t ∷ ts) tile (alike a b rest (All-back (λ q. a q ≡ b q) (data_pages d) (all_data rest) same))

-- ---- the records and index pages of a plane and of tiles
indexed_by : (format : Format) (p : PlaneLocation) (image : Image) → All (IsOn image) (plane_listing format p) → (t : ℕ) → t < length p.index_pages → IsIndexed image p t
indexed_by format p image all t lt =
    let d : ListingPage = record { page = 0; bytes = [] } in
    subst (IsOn image) (plane_at format p (suc t) d (omega (arith, lt))) (all (suc t) d (omega (arith, lt, plane_length format p)))

plane_listed : (format : Format) (tiles : List TileLocation) (p : PlaneLocation) (image : Image) → IsListedBy format tiles image p → All (λ l. is_unreached tiles l.page ≡ false → IsOn image l) (plane_listing format p)
plane_listed format tiles p image had i d lt =
    let below : i < length (listing_of p) = omega (arith, lt, plane_length format p) in
    subst (λ (l : ListingPage). is_unreached tiles l.page ≡ false → IsOn image l) (sym (plane_at format p i d below)) (by i below)
  where
    by : (k : ℕ) → k < length (listing_of p) → is_unreached tiles (get_or (listing_of p) k 0) ≡ false → image (get_or (listing_of p) k 0) ≡ listing_bytes format p k
    by zero below shared = had.listed shared
    by (suc k) below shared = had.indexed k (omega (arith, below)) shared

kept_listed : (format : Format) (tiles : List TileLocation) (kept : Option KeptLocations) (image : Image) → IfSome kept (AreListedBy format tiles image) → All (λ l. is_unreached tiles l.page ≡ false → IsOn image l) (kept_listing format kept)
kept_listed format tiles None image had = All-nil (λ l. is_unreached tiles l.page ≡ false → IsOn image l)
kept_listed format tiles (Some k) image had =
    All-append (λ l. is_unreached tiles l.page ≡ false → IsOn image l) (plane_listing format k.levels) (plane_listing format k.labels) (plane_listed format tiles k.levels image had.levels) (plane_listed format tiles k.labels image had.labels)

tiles_listed : (format : Format) (committed tiles : List TileLocation) (image : Image) → AreStaged format committed tiles image → All (λ l. is_unreached committed l.page ≡ false → IsOn image l) (tiles_listing format tiles)
tiles_listed format committed [] image had = All-nil (λ l. is_unreached committed l.page ≡ false → IsOn image l)
tiles_listed format committed (t ∷ rest) image had =
    let here = All-head (IsTileListed format committed image) t rest had in
    All-append (λ l. is_unreached committed l.page ≡ false → IsOn image l) (tile_listing format t) (tiles_listing format rest)
    (All-append (λ l. is_unreached committed l.page ≡ false → IsOn image l) (plane_listing format t.heights) (kept_listing format t.kept) (plane_listed format committed t.heights image here.heights) (kept_listed format committed t.kept image here.kept))
    (tiles_listed format committed rest image (All-tail (IsTileListed format committed image) t rest had))

each_listing : (format : Format) (image : Image) (tiles : List TileLocation) → All (IsOn image) (tiles_listing format tiles) → All (λ t. All (IsOn image) (tile_listing format t)) tiles
each_listing format image [] all = All-nil (λ t. All (IsOn image) (tile_listing format t))
each_listing format image (t ∷ rest) all =
    All-cons (λ u. All (IsOn image) (tile_listing format u)) t rest (All-front (IsOn image) (tile_listing format t) (tiles_listing format rest) all)
    (each_listing format image rest (All-back (IsOn image) (tile_listing format t) (tiles_listing format rest) all))

-- ---- an image on which the due listing pages are written: those that tiles committed before don't reach
module _ (page_map : PageMapValue) (rules : IsPageMap page_map) (before : List TileLocation) (a b : Image) (had : AreStaged page_map.format before page_map.staged a)
    (wrote : All (IsOn b) (due_among before (tiles_listing page_map.format page_map.staged)))
    (others : (p : ℕ) → 4 ≤ p → times p (numbers_of (due_among before (tiles_listing page_map.format page_map.staged))) ≡ 0 → a p ≡ b p) where
  abbrev all_pages : List ListingPage
  all_pages = tiles_listing page_map.format page_map.staged

  low : (q : ℕ) → 1 ≤ times q (numbers_of all_pages) → 4 ≤ q
  low q some = at_times (λ p. 4 ≤ p) q (reached page_map.staged) rules.staged.page_rule.low (omega (arith, some, all_within page_map.format page_map.staged q))

  on_b : All (IsOn b) all_pages
  on_b k d lt =
      let l : ListingPage = get_or all_pages k d in
      elim (cases_Bool (is_unreached before l.page)) [
        | inl due ↦ unfiltered (λ (x : ListingPage). is_unreached before x.page) (IsOn b) all_pages wrote k d lt due
        | inr shared ↦
            let none : times l.page (numbers_of (due_among before all_pages)) ≡ 0 = ap (times l.page) (due_numbers before all_pages) ∙ times_failing l.page (is_unreached before) shared (numbers_of all_pages) in
            sym (others l.page (low l.page (number_there all_pages k d lt)) none) ∙ tiles_listed page_map.format before page_map.staged a had k d lt shared
      ]

  module _ (image : Image) (pages : (q : ℕ) → 4 ≤ q → b q ≡ image q) where
    on_image : All (IsOn image) all_pages
    on_image k d lt = sym (pages (get_or all_pages k d).page (low (get_or all_pages k d).page (number_there all_pages k d lt))) ∙ on_b k d lt

    data_same : SameOn (all_data (map data_of page_map.staged)) a image
    data_same =
        all_numbers (λ q. a q ≡ image q) (all_data (map data_of page_map.staged)) (λ q some.
        let split = tiles_split q page_map.staged in
        let few = few_due before all_pages q in
        let all = all_listings q in
        let four : 4 ≤ q = at_times (λ p. 4 ≤ p) q (reached page_map.staged) rules.staged.page_rule.low (omega (arith, split, some)) in
        others q four (omega (arith, split, some, few, all, rules.staged.page_rule.once q)) ∙ pages q four)
      where
        all_listings : (q : ℕ) → times q (numbers_of all_pages) ≡ times q (listings page_map.staged)
        all_listings q = ap (times q) (tiles_numbers page_map.format page_map.staged)

    -- The staged tiles have the same contents on that image.
    pub same_tiles : (tiles : List TileLocation) → map data_of page_map.staged ≡ map data_of tiles → map (tile_in a) tiles ≡ map (tile_in image) page_map.staged
    same_tiles tiles stays = over a tiles ∙ ap (map (tile_over a)) (sym stays) ∙ alike a image (map data_of page_map.staged) data_same ∙ sym (over image page_map.staged)

    -- The records of the tiles are on that image, too.
    module _ (fits : page_map.sectors < 2 ^ 32) where
      has_record : (p : PlaneLocation) → IsWholePlane page_map.format p → All (λ q. q < page_map.sectors) (pages_of_plane p) → All (IsOn image) (plane_listing page_map.format p) → HasRecord page_map.format image p
      has_record p whole high all = record {
        whole = whole;
        each = All-weaker (λ q. q < page_map.sectors) (λ q. q < 2 ^ 32) (λ q h. omega (arith, h, fits)) (pages_behind p) (All-tail (λ q. q < page_map.sectors) p.record_page (pages_behind p) high);
        listed = All-head (IsOn image) (record { page = p.record_page; bytes = record_bytes (listed_by page_map.format.version p) }) (index_listing 0 p.index_pages p.pages) all;
        indexed = indexed_by page_map.format p image all;
      }

      have_kept : (kept : Option KeptLocations) → IfSome kept (AreWholeKept page_map.format) → All (λ q. q < page_map.sectors) (pages_of_kept kept) → All (IsOn image) (kept_listing page_map.format kept) → IfSome kept (HaveKeptRecords page_map.format image)
      have_kept None whole high all = tt
      have_kept (Some k) whole high all = record {
        levels = has_record k.levels whole.levels (All-front (λ q. q < page_map.sectors) (pages_of_plane k.levels) (pages_of_plane k.labels) high) (All-front (IsOn image) (plane_listing page_map.format k.levels) (plane_listing page_map.format k.labels) all);
        labels = has_record k.labels whole.labels (All-back (λ q. q < page_map.sectors) (pages_of_plane k.levels) (pages_of_plane k.labels) high) (All-back (IsOn image) (plane_listing page_map.format k.levels) (plane_listing page_map.format k.labels) all);
      }

      have_records : All (HasRecords page_map.format image) page_map.staged
      have_records k d lt =
          let t : TileLocation = get_or page_map.staged k d in
          let high : All (λ q. q < page_map.sectors) (pages_of_tile t) = each_tile (λ q. q < page_map.sectors) page_map.staged rules.staged.page_rule.high k d lt in
          let whole : IsWholeTile page_map.format t = rules.staged.whole k d lt in
          let all : All (IsOn image) (tile_listing page_map.format t) = each_listing page_map.format image page_map.staged on_image k d lt in
          record {
            heights = has_record t.heights whole.heights (All-front (λ q. q < page_map.sectors) (pages_of_plane t.heights) (pages_of_kept t.kept) high) (All-front (IsOn image) (plane_listing page_map.format t.heights) (kept_listing page_map.format t.kept) all);
            kept = have_kept t.kept whole.kept (All-back (λ q. q < page_map.sectors) (pages_of_plane t.heights) (pages_of_kept t.kept) high) (All-back (IsOn image) (plane_listing page_map.format t.heights) (kept_listing page_map.format t.kept) all);
          }

  -- The image stores the staged tiles under a root whose entries name them.
  pub lands : (sectors : ℕ) (root : RootValue) (was : List TileLocation) (t : Stored) → page_map.sectors ≡ sectors → page_map.sectors < 2 ^ 32 → page_map.format ≡ format_of root → map entry_of page_map.staged ≡ root.entries
      → map data_of page_map.staged ≡ map data_of was → t ≡ record (stored_in a root page_map.staged) { tiles = map (tile_in a) was } → (image : Image) → HasMoved root b image → StoresAt sectors root page_map.staged t image
  lands sectors root was t size fits format entries stays is image moved = record {
    laid_out = record {
      store = (moved.0, subst (λ (n : ℕ). sectors_asked (format_of root) ≤ n) size (subst (λ (f : Format). sectors_asked f ≤ page_map.sectors) format rules.size));
      entries = entries;
      records = subst (λ (f : Format). All (HasRecords f image) page_map.staged) format (have_records image moved.1 fits);
      page_rule = subst (λ (n : ℕ). KeepsPageRule n page_map.staged) size rules.staged.page_rule;
    };
    stands = is ∙ ap (λ (ts : List StoredTile). let u : Stored = record (stored_in a root page_map.staged) { tiles = ts } in u) (same_tiles image moved.1 was stays);
  }

-- What is staged after the commit is exactly what was committed.
pub nothing_staged : (sectors : ℕ) (root : RootValue) (tiles : List TileLocation) (s : Stored) (image : Image) → StoresAt sectors root tiles s image → AreStaged (format_of root) tiles tiles image
nothing_staged sectors root tiles s image stores =
    All-weaker (HasRecords (format_of root) image) (IsTileListed (format_of root) tiles image) (λ t has. record { heights = by t.heights has.heights; kept = by_kept t.kept has.kept }) tiles stores.laid_out.records
  where
    by : (p : PlaneLocation) → HasRecord (format_of root) image p → IsListedBy (format_of root) tiles image p
    by p has = record { listed = λ _. has.listed; indexed = λ k lt _. has.indexed k lt }

    by_kept : (kept : Option KeptLocations) → IfSome kept (HaveKeptRecords (format_of root) image) → IfSome kept (AreListedBy (format_of root) tiles image)
    by_kept None has = tt
    by_kept (Some k) has = record { levels = by k.levels has.levels; labels = by k.labels has.labels }

-- If no tiles were committed, no tile reaches any page.
pub none_before : (format : Format) (tiles : List TileLocation) (image : Image) → AreStaged format [] tiles image
none_before format tiles image k d lt = record { heights = by (get_or tiles k d).heights; kept = by_kept (get_or tiles k d).kept }
  where
    by : (p : PlaneLocation) → IsListedBy format [] image p
    by p = record { listed = λ shared. absurd (let no : true ≡ false = shared in cc); indexed = λ t lt shared. absurd (let no : true ≡ false = shared in cc) }

    by_kept : (kept : Option KeptLocations) → IfSome kept (AreListedBy format [] image)
    by_kept None = tt
    by_kept (Some k) = record { levels = by k.levels; labels = by k.labels }

-- a bound on the writes
pub few_in_part : (began : Bool) (before now pages : ℕ) {due : ℕ} → now ≤ before + pages + (if began then 0 else 1) → pages ≤ due → now ≤ before + due + (if began then 2 else 3)
few_in_part true before now pages few same = omega (arith, few, same)
few_in_part false before now pages few same = omega (arith, few, same)

pub few_in_all : (began begins : Bool) (before mid now pages : ℕ) {due : ℕ} → mid + (if begins then 0 else 1) ≤ before + pages + (if began then 0 else 1) → now ≤ mid + (if begins then 2 else 3) → pages ≤ due → now ≤ before + due + (if began then 2 else 3)
few_in_all true true before mid now pages first second same = omega (arith, first, second, same)
few_in_all true false before mid now pages first second same = omega (arith, first, second, same)
few_in_all false true before mid now pages first second same = omega (arith, first, second, same)
few_in_all false false before mid now pages first second same = omega (arith, first, second, same)

-- the root of the next commit
abbrev pub next_root : RootValue → ℕ → List Point → List EntryValue → RootValue
next_root root count sinks entries = record root { number = root.number + 1; count = count; sinks = sinks; entries = entries }

-- the calls of a commit, one after another
pub committing : {D : Type 0} (g : Ghosts D) (old mid new : D) (sectors : ℕ) (root next : RootValue) (committed staged : List TileLocation) (s t : Stored) → LeavesOnly g old mid (StoresAt sectors root committed s)
    → ((image : Image) → HasMoved next (g.seen mid) image → StoresAt sectors next staged t image)
    → LeavesOnly g mid new (λ image. KeepsAll root (g.may mid) image ⊎ HasMoved next (g.seen mid) image) → LeavesOnly g old new (λ image. Stands sectors image s ⊎ Stands sectors image t)
committing g old mid new sectors root next committed staged s t first land second =
    let P : Image → Type 0 = λ image. Stands sectors image s ⊎ Stands sectors image t in
    in_turn g old mid new P
    (weaker g old mid (StoresAt sectors root committed s) P (λ image stores. inl (stands sectors root committed s image stores)) first)
    (weaker g mid new _ P (λ image leaves. ⊎_elim (λ keeps. inl (stands sectors root committed s image (stores_kept sectors root committed s (g.may mid) first.now image keeps))) (λ moved. inr (stands sectors next staged t image (land image moved))) leaves) second)
