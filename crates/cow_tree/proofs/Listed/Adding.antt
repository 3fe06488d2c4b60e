-- A tile is added after all its pages were written.
use Rattle.cow_tree.proofs.Prelude.{All, All-cons, All-head, All-tail, AreStaged, Bool, Contains, Corner, Format, HasPlane, HasPlaneAt, Heights, Image, IsAdded, IsFresh, IsListedBy, IsPageMap, IsTileListed, List, None, PageMapValue, PlaneLocation, TileLocation, ℕ, [], all_numbers, any_none, ap, ap₂, arith, false, get_or, get_or-map, if◌then◌else◌, is_before, is_unreached, length, length-map, map, not, pages_behind, pages_of, pages_of_kept, pages_of_plane, pages_of_tile, plane_of, reached, refl, same_Some, subst, suc, sym, tile_in, times, times-append, true, with_tile_location, ◌++◌, ◌+◌, ◌<◌, ◌∙◌, ◌∷◌, ◌≡◌, ◌≤◌}
use Rattle.cow_tree.specs.Stored.{StoredTile, with_tile, stale_tile, pages_of_bytes}
use Rattle.cow_tree.proofs.Standing.{SameOn, All-front, All-back, tile_same, tiles_same, each_tile}
use Rattle.cow_tree.proofs.Writes.Staging.{tile_listed_same}
use Rattle.cow_tree.proofs.Tiles.{one_at_corner}
use Rattle.cow_tree.proofs.Listed.Counting.{at_times}

-- The added tile is in the list.
pub added_there : (t : TileLocation) (tiles : List TileLocation) → Contains (with_tile_location t tiles) t
added_there t [] = (0, omega arith, refl)
added_there t (u ∷ rest) = by_test (is_before t.corner u.corner) (added_there t rest)
  where
    by_test : (v : Bool) → Contains (with_tile_location t rest) t → Contains (if v then t ∷ (u ∷ rest) else u ∷ with_tile_location t rest) t
    by_test true later = (0, omega arith, refl)
    by_test false later = (suc later.0, omega (arith, later.1), later.2)

-- Each page is reached as often as before, plus once for each time the added tile reaches it.
pub times_added : (p : ℕ) (t : TileLocation) (tiles : List TileLocation) → times p (reached (with_tile_location t tiles)) ≡ times p (pages_of_tile t) + times p (reached tiles)
times_added p t [] = times-append p (pages_of_tile t) []
times_added p t (u ∷ rest) =
    let here = times-append p (pages_of_tile u) (reached rest) in
    let later = times_added p t rest in
    by_test (is_before t.corner u.corner) here later
  where
    by_test : (v : Bool) → times p (pages_of_tile u ++ reached rest) ≡ times p (pages_of_tile u) + times p (reached rest) → times p (reached (with_tile_location t rest)) ≡ times p (pages_of_tile t) + times p (reached rest)
        → times p (reached (if v then t ∷ (u ∷ rest) else u ∷ with_tile_location t rest)) ≡ times p (pages_of_tile t) + times p (reached (u ∷ rest))
    by_test true here later = times-append p (pages_of_tile t) (pages_of_tile u ++ reached rest)
    by_test false here later = let first = times-append p (pages_of_tile u) (reached (with_tile_location t rest)) in omega (arith, first, here, later)

-- A property of all tiles and of the added one holds for all tiles afterwards.
pub all_added : (P : TileLocation → Type 0) (t : TileLocation) (tiles : List TileLocation) → P t → All P tiles → All P (with_tile_location t tiles)
all_added P t [] here all = All-cons P t [] here all
all_added P t (u ∷ rest) here all = by_test (is_before t.corner u.corner) (all_added P t rest here (All-tail P u rest all))
  where
    by_test : (v : Bool) → All P (with_tile_location t rest) → All P (if v then t ∷ (u ∷ rest) else u ∷ with_tile_location t rest)
    by_test true later = All-cons P t (u ∷ rest) here all
    by_test false later = All-cons P u (with_tile_location t rest) (All-head P u rest all) later

-- the stored tiles, with the added one
pub added_tiles : (t : TileLocation) (new : StoredTile) (a b : Image) (tiles : List TileLocation) → tile_in b t ≡ new → SameOn (reached tiles) a b → map (tile_in b) (with_tile_location t tiles) ≡ with_tile new (map (tile_in a) tiles)
added_tiles t new a b [] is_new same = ap (λ (x : StoredTile). x ∷ []) is_new
added_tiles t new a b (u ∷ rest) is_new same =
    let here = tile_same u a b (All-front (λ q. a q ≡ b q) (pages_of_tile u) (reached rest) same) in
    let same_rest = All-back (λ q. a q ≡ b q) (pages_of_tile u) (reached rest) same in
    let later = added_tiles t new a b rest is_new same_rest in
    let test : is_before new.corner u.corner ≡ is_before t.corner u.corner = ap (λ (x : StoredTile). is_before x.corner u.corner) (sym is_new) in
    by_test (is_before t.corner u.corner) here later (tiles_same rest a b same_rest)
    ∙ ap (λ (v : Bool). if v then new ∷ (tile_in a u ∷ map (tile_in a) rest) else tile_in a u ∷ with_tile new (map (tile_in a) rest)) (sym test)
  where
    by_test : (v : Bool) → tile_in a u ≡ tile_in b u → map (tile_in b) (with_tile_location t rest) ≡ with_tile new (map (tile_in a) rest) → map (tile_in a) rest ≡ map (tile_in b) rest
        → map (tile_in b) (if v then t ∷ (u ∷ rest) else u ∷ with_tile_location t rest) ≡ (if v then new ∷ (tile_in a u ∷ map (tile_in a) rest) else tile_in a u ∷ with_tile new (map (tile_in a) rest))
    by_test true here later others = ap₂ (λ (x : StoredTile) (xs : List StoredTile). x ∷ xs) is_new (ap₂ (λ (x : StoredTile) (xs : List StoredTile). x ∷ xs) (sym here) (sym others))
    by_test false here later others = ap₂ (λ (x : StoredTile) (xs : List StoredTile). x ∷ xs) (sym here) later

-- The pages of the other tiles were not written.
pub others_same : (t : TileLocation) (tiles : List TileLocation) (a b : Image) → All (λ q. 4 ≤ q) (reached (with_tile_location t tiles)) → ((p : ℕ) → times p (reached (with_tile_location t tiles)) ≤ 1)
    → ((p : ℕ) → 4 ≤ p → times p t.heights.pages ≡ 0 → a p ≡ b p) → SameOn (reached tiles) a b
others_same t tiles a b low once unwritten =
    all_numbers (λ q. a q ≡ b q) (reached tiles)
    (λ q some. let split = times_added q t tiles in let one = once q in
    unwritten q (at_times (λ p. 4 ≤ p) q (reached (with_tile_location t tiles)) low (omega (arith, split, some)))
    (let whole = times-append q (pages_of_plane t.heights) (pages_of_kept t.kept) in let front = times-append q (t.heights.record_page ∷ []) (pages_behind t.heights) in let behind = times-append q t.heights.index_pages t.heights.pages in omega (arith, split, one, some, whole, front, behind)))

-- Records and index pages of staged tiles that were on the disk are still there.
pub still_records : (format : Format) (committed tiles : List TileLocation) (a b : Image) → SameOn (reached tiles) a b → AreStaged format committed tiles a → AreStaged format committed tiles b
still_records format committed tiles a b same had k d lt = tile_listed_same format committed (get_or tiles k d) a b (each_tile (λ q. a q ≡ b q) tiles same k d lt) (had k d lt)

pub contains-map : {X Y : Type 0} (f : X → Y) (xs : List X) (x : X) → Contains xs x → Contains (map f xs) (f x)
contains-map f xs x (k, lt, here) = (k, omega (arith, lt, length-map xs f), get_or-map f xs k x (f x) lt ∙ ap f here)

-- the case of a page map with an added tile
module _ (old new : PageMapValue) (c : Corner) (rules : IsPageMap new) (added : IsAdded c old new) where
  staged_is : new.staged ≡ with_tile_location (record { corner = c; heights = added.location; kept = None }) old.staged
  staged_is = ap (λ (x : PageMapValue). x.staged) added.changed

  committed_is : new.committed ≡ old.committed
  committed_is = ap (λ (x : PageMapValue). x.committed) added.changed

  among : Contains new.staged (record { corner = c; heights = added.location; kept = None })
  among = subst (λ (tiles : List TileLocation). Contains tiles (record { corner = c; heights = added.location; kept = None })) (sym staged_is) (added_there (record { corner = c; heights = added.location; kept = None }) old.staged)

  pub added_heights : HasPlane new.staged c Heights
  added_heights = (added.location, (record { corner = c; heights = added.location; kept = None }, (among, (refl, refl))))

  pub location_is : (plane : PlaneLocation) → HasPlaneAt new.staged c Heights plane → added.location ≡ plane
  location_is plane had = same_Some added.location plane (ap (plane_of Heights) (one_at_corner new.staged (record { corner = c; heights = added.location; kept = None }) had.0 rules.staged.in_order among had.1.0 (sym had.1.1.0)) ∙ had.1.1.1)

  fresh_pages : (plane : PlaneLocation) → HasPlaneAt new.staged c Heights plane → All (IsFresh new) plane.pages
  fresh_pages plane had = subst (λ (q : PlaneLocation). All (IsFresh new) q.pages) (location_is plane had) (All-back (IsFresh new) added.location.index_pages added.location.pages (All-tail (IsFresh new) added.location.record_page (pages_behind added.location) added.fresh))

  index_unreached : (k : ℕ) → k < length added.location.index_pages → ¬ Contains (reached old.committed) (get_or added.location.index_pages k 0)
  index_unreached k lt =
      subst (λ (tiles : List TileLocation). ¬ Contains (reached tiles) (get_or added.location.index_pages k 0)) committed_is
      (All-front (IsFresh new) added.location.index_pages added.location.pages (All-tail (IsFresh new) added.location.record_page (pages_behind added.location) added.fresh) k 0 lt).unreached

  pub pages_low : (plane : PlaneLocation) → HasPlaneAt new.staged c Heights plane → All (λ p. 4 ≤ p) plane.pages
  pages_low plane had k d lt = (fresh_pages plane had k d lt).low

  pub pages_high : (plane : PlaneLocation) → HasPlaneAt new.staged c Heights plane → All (λ p. p < new.sectors) plane.pages
  pages_high plane had k d lt = (fresh_pages plane had k d lt).high

  pub pages_unreached : (plane : PlaneLocation) → HasPlaneAt new.staged c Heights plane → All (λ p. ¬ Contains (reached old.committed) p) plane.pages
  pages_unreached plane had k d lt = subst (λ (tiles : List TileLocation). ¬ Contains (reached tiles) (get_or plane.pages k d)) committed_is (fresh_pages plane had k d lt).unreached

  once_there : (p : ℕ) → times p (reached (with_tile_location (record { corner = c; heights = added.location; kept = None }) old.staged)) ≤ 1
  once_there p = subst (λ (tiles : List TileLocation). times p (reached tiles) ≤ 1) staged_is (rules.staged.page_rule.once p)

  pub pages_once : (plane : PlaneLocation) → HasPlaneAt new.staged c Heights plane → (p : ℕ) → times p plane.pages ≤ 1
  pages_once plane had p =
      let one = once_there p in
      let split = times_added p (record { corner = c; heights = added.location; kept = None }) old.staged in
      let whole = times-append p (pages_of_plane added.location) [] in
      let front = times-append p (added.location.record_page ∷ []) (pages_behind added.location) in
      let behind = times-append p added.location.index_pages added.location.pages in
      subst (λ (q : PlaneLocation). times p q.pages ≤ 1) (location_is plane had) (omega (arith, one, split, whole, front, behind))

  module _ (plane : PlaneLocation) (had : HasPlaneAt new.staged c Heights plane) (a b : Image) (bytes : List ℕ) (others : (p : ℕ) → 4 ≤ p → times p plane.pages ≡ 0 → a p ≡ b p) where
    unwritten : (p : ℕ) → 4 ≤ p → times p added.location.pages ≡ 0 → a p ≡ b p
    unwritten p low none = others p low (subst (λ (q : PlaneLocation). times p q.pages ≡ 0) (location_is plane had) none)

    kept_pages : SameOn (reached old.staged) a b
    kept_pages = others_same (record { corner = c; heights = added.location; kept = None }) old.staged a b (subst (λ (tiles : List TileLocation). All (λ q. 4 ≤ q) (reached tiles)) staged_is rules.staged.page_rule.low) once_there unwritten

    pub plane_staged : (n : ℕ) → old.format.side ≡ n → map b plane.pages ≡ pages_of_bytes (length plane.pages) bytes → map (tile_in b) new.staged ≡ with_tile (stale_tile c (pages_of_bytes (pages_of n) bytes)) (map (tile_in a) old.staged)
    plane_staged n side wrote =
        let wrote_there : map b added.location.pages ≡ pages_of_bytes (length added.location.pages) bytes = subst (λ (q : PlaneLocation). map b q.pages ≡ pages_of_bytes (length q.pages) bytes) (sym (location_is plane had)) wrote in
        let count : length added.location.pages ≡ pages_of n = added.whole.pages ∙ ap pages_of side in
        ap (map (tile_in b)) staged_is
        ∙ added_tiles (record { corner = c; heights = added.location; kept = None }) (stale_tile c (pages_of_bytes (pages_of n) bytes)) a b old.staged
        (ap (stale_tile c) (wrote_there ∙ ap (λ (k : ℕ). pages_of_bytes k bytes) count)) kept_pages

    pub plane_stays : (format : Format) → AreStaged format old.committed old.staged a → AreStaged format new.committed new.staged b
    plane_stays format was =
        let t : TileLocation = record { corner = c; heights = added.location; kept = None } in
        let fresh : IsListedBy format old.committed b added.location = record {
          listed = λ shared. absurd (fresh_page added.location.record_page record_unreached shared);
          indexed = λ k lt shared. absurd (fresh_page (get_or added.location.index_pages k 0) (index_unreached k lt) shared);
        } in
        subst (λ (tiles : List TileLocation). AreStaged format tiles new.staged b) (sym committed_is)
        (subst (λ (tiles : List TileLocation). AreStaged format old.committed tiles b) (sym staged_is)
        (all_added (IsTileListed format old.committed b) t old.staged (record { heights = fresh; kept = tt }) (still_records format old.committed old.staged a b kept_pages was)))
      where
        fresh_page : (q : ℕ) → ¬ Contains (reached old.committed) q → is_unreached old.committed q ≡ false → ⊥
        fresh_page q none shared = let no : true ≡ false = sym (ap not (any_none (reached old.committed) q none)) ∙ shared in cc

        record_unreached : ¬ Contains (reached old.committed) added.location.record_page
        record_unreached = subst (λ (tiles : List TileLocation). ¬ Contains (reached tiles) added.location.record_page) committed_is (All-head (IsFresh new) added.location.record_page (pages_behind added.location) added.fresh).unreached
