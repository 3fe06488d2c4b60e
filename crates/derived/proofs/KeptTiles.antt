-- What is stored after a step: the same tiles, one of which now has kept planes.
use Rattle.std.proofs.Common.{◌≡◌, ℕ, zero, suc, arith, ◌+◌, ◌*◌, ◌<◌, Bool, true, false, cond, not, ◌&&◌, ◌||◌, List, [], ◌∷◌, ◌++◌, length, take, get_or, map, All, true≢false, refl, sym, ap, ap₂, ◌∙◌, subst}
use Rattle.std.specs.Prelude.{Option, Some, None, IfSome, Contains, filter}
use Rattle.std.specs.List.{list_any}
use Rattle.std.specs.Option.{is_none}
use Rattle.std.proofs.lemmas.List.{append-nil, take_more}
use Rattle.std.proofs.lemmas.List.Filters.{length-filter_more}
use Rattle.std.proofs.lemmas.List.Elements.{All-contains, All-contains_itself, All-filter, All-map, All-weaker, filter-append}
use Rattle.std.proofs.Math.Bool.{and-true, and-false}
use Rattle.lattice.specs.Corners.{Corner, same_corner}
use Rattle.lattice.specs.Mosaic.{Tile, Mosaic, IsMosaic}
use Rattle.lattice.proofs.CornerOrder.{same_says}
use Rattle.lattice.proofs.Filters.{contains_filtered}
use Rattle.page_codec.specs.Sizes.{pages_of}
use Rattle.page_codec.specs.Entries.{EntryValue}
use Rattle.catalogue.specs.Tiles.{is_listed}
use Rattle.catalogue.proofs.Presence.{listed_from}
use Rattle.tile_flood.specs.Kept.{AreKeptOf}
use Rattle.cow_tree.specs.Kept.{planes_of_bytes, with_kept_in, with_kept}
use Rattle.cow_tree.specs.Stored.{IsPage, KeptPlanes, StoredTile, Stored, next_commit, plane_bytes, pages_of_bytes, samples_of_plane, mosaic_of_tiles, corners_of_stored}
use Rattle.cow_tree.proofs.Listed.Adding.{contains-map}
use Rattle.cow_tree.proofs.Writes.Planes.{plane_read_back, whole_pages}
use Rattle.derived.specs.Kept.{AreRight, KeepRight, KeepsRight, IsFresh, mosaic_stored, stale_corners, stale_among}
use Rattle.derived.specs.Steps.{IsStepped}

-- a stored tile as a tile of the mosaic
abbrev pub as_tile : ℕ → StoredTile → Tile
as_tile n t = record { corner = t.corner; samples = samples_of_plane n t.heights }

-- ---- a step changes only a tile's kept planes

module _ (f : StoredTile → StoredTile) (rest_stays : (t : StoredTile) → f t ≡ record t { kept = (f t).kept }) where
  pub same_tiles : (n : ℕ) (tiles : List StoredTile) → map (as_tile n) (map f tiles) ≡ map (as_tile n) tiles
  same_tiles n [] = refl
  same_tiles n (t ∷ rest) = ap₂ (λ (x : Tile) (xs : List Tile). x ∷ xs) (ap (as_tile n) (rest_stays t)) (same_tiles n rest)

  -- A property of all tiles that doesn't depend on kept planes stays true.
  pub still_all : (P : StoredTile → Type 0) → ((t : StoredTile) (kept : Option KeptPlanes) → P t → P (record t { kept = kept })) → (tiles : List StoredTile) → All P tiles → All P (map f tiles)
  still_all P stays tiles all = All-map P f tiles (λ k d below. subst P (sym (rest_stays (get_or tiles k d))) (stays (get_or tiles k d) (f (get_or tiles k d)).kept (all k d below)))

module _ (c : Corner) (kept : KeptPlanes) where
  pub others_stay : (t : StoredTile) → with_kept_in c kept t ≡ record t { kept = (with_kept_in c kept t).kept }
  others_stay t = by (same_corner t.corner c)
    where
      by : (b : Bool) → cond b (record t { kept = Some kept }) t ≡ record t { kept = (cond b (record t { kept = Some kept }) t).kept }
      by true = refl
      by false = refl

  -- The planes kept for one tile are right.
  one_right : (m : Mosaic) → AreRight m c kept → (t : StoredTile) → IfSome t.kept (AreRight m t.corner) → IfSome (with_kept_in c kept t).kept (AreRight m (with_kept_in c kept t).corner)
  one_right m right t was = by (same_corner t.corner c) refl
    where
      by : (b : Bool) → same_corner t.corner c ≡ b → IfSome (cond b (record t { kept = Some kept }) t).kept (AreRight m (cond b (record t { kept = Some kept }) t).corner)
      by true same = subst (λ (d : Corner). AreRight m d kept) (sym (same_says t.corner c same)) right
      by false other = was

  pub still_right : (m : Mosaic) → AreRight m c kept → (tiles : List StoredTile) → KeepRight m tiles → KeepRight m (with_kept c kept tiles)
  still_right m right tiles keeps =
      let Right : StoredTile → Type 0 = λ t. IfSome t.kept (AreRight m t.corner) in
      All-map Right (with_kept_in c kept) tiles (All-weaker Right (λ t. Right (with_kept_in c kept t)) (one_right m right) tiles keeps)

  -- So the change is a step.
  pub is_stepped : (s : Stored) → KeepsRight s → Contains (stale_corners s.tiles) c → AreRight (mosaic_stored s) c kept → IsStepped s c (next_commit s s.sinks (with_kept c kept s.tiles) s.count)
  is_stepped s keeps stale right = record {
    stale = stale;
    kept = kept;
    right = right;
    now_is = refl;
    still = record {
      pages = still_all (with_kept_in c kept) others_stay (λ t. All IsPage t.heights) (λ t k pages. pages) s.tiles keeps.pages;
      valid = subst IsMosaic (sym same) keeps.valid;
      kept = subst (λ (m : Mosaic). KeepRight m (with_kept c kept s.tiles)) (sym same) (still_right (mosaic_stored s) right s.tiles keeps.kept);
    };
  }
    where
      same : mosaic_of_tiles s.side s.sinks (with_kept c kept s.tiles) ≡ mosaic_stored s
      same = ap (λ (ts : List Tile). record { side = s.side; sinks = s.sinks; tiles = ts }) (same_tiles (with_kept_in c kept) others_stay s.side s.tiles)

  -- The step reduces the stale tiles by one.
  abbrev other : Corner → Bool
  other d = not (same_corner d c)

  pub stale_less : (tiles : List StoredTile) → filter other (stale_corners tiles) ≡ stale_corners (with_kept c kept tiles)
  stale_less [] = refl
  stale_less (t ∷ rest) = split (is_none t.kept) ∙ by t.kept (same_corner t.corner c) (stale_less rest)
    where
      others : List StoredTile
      others = filter (λ u. is_none u.kept) rest

      split : (b : Bool) → filter other (corners_of_stored (cond b (t ∷ others) others))
          ≡ cond b (cond (other t.corner) (t.corner ∷ filter other (corners_of_stored others)) (filter other (corners_of_stored others))) (filter other (corners_of_stored others))
      split true = refl
      split false = refl

      by : (was : Option KeptPlanes) (same : Bool) → filter other (stale_corners rest) ≡ stale_corners (with_kept c kept rest)
          → cond (is_none was) (cond (not same) (t.corner ∷ filter other (stale_corners rest)) (filter other (stale_corners rest))) (filter other (stale_corners rest))
          ≡ stale_corners (cond same (record t { kept = Some kept }) (record t { kept = was }) ∷ with_kept c kept rest)
      by None true later = later
      by None false later = ap (λ (cs : List Corner). t.corner ∷ cs) later
      by (Some k) true later = later
      by (Some k) false later = later

-- Bytes that are a labelling are right planes.
pub planes_right : (n : ℕ) (m : Mosaic) (c : Corner) (levels labels : List ℕ) → m.side ≡ n → AreKeptOf m c levels labels → length levels ≡ 2 * (n * n) → length labels ≡ 2 * (n * n)
    → All (λ b. b < 256) levels → All (λ b. b < 256) labels → AreRight m c (planes_of_bytes n levels labels)
planes_right n m c levels labels side are levels_whole labels_whole level_bytes label_bytes = record {
  levels = whole_pages (pages_of n) levels level_bytes;
  labels = whole_pages (pages_of n) labels label_bytes;
  labelling =
      subst (λ (k : ℕ). AreKeptOf m c (plane_bytes k (pages_of_bytes (pages_of n) levels)) (plane_bytes k (pages_of_bytes (pages_of n) labels))) (sym side)
      (subst (λ (bs : List ℕ). AreKeptOf m c bs (plane_bytes n (pages_of_bytes (pages_of n) labels))) (sym (plane_read_back n levels levels_whole))
      (subst (λ (bs : List ℕ). AreKeptOf m c levels bs) (sym (plane_read_back n labels labels_whole)) are));
}

-- a stale corner is a present one
pub stale_present : (entries : List EntryValue) (c : Corner) → Contains (stale_among entries) c → Contains (map (λ e. e.corner) entries) c
stale_present entries c there =
    let corner : EntryValue → Corner = λ e. e.corner in
    let Present : Corner → Type 0 = Contains (map corner entries) in
    let all : All (λ e. Present e.corner) entries = All-weaker (Contains entries) (λ e. Present e.corner) (λ e. contains-map corner entries e) entries (All-contains_itself entries) in
    All-contains Present (stale_among entries) c (All-map Present corner (filter (λ e. is_none e.kept) entries) (All-filter (λ e. is_none e.kept) (λ e. Present e.corner) entries all)) there

-- ---- the first stale entry, entry by entry

pub stale_found : (entries : List EntryValue) (e : EntryValue) → Contains entries e → is_none e.kept ≡ true → Contains (stale_among entries) e.corner
stale_found entries e there none = contains-map (λ (x : EntryValue). x.corner) (filter (λ x. is_none x.kept) entries) e (contains_filtered (λ x. is_none x.kept) entries e there none)

stale_append : (entries : List EntryValue) (e : EntryValue) → is_none e.kept ≡ false → stale_among (entries ++ e ∷ []) ≡ stale_among entries
stale_append entries e some =
    let stale : List EntryValue = filter (λ x. is_none x.kept) entries in
    ap (map (λ (x : EntryValue). x.corner)) (filter-append (λ x. is_none x.kept) entries (e ∷ []) ∙ ap (λ (b : Bool). stale ++ cond b (e ∷ []) []) some ∙ append-nil stale)

-- A step counts one more entry with kept planes.
pub one_counted : (entries : List EntryValue) (i : ℕ) (e : EntryValue) (b : Bool) → i < length entries → e ≡ get_or entries i e → is_none e.kept ≡ b
    → length (filter (λ (x : EntryValue). is_none x.kept) (take (i + 1) entries)) ≡ length (filter (λ (x : EntryValue). is_none x.kept) (take i entries)) + cond b 1 0
one_counted entries i e b below is here =
    length-filter_more (λ (x : EntryValue). is_none x.kept) entries i e below
    ∙ ap (λ (c : Bool). length (filter (λ (x : EntryValue). is_none x.kept) (take i entries)) + cond c 1 0) (ap (λ (x : EntryValue). is_none x.kept) (sym is) ∙ here)

pub none_more : (entries : List EntryValue) (i : ℕ) (e : EntryValue) → i < length entries → e ≡ get_or entries i e → is_none e.kept ≡ false → stale_among (take i entries) ≡ [] → stale_among (take (i + 1) entries) ≡ []
none_more entries i e below is some before =
    ap stale_among (take_more entries i e below ∙ ap (λ (y : EntryValue). take i entries ++ y ∷ []) (sym is)) ∙ stale_append (take i entries) e some ∙ before

-- ---- whether a corner's tile is stale

-- whether a corner's tile is stale, by the entries of a root
pub entry_listed : (c : Corner) (entries : List EntryValue) → list_any (λ e. same_corner e.corner c && is_none e.kept) entries ≡ is_listed c (stale_among entries)
entry_listed c [] = refl
entry_listed c (e ∷ rest) = by (is_none e.kept) (entry_listed c rest)
  where
    by : (b : Bool) → list_any (λ x. same_corner x.corner c && is_none x.kept) rest ≡ is_listed c (stale_among rest)
        → ((same_corner e.corner c && b) || list_any (λ x. same_corner x.corner c && is_none x.kept) rest)
        ≡ is_listed c (map (λ x. x.corner) (cond b (e ∷ filter (λ x. is_none x.kept) rest) (filter (λ x. is_none x.kept) rest)))
    by true later = ap₂ (λ (x y : Bool). x || y) (and-true (same_corner e.corner c)) later
    by false later = ap₂ (λ (x y : Bool). x || y) (and-false (same_corner e.corner c)) later

-- A present corner that isn't among the stale ones keeps its planes.
pub record KeepsPlanes (tiles : List StoredTile) (c : Corner) : Type 0 where
  pub tile : StoredTile
  pub stored : Contains tiles tile
  pub corner : tile.corner ≡ c
  pub kept : KeptPlanes
  pub keeps : tile.kept ≡ Some kept

-- the stored tile of a present corner
tile_at : (tiles : List StoredTile) (c : Corner) → Contains (corners_of_stored tiles) c → (t : StoredTile) × (Contains tiles t × (t.corner ≡ c))
tile_at [] c (k, below, here) = absurd (omega (arith, below))
tile_at (t ∷ rest) c (zero, below, here) = (t, ((0, omega arith, refl), here))
tile_at (t ∷ rest) c (suc k, below, here) = let (u, (there, is)) = tile_at rest c (k, omega (arith, below), here) in (u, ((suc there.0, omega (arith, there.1), there.2), is))

pub keeps_unlisted : (tiles : List StoredTile) (c : Corner) → Contains (corners_of_stored tiles) c → is_listed c (stale_corners tiles) ≡ false → KeepsPlanes tiles c
keeps_unlisted tiles c present fresh = let (t, (there, is)) = tile_at tiles c present in by t there is t.kept refl
  where
    by : (t : StoredTile) → Contains tiles t → t.corner ≡ c → (kept : Option KeptPlanes) → t.kept ≡ kept → KeepsPlanes tiles c
    by t there is (Some planes) keeps = record { tile = t; stored = there; corner = is; kept = planes; keeps = keeps }
    by t there is None none =
        let stale : Contains (stale_corners tiles) t.corner = contains-map (λ (u : StoredTile). u.corner) (filter (λ u. is_none u.kept) tiles) t (contains_filtered (λ u. is_none u.kept) tiles t there (ap is_none none)) in
        absurd (true≢false (sym (listed_from c (stale_corners tiles) (subst (Contains (stale_corners tiles)) is stale)) ∙ fresh))

-- A present corner that isn't stale keeps planes, and they are right.
pub is_fresh : (s : Stored) (c : Corner) → KeepsRight s → Contains (corners_of_stored s.tiles) c → is_listed c (stale_corners s.tiles) ≡ false → IsFresh s c
is_fresh s c keeps present fresh =
    let is = keeps_unlisted s.tiles c present fresh in
    let right : IfSome is.tile.kept (AreRight (mosaic_stored s) is.tile.corner) = All-contains (λ t. IfSome t.kept (AreRight (mosaic_stored s) t.corner)) s.tiles is.tile keeps.kept is.stored in
    record {
      tile = is.tile;
      stored = is.stored;
      corner = is.corner;
      kept = is.kept;
      keeps = is.keeps;
      right = subst (λ (d : Corner). AreRight (mosaic_stored s) d is.kept) is.corner (subst (λ (kept : Option KeptPlanes). IfSome kept (AreRight (mosaic_stored s) is.tile.corner)) is.keeps right);
    }
