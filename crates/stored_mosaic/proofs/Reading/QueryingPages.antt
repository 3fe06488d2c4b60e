-- The bytes of a tile's plane, read page by page.
use Rattle.std.proofs.Common.{◌≡◌, ⊎_elim, ℕ, zero, suc, ◌+◌, ◌-◌, ◌*◌, ◌<◌, ◌≤◌, ℤ, true, false, Some, None, List, [], ◌∷◌, ◌++◌, length, take, drop, min, Contains, refl, sym, ap, ◌∙◌, subst, arith, option_and_then, slice_get}
use Rattle.stored_mosaic.proofs.Prelude.{Corner, Ghosts, IsInState, IsTileOf, PlanePages, Rising, State, StoredTile, TileLocation, Tree, before_not_same, cases_lt, concat, concat-append, contains-map, false≢true, hgt_bytes, is_before, pages_of, plane_bytes, same_from, samples_of, tile_in}
use Rattle.std.proofs.Math.Seq.{take-append-add}
use Rattle.std.proofs.lemmas.List.{append-nil, length-append, length-take, take_all, take_min, take-append-le, take-append-drop}
use Rattle.cow_tree.specs.Planes.{HasPage, stored_page, stored_plane}
use Rattle.page_map.specs.declared.plane.Plane.{Plane}
use Rattle.cow_tree.specs.Trees.{root_of, has_failed, corners_of as corners_under, staged_in}
use Rattle.cow_tree.proofs.Listed.Due.{located_tile}
use Rattle.engine.proofs.Answered.{no_samples}
use Rattle.stored_mosaic.proofs.Reading.Finding.{stored_corner, after_contained, rising_stored, bytes_stored}
use Rattle.stored_mosaic.proofs.Reading.InMemory.{corners_are}
use Rattle.stored_mosaic.proofs.Pages.{joined_more}
use Rattle.stored_mosaic.proofs.Reading.Querying.{tiles_at, valid_at}

-- ---- bytes of pages, in order, up to a length

-- The first i pages were read, and their bytes are kept up to this length.
pub record IsReadTo (len : ℕ) (pages : PlanePages) (i : ℕ) (bytes : List ℕ) : Type 0 where
  pub read : bytes ≡ take len (concat (take i pages))
  pub long : length (concat (take i pages)) ≡ 4096 * i

-- cut bytes, and more bytes after them
more_bytes : (len : ℕ) (xs page : List ℕ) → length page ≡ 4096 → take len xs ++ take (min (len - length (take len xs)) 4096) page ≡ take len (xs ++ page)
more_bytes len xs page whole = ⊎_elim more enough (cases_lt (length xs) len)
  where
    count : ℕ
    count = min (len - length (take len xs)) 4096

    enough : len ≤ length xs → take len xs ++ take (min (len - length (take len xs)) 4096) page ≡ take len (xs ++ page)
    enough less =
        let none : min (len - length (take len xs)) 4096 ≡ 0 = omega (arith, less, length-take len xs) in
        ap (λ (k : ℕ). take len xs ++ take k page) none ∙ append-nil (take len xs) ∙ sym (take-append-le len xs page less)

    more : length xs < len → take len xs ++ take (min (len - length (take len xs)) 4096) page ≡ take len (xs ++ page)
    more less =
        let all : take len xs ≡ xs = take_all len xs (omega (arith, less)) in
        let cut : take (min (len - length xs) 4096) page ≡ take (len - length xs) page = ap (λ (k : ℕ). take (min (len - length xs) k) page) (sym whole) ∙ take_min (len - length xs) page in
        let both : length xs + (len - length xs) ≡ len = omega (arith, less) in
        ap (λ (l : List ℕ). l ++ take (min (len - length l) 4096) page) all
        ∙ ap (λ (l : List ℕ). xs ++ l) cut
        ∙ sym (take-append-add xs page (len - length xs))
        ∙ ap (λ (k : ℕ). take k (xs ++ page)) both

-- one page more
pub read_more : (len : ℕ) (pages : PlanePages) (i : ℕ) (bytes page : List ℕ) → IsReadTo len pages i bytes → slice_get pages i ≡ Some page → length page ≡ 4096
    → IsReadTo len pages (i + 1) (bytes ++ take (min (len - length bytes) 4096) page)
read_more len pages i bytes page so_far here whole =
    let xs : List ℕ = concat (take i pages) in
    let joined : concat (take (i + 1) pages) ≡ xs ++ page = joined_more pages i page here in
    let long = so_far.long in
    record {
      read = ap (λ (l : List ℕ). l ++ take (min (len - length l) 4096) page) so_far.read ∙ more_bytes len xs page whole ∙ ap (take len) (sym joined);
      long = ap length joined ∙ length-append xs page ∙ let e : length xs + length page ≡ 4096 * (i + 1) = omega (arith, long, whole) in e;
    }

-- All pages of the plane were read.
pub all_read : (n : ℕ) (pages : PlanePages) (bytes : List ℕ) → IsReadTo (2 * (n * n)) pages (pages_of n) bytes → bytes ≡ plane_bytes n pages
all_read n pages bytes read =
    let front : PlanePages = take (pages_of n) pages in
    let long = read.long in
    let joined : concat pages ≡ concat front ++ concat (drop (pages_of n) pages) = ap concat (sym (take-append-drop (pages_of n) pages)) ∙ concat-append front (drop (pages_of n) pages) in
    read.read ∙ sym (take-append-le (2 * (n * n)) (concat front) (concat (drop (pages_of n) pages)) (omega (arith, long))) ∙ ap (take (2 * (n * n))) (sym joined)

-- ---- the corner's tile

-- A page of the corner's plane is a page of its tile's plane.
pub page_of_tile : (plane : Plane) (tiles : List StoredTile) (c : Corner) (t : StoredTile) (pages : PlanePages) (i : ℕ) (page : List ℕ) → IsTileOf tiles c t → stored_plane plane t ≡ Some pages → HasPage tiles c plane i page
    → slice_get pages i ≡ Some page
page_of_tile plane tiles c t pages i page is has (other, (there, (corner, at))) =
    ap (option_and_then (λ (l : PlanePages). slice_get l i)) (sym has) ∙ ap (stored_page plane i) (sym (is.only other there corner)) ∙ at

not_before : (c : Corner) → is_before c c ≡ true → ⊥
not_before c before = false≢true (sym (before_not_same c c before) ∙ same_from c c refl)

pub one_tile : (tiles : List StoredTile) (t u : StoredTile) → Rising stored_corner tiles → Contains tiles t → Contains tiles u → u.corner ≡ t.corner → u ≡ t
one_tile [] t u rising (k, below, here) other same = absurd (omega (arith, below))
one_tile (x ∷ rest) t u rising (zero, below, here) (zero, under, there) same = sym there ∙ here
one_tile (x ∷ rest) t u rising (zero, below, here) (suc j, under, there) same =
    let after : is_before x.corner u.corner ≡ true = after_contained x.corner rest u rising.0 (j, omega (arith, under), there) in
    absurd (not_before u.corner (subst (λ (d : Corner). is_before d u.corner ≡ true) (ap stored_corner here ∙ sym same) after))
one_tile (x ∷ rest) t u rising (suc k, below, here) (zero, under, there) same =
    let after : is_before x.corner t.corner ≡ true = after_contained x.corner rest t rising.0 (k, omega (arith, below), here) in
    absurd (not_before t.corner (subst (λ (d : Corner). is_before d t.corner ≡ true) (ap stored_corner there ∙ same) after))
one_tile (x ∷ rest) t u rising (suc k, below, here) (suc j, under, there) same = one_tile rest t u rising.1 (k, omega (arith, below), here) (j, omega (arith, under), there) same

module _ {D : Type 0} (g : Ghosts D) (tree : Tree D g) (works : has_failed tree ≡ false) (s : State) (at : IsInState g tree s) (c : Corner) where
  pub no_tile_of : ¬ Contains (corners_under tree) c → samples_of s.contents.mosaic c ≡ None
  no_tile_of none =
      no_samples s.contents.mosaic c (λ has. none (subst (λ (cs : List Corner). Contains cs c) (sym (corners_are g tree works s at)) has))

  module _ (present : Contains (corners_under tree) c) where
    abbrev pub placed : (t : TileLocation) × (Contains tree.page_map.staged t × (t.corner ≡ c))
    placed = located_tile c tree.page_map.staged present

    abbrev pub tile : StoredTile
    tile = tile_in (g.seen tree.roots.disk) placed.0

    tile_there : Contains (staged_in g tree) tile
    tile_there = contains-map (tile_in (g.seen tree.roots.disk)) tree.page_map.staged placed.0 placed.1.0

    pub tile_of : IsTileOf (staged_in g tree) c tile
    tile_of = record {
      there = tile_there;
      corner = placed.1.1;
      only = λ other has corner.
          one_tile (staged_in g tree) tile other
          (rising_stored (root_of tree).side (staged_in g tree) s.contents.mosaic (tiles_at g tree works s at) (valid_at g tree works s at)) tile_there has (corner ∙ sym placed.1.1);
    }

    pub exported : (bytes : List ℕ) → bytes ≡ plane_bytes (root_of tree).side tile.heights → (samples : List ℤ) × ((samples_of s.contents.mosaic c ≡ Some samples) × (bytes ≡ hgt_bytes samples))
    exported bytes are =
        let stored = bytes_stored (root_of tree).side (staged_in g tree) s.contents.mosaic c tile (tiles_at g tree works s at) (valid_at g tree works s at) tile_there placed.1.1 in
        (stored.0, (stored.1.0, are ∙ stored.1.1))
