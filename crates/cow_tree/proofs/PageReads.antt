-- The location of a staged tile's plane, and the contents of its pages.
use Rattle.std.proofs.Common.{◌≡◌, ℕ, ◌<◌, List, All, Contains, length, get_or, map, Option, Some, None, IfSome, refl, sym, ap, ◌∙◌, subst, arith, option_and_then, option_map, slice_get}
use Rattle.cow_tree.proofs.Prelude.{All-contains, All-tail, AreWholeKept, Corner, Format, HasPlaneAt, Heights, Image, IsWholePlane, IsWholeTile, KeptLocations, KeptPlanes, Labels, Levels, Plane, PlaneLocation, PlanePages, TileLocation, get_or-map, kept_in, length-map, pages_behind, pages_of, pages_of_kept, pages_of_plane, pages_of_tile, plane_in, plane_of, reached, same_Some, slice_get_read, tile_in}
use Rattle.cow_tree.specs.Planes.{HasPage, stored_plane}
use Rattle.cow_tree.proofs.Listed.Adding.{contains-map}
use Rattle.cow_tree.proofs.Standing.{All-front, All-back, each_tile}

-- A property of the heights, and of the levels and labels if they are kept, holds for each plane found.
module _ (Q : PlaneLocation → Type 0) (K : Option KeptLocations → Type 0) (both : (k : KeptLocations) → K (Some k) → Q k.levels × Q k.labels) where
  kept_plane : (f : KeptLocations → PlaneLocation) → ((k : KeptLocations) → K (Some k) → Q (f k)) → (o : Option KeptLocations) (p : PlaneLocation) → K o → option_map f o ≡ Some p → Q p
  kept_plane f one None p own is = cc
  kept_plane f one (Some k) p own is = subst Q (same_Some (f k) p is) (one k own)

  named_plane : (plane : Plane) (t : TileLocation) (p : PlaneLocation) → Q t.heights → K t.kept → plane_of plane t ≡ Some p → Q p
  named_plane Heights t p heights kept is = subst Q (same_Some t.heights p is) heights
  named_plane Levels t p heights kept is = kept_plane (λ k. k.levels) (λ k own. (both k own).0) t.kept p kept is
  named_plane Labels t p heights kept is = kept_plane (λ k. k.labels) (λ k own. (both k own).1) t.kept p kept is

-- A property of all pages that the tiles reach holds for each of the plane's pages.
module _ (P : ℕ → Type 0) (tiles : List TileLocation) (c : Corner) (location : PlaneLocation) (all : All P (reached tiles)) where
  of_tile : (t : TileLocation) → Contains tiles t → All P (pages_of_tile t)
  of_tile t has = All-contains (λ u. All P (pages_of_tile u)) tiles t (each_tile P tiles all) has

  pub plane_pages : (plane : Plane) → HasPlaneAt tiles c plane location → All P location.pages
  plane_pages plane (t, (has, (corner, is))) =
      let behind : (p : PlaneLocation) → All P (pages_of_plane p) → All P p.pages = λ p own. All-back P p.index_pages p.pages (All-tail P p.record_page (pages_behind p) own) in
      let kept : (k : KeptLocations) → All P (pages_of_kept (Some k)) → All P k.levels.pages × All P k.labels.pages =
      λ k own. (behind k.levels (All-front P (pages_of_plane k.levels) (pages_of_plane k.labels) own), behind k.labels (All-back P (pages_of_plane k.levels) (pages_of_plane k.labels) own)) in
      named_plane (λ p. All P p.pages) (λ o. All P (pages_of_kept o)) kept plane t location
      (behind t.heights (All-front P (pages_of_plane t.heights) (pages_of_kept t.kept) (of_tile t has)))
      (All-back P (pages_of_plane t.heights) (pages_of_kept t.kept) (of_tile t has)) is

-- The plane has all its pages.
pub whole_in : (format : Format) (plane : Plane) (t : TileLocation) (p : PlaneLocation) → IsWholeTile format t → plane_of plane t ≡ Some p → IsWholePlane format p
whole_in format plane t p whole is = named_plane (IsWholePlane format) (λ o. IfSome o (AreWholeKept format)) (λ k own. (own.levels, own.labels)) plane t p whole.heights whole.kept is

pub whole_plane : (format : Format) (tiles : List TileLocation) (c : Corner) (location : PlaneLocation) → All (IsWholeTile format) tiles → (plane : Plane) → HasPlaneAt tiles c plane location → length location.pages ≡ pages_of format.side
whole_plane format tiles c location all plane (t, (has, (corner, at))) = (whole_in format plane t location (All-contains (IsWholeTile format) tiles t all has) at).pages

-- The stored planes are the contents of the located ones.
stored_there : (image : Image) (plane : Plane) (t : TileLocation) → stored_plane plane (tile_in image t) ≡ option_map (plane_in image) (plane_of plane t)
stored_there image Heights t = refl
stored_there image Levels t = elim t.kept as (λ (o : Option KeptLocations). option_map (λ (k : KeptPlanes). k.levels) (kept_in image o) ≡ option_map (plane_in image) (option_map (λ (k : KeptLocations). k.levels) o)) [ None ↦ refl | Some k ↦ refl ]
stored_there image Labels t = elim t.kept as (λ (o : Option KeptLocations). option_map (λ (k : KeptPlanes). k.labels) (kept_in image o) ≡ option_map (plane_in image) (option_map (λ (k : KeptLocations). k.labels) o)) [ None ↦ refl | Some k ↦ refl ]

-- page i of a plane, read at its location
module _ (image : Image) (tiles : List TileLocation) (c : Corner) (location : PlaneLocation) (i : ℕ) (bytes : List ℕ) (within : i < length location.pages) (read : bytes ≡ image (get_or location.pages i 0)) where
  found : slice_get (plane_in image location) i ≡ Some bytes
  found = slice_get_read (plane_in image location) (length (plane_in image location)) i bytes refl (omega (arith, within, length-map location.pages image)) (read ∙ sym (get_or-map image location.pages i 0 bytes within))

  pub page_there : (plane : Plane) → HasPlaneAt tiles c plane location → HasPage (map (tile_in image) tiles) c plane i bytes
  page_there plane (t, (has, (corner, is))) = (
    tile_in image t,
    (contains-map (tile_in image) tiles t has, (corner, ap (option_and_then (λ (pages : PlanePages). slice_get pages i)) (stored_there image plane t ∙ ap (option_map (plane_in image)) is) ∙ found)),
  )
