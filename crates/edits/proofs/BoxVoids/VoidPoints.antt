-- A box has a void sample of a present tile exactly if some point of it is void.
use Rattle.std.specs.Prelude.{◌↔◌}
use Rattle.edits.proofs.Prelude.{All-contains, Bool, Contains, Holds, IsMosaic, IsTile, List, Mosaic, Point, Tile, ℤ, [], and_from, and_parts, ap, cond, has_void, has_void_from, height_of, holds, index_of, is_in_box, is_void_at, is_void_height, map, refl, true, false, ◌||◌, ◌∙◌, ◌∷◌, ◌≡◌}
use Rattle.std.specs.List.{filter, list_any}
use Rattle.lattice.specs.Height.{by_seam_rule, sample_at}
use Rattle.lattice.specs.declared.height.Height.{Height}
use Rattle.lattice.specs.declared.height.Height.TheVariants as height
use Rattle.lattice.specs.Lattice.{point_of}
use Rattle.lattice.proofs.Samples.{holds_is, index_of_below, point_of_index}
use Rattle.edits.proofs.BoxVoids.TouchedTiles.{void_says, void_from}
use Rattle.edits.proofs.BoxVoids.Voids.{any_says, any_from, is_void_within}

-- Some tile has the void point.
void_held : (is_holder : Tile → Bool) (sample : Tile → ℤ) (tiles : List Tile) → by_seam_rule (map sample (filter is_holder tiles)) ≡ height.Void → list_any is_holder tiles ≡ true
void_held is_holder sample [] e = absurd (cc)
void_held is_holder sample (t ∷ rest) e = by (is_holder t) e (void_held is_holder sample rest)
  where
    by : (b : Bool) → by_seam_rule (map sample (cond b (t ∷ filter is_holder rest) (filter is_holder rest))) ≡ height.Void
        → (by_seam_rule (map sample (filter is_holder rest)) ≡ height.Void → list_any is_holder rest ≡ true) → (b || list_any is_holder rest) ≡ true
    by true e again = refl
    by false e again = again e

void_height : (h : Height) → is_void_height h ≡ true → h ≡ height.Void
void_height height.Void e = refl
void_height height.Outside e = absurd (cc)
void_height (height.At h) e = absurd (cc)

pub void_is_found : (m : Mosaic) (from to : Point) → IsMosaic m
    → (has_void m from to ≡ true) ↔ ((p : Point) × (is_in_box from to p ≡ true) × (is_void_at m p ≡ true))
void_is_found m from to valid = (found, looked_at)
  where
    tile_of : (t : Tile) → Contains m.tiles t → IsTile m.side t
    tile_of t there = All-contains (IsTile m.side) m.tiles t valid.tiles there

    found : has_void m from to ≡ true → (p : Point) × (is_in_box from to p ≡ true) × (is_void_at m p ≡ true)
    found some =
        let (t, (there, here)) = any_says (λ (t : Tile). has_void_from m from to t.corner 0 t.samples) m.tiles some in
        let (e, (below, void)) = void_says m valid from to t (tile_of t there) here in
        let p = point_of m.side t.corner e in
        let parts = and_parts (is_in_box from to p) (is_void_at m p) void in
        (p, parts.0, parts.1)

    looked_at : (p : Point) × (is_in_box from to p ≡ true) × (is_void_at m p ≡ true) → has_void m from to ≡ true
    looked_at (p, inside, void) =
        let some = void_held (λ t. holds m.side t.corner p) (λ t. sample_at m.side t p) m.tiles (void_height (height_of m p) void) in
        let one = any_says (λ (t : Tile). holds m.side t.corner p) m.tiles some in
        let t = one.0 in
        let tile = tile_of t one.1.0 in
        let held : Holds m.side t.corner p = (holds_is m.side t.corner p valid.side_low tile.corner).0 one.1.1 in
        let both = and_from (is_in_box from to p) (is_void_at m p) inside void in
        any_from (λ (u : Tile). has_void_from m from to u.corner 0 u.samples) m.tiles t one.1.0
        (void_from m valid from to t tile (index_of m.side t.corner p, (index_of_below m.side t.corner p held, ap (is_void_within m from to) (point_of_index m.side t.corner p held) ∙ both)))
