-- The level of a point, read from the levels of all tiles, for a tile and the points around it.
use Rattle.std.proofs.Common.{rules}
use Rattle.flow_d8.proofs.Prelude.{AreCrossed, AreFilledLevels, ArePadded, ArePaddedTo, AreTiles, Bool, Corner, IsAtHand, IsFilledLevel, IsLevelIn, IsMosaic, IsTrue, List, Mosaic, Point, Tiles, ℕ, ℤ, [], ap, ap₂, arith, cases_Bool, div-mul-add, false, filled_of, get_or, get_or_default, inl, inr, is_corner, is_ground, is_present, is_void, length, list_any, mod-mul-add, mul-add-lt, no_corner, not, padded_point, refl, same_corner, same_from, same_says, slice_get_read, slice_index_or, subst, suc, sym, terrain, true, true≢false, void, ◌%◌, ◌*◌, ◌+◌, ◌/◌, ◌<◌, ◌||◌, ◌∙◌, ◌∷◌, ◌≡◌}
use Rattle.lattice.proofs.IntTests.{eq_true}
use Rattle.flow_d8.specs.Filled.{Filled, AreLevels, IsFilledOf, number_of}
use Rattle.flow_d8.specs.Surface.{level_at, has_level}
use Rattle.flow_d8.proofs.Mosaics.FilledOf.{any_corner, filled_at, ground_held, ground_same}
use Rattle.water.proofs.Exists.{distance_exists}
use Rattle.water.proofs.MosaicGrid.{mosaic_is_grid}
use Rattle.flow_d8.proofs.Samples.Numbers.{number_below}
use Rattle.flow_d8.proofs.Samples.Inside.{any_at}
use Rattle.flow_d8.proofs.Steps.Surfaces.{at_level}
use Rattle.flow_d8.proofs.Samples.AtHand.{below_at_hand}

is_void_void : (v : ℤ) → not (is_void v) ≡ false → v ≡ void
is_void_void v h = eq_true v void (by (is_void v) h)
  where
    by : (b : Bool) → not b ≡ false → b ≡ true
    by true e = refl
    by false e = absurd (true≢false e)

module _ (f : Filled) (whole : AreLevels f) where
  -- the level read at the point's number, void beyond the last sample, is the point's level
  pub level_by : (p : Point) (v : ℤ) → v ≡ slice_index_or f.levels (number_of f.side f.corners p) void → IsLevelIn f p v
  unfolding has_level
  level_by p v is = record {
    on_ground = λ m mosaic of solid. subst (IsFilledLevel (terrain m) p) (sym same) (filled_at m f mosaic whole of p solid);
    elsewhere = λ m mosaic of off. same ∙ is_void_void (level_at f p) (ground_same m f mosaic whole of p ∙ off);
  }
    where
      same : v ≡ level_at f p
      same = is ∙ at_level f p

-- the levels are valid with any list of sinks
pub any_sinks : (t : Tiles) (levels : List ℤ) (a b : List Point) → AreLevels (filled_of t levels a) → AreLevels (filled_of t levels b)
any_sinks t levels a b are = search rules

-- levels that are right at each place are the padded levels of a tile
pub padded_is : (m : Mosaic) → IsMosaic m → (f : Filled) (c : Corner) (levels : List ℤ) → IsFilledOf m f → length levels ≡ (f.side + 4) * (f.side + 4) → ArePaddedTo f c (length levels) levels → ArePadded m c levels
padded_is m is f c levels of whole padded = record {
  whole = whole ∙ ap (λ n. (n + 4) * (n + 4)) of.side;
  on_ground = λ i j up left solid. (at i j up left).on_ground m is of solid;
  elsewhere = λ i j up left off. (at i j up left).elsewhere m is of off;
}
  where
    at : (i j : ℕ) → i < m.side + 4 → j < m.side + 4 → IsLevelIn f (padded_point m.side c i j) (slice_index_or levels (i * (m.side + 4) + j) void)
    at i j up left =
        let w = m.side + 4 in
        let e = i * w + j in
        let small : e < length levels = subst (λ n. e < n) (sym (whole ∙ ap (λ n. (n + 4) * (n + 4)) of.side)) (mul-add-lt i w j w up left) in
        let row : e / w ≡ i = div-mul-add i w j left in
        let column : e % w ≡ j = mod-mul-add i w j left in
        subst (λ r. IsLevelIn f (padded_point m.side c r j) (slice_index_or levels e void)) row
        (subst (λ s. IsLevelIn f (padded_point m.side c (e / w) s) (slice_index_or levels e void)) column
        (subst (λ n. IsLevelIn f (padded_point n c (e / (n + 4)) (e % (n + 4))) (slice_index_or levels e void)) of.side (padded e small)))

-- a tile is present exactly if its corner is in the list
pub has_tile : (m : Mosaic) → IsMosaic m → (f : Filled) → IsFilledOf m f → (c : Corner) (b : Bool) → b ≡ list_any (λ d. same_corner d c) f.corners → b ≡ is_present m c
has_tile m is f of c b at = at ∙ ap (λ cs. list_any (λ d. same_corner d c) cs) of.corners ∙ any_corner (λ d. same_corner d c) (λ d. same_corner d c) m.side m.tiles is.tiles (λ d corner. refl)

-- a corner outside the grid of tiles isn't in the list
pub no_such_corner : (c : Corner) (corners : List Corner) → (IsTrue (is_corner c) → ⊥) → ((i : ℕ) → i < length corners → IsTrue (is_corner (get_or corners i no_corner))) → list_any (λ d. same_corner d c) corners ≡ false
no_such_corner c [] not are = refl
no_such_corner c (d ∷ rest) not are = ap₂ (λ a b. a || b) here (no_such_corner c rest not (λ i small. are (suc i) (omega arith)))
  where
    here : same_corner d c ≡ false
    here = elim (cases_Bool (same_corner d c)) [
      | inl same ↦ absurd (not (subst (λ e. IsTrue (is_corner e)) (same_says d c same) (are 0 (omega arith))))
      | inr other ↦ other
    ]

-- each tile of the list is present
pub tile_present : (m : Mosaic) → IsMosaic m → (f : Filled) → IsFilledOf m f → (k : ℕ) → k < length f.corners → IsTrue (is_present m (get_or f.corners k no_corner))
tile_present m is f of k small =
    let c = get_or f.corners k no_corner in
    let listed = any_at (λ d. same_corner d c) f.corners k c (slice_get_read f.corners (length f.corners) k c refl small (get_or_default f.corners k no_corner c small)) (same_from c c refl) in
    sym (has_tile m is f of c true (sym listed))

-- if these are a mosaic's levels, its ground is loaded, and some number of steps leads across each flat
module _ (t : Tiles) (valid : AreTiles t) (levels : List ℤ) (sinks : List Point) (m : Mosaic) (is : IsMosaic m) (whole : AreLevels (filled_of t levels sinks)) (of : IsFilledOf m (filled_of t levels sinks)) where
  pub hand_in : (p : Point) → IsTrue (is_ground m p) → IsAtHand t p
  hand_in p solid = below_at_hand t valid p (number_below t.side t.corners p valid.side_low (ground_held m (filled_of t levels sinks) is whole of p solid))

  pub crossed_in : (level : Point → ℤ) → AreFilledLevels (terrain m) level → AreCrossed t (terrain m) level
  crossed_in level filled p solid = let dist = distance_exists (terrain m) void (mosaic_is_grid m is) level filled p solid in (hand_in p solid, (dist.0, dist.1.crosses))
