-- Where points drain stays as a tile comes or goes that lies more than two degrees from each other.
use Rattle.std.proofs.Common.{◌≡◌, ◌⊎◌, inl, inr, ℕ, zero, suc, ◌+◌, ◌-◌, ◌*◌, ◌/◌, ◌%◌, ◌<◌, ◌≤◌, ℤ, pos, ◌+ℤ◌, ◌-ℤ◌, ◌*ℤ◌, nat_abs, true, false, not, ◌||◌, IsTrue, Option, Some, None, List, [], ◌∷◌, length, map, get_or, refl, sym, ap, ◌∙◌, subst, arith}
use Rattle.drainage.proofs.Prelude.{AreFilledLevels, AreRangesOf, Contains, Corner, FlowCache, HasLevel, IsCacheOf, IsFlow, IsMosaic, LevelRange, Mosaic, Point, Tile, Unknown, and_parts, both_ways, corners_of, false_from_ne_true, false≢true, holds, ints, is_ground, level_is_unique, ltb-true, no_corner, or_cases, padded_point, point_of, slot_ranges, square_some, terrain, tile_below}
use Rattle.std.specs.Global.{Vec}
use Rattle.std.proofs.lemmas.Int.{by_lt_z}
use Rattle.lattice.proofs.Along.{steps}
use Rattle.lattice.proofs.CornerOrder.{same_says}
use Rattle.lattice.proofs.Multiples.{product_plus}
use Rattle.lattice.specs.Corners.{same_corner}
use Rattle.catalogue.specs.Tiles.{added, without}
use Rattle.edits.proofs.Untouched.{kept_by, kept_with}
use Rattle.edits.specs.Touched.{are_neighbours}
use Rattle.flow_cache.specs.LevelRanges.{block_of, range_at}
use Rattle.water.specs.Ranges.{IsIn}
use Rattle.flow_d8.specs.Tiles.{Tiles, place_of}
use Rattle.flow_cache.proofs.Caches.FlowCaches.{known_below}
use Rattle.flow_cache.proofs.Changes.LevelRanges.{ends_as}
use Rattle.flow_d8.proofs.Sayings.Draining.{decide_known}
use Rattle.levels.proofs.Changes.Unreached.{held_by_index}
use Rattle.drainage.proofs.Changes.Alone.{AreApart, IsAlone, IsOff, comes_alone, flow_apart, goes_alone, ground_apart, level_apart, off_other}
use Rattle.drainage.proofs.Questions.LevelFunctions.{level_function}
use Rattle.drainage.specs.FarTiles.{are_far, are_listed, is_far_from, is_far_in}

-- ---- a place of a tile or around it is no point of a tile that lies far away

few_steps : (m d : ℕ) → 2 ≤ m → d * m ≤ m + 2 → d < 3
few_steps m zero side small = omega arith
few_steps m (suc zero) side small = omega arith
few_steps m (suc (suc zero)) side small = omega arith
few_steps m (suc (suc (suc d))) side small = absurd (omega arith)

gap : (x y : ℤ) → (d : ℕ) × ((nat_abs (x -ℤ y) ≡ d) × ((x ≡ y +ℤ pos d) ⊎ (y ≡ x +ℤ pos d)))
gap x y = (nat_abs (x -ℤ y), (refl, by_lt_z x y (λ less. inr (grind (arith, ints))) (λ not_less. inl (grind (arith, ints)))))

-- i steps beyond a row two before the first edge of the one, and j steps into the other
apart_up : (m : ℕ) (x y v : ℤ) (d i j : ℕ) → x ≡ y +ℤ pos d → v ≡ (x *ℤ pos m +ℤ pos i) -ℤ pos 2 → v ≡ y *ℤ pos m +ℤ pos j → j ≤ m → d * m ≤ m + 2
apart_up m x y v d i j is at_x at_y within =
    let product : (x *ℤ pos m) ≡ y *ℤ pos m +ℤ pos (d * m) = ap (λ z. z *ℤ pos m) is ∙ product_plus y d m in
    omega (arith, ints)

apart_down : (m : ℕ) (x y v : ℤ) (d i j : ℕ) → y ≡ x +ℤ pos d → v ≡ (x *ℤ pos m +ℤ pos i) -ℤ pos 2 → i ≤ m + 4 → v ≡ y *ℤ pos m +ℤ pos j → d * m ≤ m + 2
apart_down m x y v d i j is at_x high at_y =
    let product : (y *ℤ pos m) ≡ x *ℤ pos m +ℤ pos (d * m) = ap (λ z. z *ℤ pos m) is ∙ product_plus x d m in
    omega (arith, ints)

near_along : (m : ℕ) (x y v : ℤ) (i : ℕ) → 2 ≤ m → i ≤ m + 4 → v ≡ (x *ℤ pos m +ℤ pos i) -ℤ pos 2 → (j : ℕ) → j ≤ m → v ≡ y *ℤ pos m +ℤ pos j → nat_abs (x -ℤ y) < 3
near_along m x y v i side high at_x j within at_y =
    let between = gap x y in
    let small : between.0 < 3 = elim between.1.1 [
      | inl above ↦ few_steps m between.0 side (apart_up m x y v between.0 i j above at_x at_y within)
      | inr below ↦ few_steps m between.0 side (apart_down m x y v between.0 i j below at_x high at_y)
    ] in
    subst (λ k. k < 3) (sym between.1.0) small

pub far_off : (n : ℕ) (d c : Corner) (i j : ℕ) → 3 ≤ n → i < n + 4 → j < n + 4 → are_far d c ≡ true → holds n c (padded_point n d i j) ≡ false
far_off n d c i j side row column far = false_from_ne_true (holds n c (padded_point n d i j)) (λ held.
    let p = padded_point n d i j in
    let along = and_parts _ _ held in
    let south = steps (n - 1) c.lat p.y along.0 in
    let east = steps (n - 1) c.lon p.x along.1 in
    let rows = near_along (n - 1) d.lat c.lat p.y (n + 3 - i) (omega arith) (omega arith) (omega (arith, ints, row)) south.0 south.1.0 south.1.1 in
    let columns = near_along (n - 1) d.lon c.lon p.x j (omega arith) (omega arith) refl east.0 east.1.0 east.1.1 in
    elim (or_cases _ _ far) [
      | inl lat ↦ (let more = ltb-true 2 (nat_abs (d.lat -ℤ c.lat)) lat in omega (arith, rows, more))
      | inr lon ↦ (let more = ltb-true 2 (nat_abs (d.lon -ℤ c.lon)) lon in omega (arith, columns, more))
    ])

-- .. and so isn't a neighbour
pub far_apart : (d c : Corner) → are_far d c ≡ true → are_neighbours d c ≡ false
far_apart d c far = false_from_ne_true (are_neighbours d c) (λ near.
    let both = and_parts _ _ near in
    let rows = ltb-true (nat_abs (d.lat -ℤ c.lat)) 2 both.0 in
    let columns = ltb-true (nat_abs (d.lon -ℤ c.lon)) 2 both.1 in
    elim (or_cases _ _ far) [
      | inl lat ↦ (let more = ltb-true 2 (nat_abs (d.lat -ℤ c.lat)) lat in omega (arith, rows, more))
      | inr lon ↦ (let more = ltb-true 2 (nat_abs (d.lon -ℤ c.lon)) lon in omega (arith, columns, more))
    ])

-- each of the corners that isn't this one lies far from it
pub each_far : (corners : List Corner) (c d : Corner) → is_far_from corners c ≡ true → Contains corners d → same_corner d c ≡ false → are_far d c ≡ true
each_far [] c d far (k, below, here) other = absurd (omega arith)
each_far (e ∷ rest) c d far (zero, below, here) other =
    let first = (and_parts (same_corner e c || are_far e c) (is_far_from rest c) far).0 in
    elim (or_cases _ _ (subst (λ (x : Corner). (same_corner x c || are_far x c) ≡ true) here first)) [
      | inl same ↦ absurd (both_ways (same_corner d c) other same)
      | inr is ↦ is
    ]
each_far (e ∷ rest) c d far (suc k, below, here) other = each_far rest c d (and_parts (same_corner e c || are_far e c) (is_far_from rest c) far).1 (k, omega arith, here) other

-- ---- what is known of tiles at hand

module _ (m new : Mosaic) (c : Corner) (valid : IsMosaic m) (apart : AreApart m new (IsOff m c)) (same_side : new.side ≡ m.side) where
  abbrev level : Point → ℤ
  level = (level_function m valid).0

  filled : AreFilledLevels (terrain m) level
  filled = (level_function m valid).1

  module _ (level' : Point → ℤ) (filled' : AreFilledLevels (terrain new) level') where
    -- a ground point off the tile has the level that it had
    level_off : (q : Point) → IsOff m c q → IsTrue (is_ground m q) → level' q ≡ level q
    level_off q off on = level_is_unique (terrain new) q (level' q) (level q) (filled' q (ground_apart m new (IsOff m c) apart q off ∙ on)) (level_apart m new (IsOff m c) apart q off (level q) (filled q on))

    module _ (n : ℕ) (side : n ≡ m.side) (d : Corner) (far : are_far d c ≡ true) (ranges : List (Option LevelRange)) (right : AreRangesOf n m d ranges) where
      off_at : (i j : ℕ) → i < n + 4 → j < n + 4 → IsOff m c (padded_point n d i j)
      off_at i j row column = subst (λ s. holds s c (padded_point n d i j) ≡ false) side (far_off n d c i j (subst (λ s. 3 ≤ s) (sym side) valid.side_low) row column far)

      within_off : (i j : ℕ) → i < n + 4 → j < n + 4 → IsTrue (is_ground new (padded_point n d i j)) → IsIn (range_at ranges (block_of i j)) (level' (padded_point n d i j))
      within_off i j row column on =
          let q = padded_point n d i j in
          let off = off_at i j row column in
          let was : IsTrue (is_ground m q) = sym (ground_apart m new (IsOff m c) apart q off) ∙ on in
          subst (IsIn (range_at ranges (block_of i j))) (sym (level_off q off was)) (right.within level filled i j row column was)

      has_off : (b : ℕ) (v : ℤ) → HasLevel n m d level b v → HasLevel n new d level' b v
      has_off b v (i, j, row, column, block, on, at) =
          let q = padded_point n d i j in
          let off = off_at i j row column in
          (i, j, row, column, block, ground_apart m new (IsOff m c) apart q off ∙ on, level_off q off on ∙ at)

  module _ (cache : FlowCache) (right : IsCacheOf m cache) (far : (i : ℕ) → i < length cache.grid.tiles.corners → are_far (get_or cache.grid.tiles.corners i no_corner) c ≡ true)
      (present : (i : ℕ) → i < length cache.grid.tiles.corners → Contains (corners_of new) (get_or cache.grid.tiles.corners i no_corner)) where
    abbrev tiles : Tiles
    tiles = cache.grid.tiles

    pub cache_off : IsCacheOf new cache
    unfolding place_of
    cache_off =
        let n = tiles.side in
        let area = n * n in
        let side : 3 ≤ n = subst (λ k. 3 ≤ k) (sym right.grid.same_side) valid.side_low in
        let some : 0 < area = square_some n side in
        record {
          grid = record {
            same_side = right.grid.same_side ∙ sym same_side;
            present = present;
            told = λ level' filled' k. elim (decide_known (get_or cache.grid.flows.items k Unknown)) [
              | inl nothing ↦ subst (IsFlow (terrain new) level' (place_of tiles k)) (sym nothing) tt
              | inr known ↦
                  let i = k / area in
                  let e = k % area in
                  let tile : i < length tiles.corners = tile_below area (length tiles.corners) k some (known_below cache k known) in
                  let inside : e < area = omega (arith, some) in
                  let d = get_or tiles.corners i no_corner in
                  let q = point_of n d e in
                  let off : IsOff m c q = subst (λ s. holds s c q ≡ false) right.grid.same_side (off_other n d c q side (far_apart d c (far i tile)) (held_by_index n d e inside)) in
                  flow_apart m new (IsOff m c) apart level level' filled filled' q off (get_or cache.grid.flows.items k Unknown) (right.grid.told level filled k)
            ];
          };
          slots = λ i small. record {
            within = λ level' filled'. within_off level' filled' n right.grid.same_side (get_or tiles.corners i no_corner) (far i small) (slot_ranges cache.slots.items i) (right.slots i small);
            ends = λ level' filled' b r known. ends_as r (HasLevel n m (get_or tiles.corners i no_corner) level b) (HasLevel n new (get_or tiles.corners i no_corner) level' b)
                (has_off level' filled' n right.grid.same_side (get_or tiles.corners i no_corner) (far i small) (slot_ranges cache.slots.items i) (right.slots i small) b)
                ((right.slots i small).ends level filled b r known);
          };
        }

-- the corners of tiles
corner_there : (ts : List Tile) (t : Tile) → Contains ts t → Contains (map (λ u. u.corner) ts) t.corner
corner_there [] t (k, below, here) = absurd (omega arith)
corner_there (u ∷ ts) t (zero, below, here) = (0, omega arith, ap (λ (x : Tile). x.corner) here)
corner_there (u ∷ ts) t (suc k, below, here) = let later = corner_there ts t (k, omega arith, here) in (suc later.0, omega (arith, later.1), later.2)

tile_there : (ts : List Tile) (d : Corner) → Contains (map (λ u. u.corner) ts) d → (t : Tile) × (Contains ts t × (t.corner ≡ d))
tile_there [] d (k, below, here) = absurd (omega arith)
tile_there (u ∷ ts) d (zero, below, here) = (u, ((0, omega arith, refl), here))
tile_there (u ∷ ts) d (suc k, below, here) = let later = tile_there ts d (k, omega arith, here) in (later.0, ((suc later.1.0.0, omega (arith, later.1.0.1), later.1.0.2), later.1.1))

-- each other present tile lies far from the corner's
abbrev pub IsFarOf : Mosaic → Corner → Type 0
IsFarOf m c = (d : Corner) → Contains (corners_of m) d → same_corner d c ≡ false → are_far d c ≡ true

pub far_listed : (m : Mosaic) (corners : Option (Vec Corner)) (c : Corner) → are_listed m corners → is_far_in corners c ≡ true → IsFarOf m c
far_listed m None c all none = absurd (false≢true none)
far_listed m (Some corners) c all far = λ d there other. each_far corners.items c d far (all d there) other

module _ (m : Mosaic) (valid : IsMosaic m) (c : Corner) (far : IsFarOf m c) where
  alone : IsAlone m c
  alone u there other = far_apart u.corner c (far u.corner (corner_there m.tiles u there) other)

  module _ (cache : FlowCache) (of : IsCacheOf m cache) (gone : (i : ℕ) → i < length cache.grid.tiles.corners → get_or cache.grid.tiles.corners i no_corner ≡ c → ⊥) where
    another : (i : ℕ) → i < length cache.grid.tiles.corners → same_corner (get_or cache.grid.tiles.corners i no_corner) c ≡ false
    another i small = false_from_ne_true (same_corner (get_or cache.grid.tiles.corners i no_corner) c) (λ same. gone i small (same_says (get_or cache.grid.tiles.corners i no_corner) c same))

    far_at : (i : ℕ) → i < length cache.grid.tiles.corners → are_far (get_or cache.grid.tiles.corners i no_corner) c ≡ true
    far_at i small = far (get_or cache.grid.tiles.corners i no_corner) (of.grid.present i small) (another i small)

    pub cache_without : IsCacheOf (without c m) cache
    cache_without = cache_off m (without c m) c valid (goes_alone m valid.side_low c alone) refl cache of far_at (λ i small.
        let t = tile_there m.tiles (get_or cache.grid.tiles.corners i no_corner) (of.grid.present i small) in
        subst (Contains (corners_of (without c m))) t.1.1
        (corner_there (without c m).tiles t.0 (kept_by (λ u. not (same_corner u.corner c)) t.0 m.tiles (ap not (ap (λ (d : Corner). same_corner d c) t.1.1 ∙ another i small)) t.1.0)))

    pub cache_with : (t : Tile) → t.corner ≡ c → IsCacheOf (added t m) cache
    cache_with t at = cache_off m (added t m) c valid (subst (λ (d : Corner). IsAlone m d → AreApart m (added t m) (IsOff m d)) at (comes_alone m valid.side_low t) alone) refl cache of far_at (λ i small.
        let u = tile_there m.tiles (get_or cache.grid.tiles.corners i no_corner) (of.grid.present i small) in
        subst (Contains (corners_of (added t m))) u.1.1 (corner_there (added t m).tiles u.0 (kept_with t u.0 m.tiles u.1.0)))
