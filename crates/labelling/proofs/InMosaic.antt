-- A block is a part of its mosaic. All neighbours of a point off the rim lie in its tile, so a path leaves the tile only at
-- its rim. An inner outlet is an outlet of the mosaic.
use Rattle.std.proofs.Common.{rules}
use Rattle.std.proofs.Common.{◌≡◌, ◌≢◌, ℕ, suc, ◌+◌, ◌*◌, ◌-◌, ◌/◌, ◌%◌, ◌<◌, ◌≤◌, inl, inr, ℤ, pos, ◌+ℤ◌, ◌-ℤ◌, ◌*ℤ◌, Bool, true, false, not, cond, IsTrue, ◌&&◌, ◌||◌, List, [], ◌∷◌, get_or, refl, sym, ap, ap₂, ◌∙◌, subst, arith, true≢false, nat_abs, nat_eq, All, nat_lt}
use Rattle.std.specs.List.{list_any, list_all}
use Rattle.lattice.specs.Block.{IsBlockOf, around, block_terrain, is_exit, is_inner_outlet, is_linked, is_rim, is_sink_at, is_solid}
use Rattle.labelling.specs.Blocks.{bare_block, block_of}
use Rattle.std.proofs.lemmas.Int.{ints}
use Rattle.std.proofs.lemmas.Bool.{cases_Bool, and_parts, and_from, or_cases, or_left, or_right, ltb-true, lt-ltb, ltb-false, eqb-true, ne_eqb, not-true, eq-eqb}
use Rattle.lattice.specs.declared.point.Point.{Point}
use Rattle.lattice.specs.declared.height.Height.{Height}
use Rattle.lattice.specs.declared.direction.Dir.{Dir}
use Rattle.lattice.specs.declared.direction.Dir.TheVariants.{East, SouthEast, South, SouthWest, West, NorthWest, North, NorthEast}
use Rattle.lattice.specs.Corners.{Corner, is_corner, same_corner}
use Rattle.lattice.specs.Lattice.{Holds, point_of, holds, index_of, is_along}
use Rattle.lattice.specs.Steps.{step, north_of, east_of}
use Rattle.lattice.specs.Mosaic.{Mosaic, Tile, IsMosaic, IsTile, is_present, void, is_void}
use Rattle.lattice.specs.Height.{height_of, by_seam_rule, first_height, samples_at}
use Rattle.lattice.specs.Ground.{is_ground, is_sink, is_height, metres, same_point, is_near, share_tile, is_adjacent, degree_of, is_outlet, terrain}
use Rattle.lattice.proofs.Along.{from_parts}
use Rattle.lattice.proofs.CornerOrder.{same_says}
use Rattle.lattice.proofs.SamePoints.{same_point_says, same_point_from}
use Rattle.lattice.proofs.Interior.{IsInner, inner_if}
use Rattle.lattice.proofs.Samples.{holds_is, point_of_held, index_of_point_is, point_of_index, index_of_below}
use Rattle.lattice.proofs.Lawful.{five_parts, five_from, terrain_is_lawful}
use Rattle.lattice.proofs.BoolTests.{one_at_most}
use Rattle.labelling.proofs.Parts.{IsPart}
use Rattle.labelling.proofs.Squares.{in_square, inner_at, linked_parts, linked_from, linked_apart, Apart, beside_if, solid_below, row_of_cell, column_of_cell, cell_of, rim_is_exit, inner_is_exit}

-- a point is ground if its height in metres isn't the void
ground_by_metres : (samples : List ℤ) → is_height (by_seam_rule samples) ≡ not (is_void (metres (by_seam_rule samples)))
ground_by_metres [] = refl
ground_by_metres (s ∷ later) = first (s ∷ later)
  where
    first : (samples : List ℤ) → is_height (first_height samples) ≡ not (is_void (metres (first_height samples)))
    first [] = refl
    first (s ∷ later) = elim (cases_Bool (is_void s)) [
      | inl gap ↦ subst (λ b. is_height (cond b (first_height later) (Height.At s)) ≡ not (is_void (metres (cond b (first_height later) (Height.At s))))) (sym gap) (first later)
      | inr full ↦ subst (λ b. is_height (cond b (first_height later) (Height.At s)) ≡ not (is_void (metres (cond b (first_height later) (Height.At s))))) (sym full) (sym (ap not full))
    ]

-- if a present tile's corner satisfies a test, some tile's corner does
tile_passes : (f : Corner → Bool) (c : Corner) (tiles : List Tile) → IsTrue (list_any (λ t. same_corner t.corner c) tiles) → IsTrue (f c) → IsTrue (list_any (λ t. f t.corner) tiles)
tile_passes f c [] here yes_c = absurd (true≢false (sym here))
tile_passes f c (t ∷ rest) here yes_c = elim (or_cases (same_corner t.corner c) (list_any (λ t. same_corner t.corner c) rest) here) [
  | inl this ↦ or_left (f t.corner) (list_any (λ t. f t.corner) rest) (subst (λ p. IsTrue (f p)) (sym (same_says t.corner c this)) yes_c)
  | inr later ↦ or_right (f t.corner) (list_any (λ t. f t.corner) rest) (tile_passes f c rest later yes_c)
]

corner_of_tile : (n : ℕ) (c : Corner) (tiles : List Tile) → All (IsTile n) tiles → IsTrue (list_any (λ t. same_corner t.corner c) tiles) → IsTrue (is_corner c)
corner_of_tile n c [] all here = absurd (true≢false (sym here))
corner_of_tile n c (t ∷ rest) all here = elim (or_cases (same_corner t.corner c) (list_any (λ t. same_corner t.corner c) rest) here) [
  | inl this ↦ subst (λ p. IsTrue (is_corner p)) (same_says t.corner c this) (all 0 t (omega arith)).corner
  | inr later ↦ corner_of_tile n c rest (λ k d lt. all (suc k) d (omega arith)) later
]

-- all eight directions satisfy a test
pub record AllEight (f : Dir → Bool) : Type 0 where
  pub east : IsTrue (f East)
  pub south_east : IsTrue (f SouthEast)
  pub south : IsTrue (f South)
  pub south_west : IsTrue (f SouthWest)
  pub west : IsTrue (f West)
  pub north_west : IsTrue (f NorthWest)
  pub north : IsTrue (f North)
  pub north_east : IsTrue (f NorthEast)

one_if : (b : Bool) → b ≡ true → 1 ≤ cond b 1 0
one_if true h = omega arith
one_if false h = absurd (true≢false (sym h))

true_if : (b : Bool) → 1 ≤ cond b 1 0 → b ≡ true
true_if true h = refl
true_if false h = absurd (omega arith)

-- eight numbers of at most one whose sum is eight are all one
eight_ones : (a b c d e f g h : ℕ) → a ≤ 1 → b ≤ 1 → c ≤ 1 → d ≤ 1 → e ≤ 1 → f ≤ 1 → g ≤ 1 → h ≤ 1 → 8 ≤ 0 + a + b + c + d + e + f + g + h →
    (1 ≤ a) × ((1 ≤ b) × ((1 ≤ c) × ((1 ≤ d) × ((1 ≤ e) × ((1 ≤ f) × ((1 ≤ g) × (1 ≤ h)))))))
eight_ones a b c d e f g h la lb lc ld le lf lg lh all = (omega arith, (omega arith, (omega arith, (omega arith, (omega arith, (omega arith, (omega arith, omega arith)))))))

pub eight_from_degree : (m : Mosaic) (p : Point) → 8 ≤ degree_of m p → AllEight (λ d. is_adjacent m p (step d p))
eight_from_degree m p h =
    let adjacent : Dir → ℕ = λ d. cond (is_adjacent m p (step d p)) 1 0 in
    let each = eight_ones (adjacent East) (adjacent SouthEast) (adjacent South) (adjacent SouthWest) (adjacent West) (adjacent NorthWest) (adjacent North) (adjacent NorthEast)
    (one_at_most _) (one_at_most _) (one_at_most _) (one_at_most _) (one_at_most _) (one_at_most _) (one_at_most _) (one_at_most _) h in
    record {
      east = true_if _ each.0;
      south_east = true_if _ each.1.0;
      south = true_if _ each.1.1.0;
      south_west = true_if _ each.1.1.1.0;
      west = true_if _ each.1.1.1.1.0;
      north_west = true_if _ each.1.1.1.1.1.0;
      north = true_if _ each.1.1.1.1.1.1.0;
      north_east = true_if _ each.1.1.1.1.1.1.1;
    }

pub degree_from_eight : (m : Mosaic) (p : Point) → AllEight (λ d. is_adjacent m p (step d p)) → 8 ≤ degree_of m p
degree_from_eight m p all = search rules

-- the index of the block's point one step away
offset : ℕ → ℕ → Dir → ℕ
offset n e East = e + 1
offset n e SouthEast = e + n + 1
offset n e South = e + n
offset n e SouthWest = e + n - 1
offset n e West = e - 1
offset n e NorthWest = e - n - 1
offset n e North = e - n
offset n e NorthEast = e - n + 1

down_of : Dir → ℕ
down_of East = 1
down_of SouthEast = 2
down_of South = 2
down_of SouthWest = 2
down_of West = 1
down_of NorthWest = 0
down_of North = 0
down_of NorthEast = 0

right_of : Dir → ℕ
right_of East = 2
right_of SouthEast = 2
right_of South = 1
right_of SouthWest = 0
right_of West = 0
right_of NorthWest = 0
right_of North = 1
right_of NorthEast = 2

record IsOffset (n e row column : ℕ) (d : Dir) : Type 0 where
  cell : offset n e d ≡ (row + down_of d) * n + (column + right_of d)
  down : down_of d ≤ 2
  right : right_of d ≤ 2
  y : pos (down_of d) ≡ pos 1 -ℤ north_of d
  x : pos (right_of d) ≡ pos 1 +ℤ east_of d
  apart : offset n e d ≢ e

is_offset : (n e row column : ℕ) → 3 ≤ n → e ≡ (row + 1) * n + (column + 1) → (d : Dir) → IsOffset n e row column d
unfolding offset down_of right_of
is_offset n e row column side at East = record { cell = omega arith; down = omega arith; right = omega arith; y = omega (arith, ints); x = omega (arith, ints); apart = omega arith }
is_offset n e row column side at SouthEast = record { cell = omega arith; down = omega arith; right = omega arith; y = omega (arith, ints); x = omega (arith, ints); apart = omega arith }
is_offset n e row column side at South = record { cell = omega arith; down = omega arith; right = omega arith; y = omega (arith, ints); x = omega (arith, ints); apart = omega arith }
is_offset n e row column side at SouthWest = record { cell = omega arith; down = omega arith; right = omega arith; y = omega (arith, ints); x = omega (arith, ints); apart = omega arith }
is_offset n e row column side at West = record { cell = omega arith; down = omega arith; right = omega arith; y = omega (arith, ints); x = omega (arith, ints); apart = omega arith }
is_offset n e row column side at NorthWest = record { cell = omega arith; down = omega arith; right = omega arith; y = omega (arith, ints); x = omega (arith, ints); apart = omega arith }
is_offset n e row column side at North = record { cell = omega arith; down = omega arith; right = omega arith; y = omega (arith, ints); x = omega (arith, ints); apart = omega arith }
is_offset n e row column side at NorthEast = record { cell = omega arith; down = omega arith; right = omega arith; y = omega (arith, ints); x = omega (arith, ints); apart = omega arith }

module _ (m : Mosaic) (is : IsMosaic m) (c : Corner) (present : IsTrue (is_present m c)) (heights : List ℤ) (sinks : List ℕ) (of : IsBlockOf m c (block_of m.side heights sinks)) where
  at : ℕ → Point
  at e = point_of m.side c e

  some : 0 < m.side
  some = let low = is.side_low in omega arith

  corner : IsTrue (is_corner c)
  corner = corner_of_tile m.side c m.tiles is.tiles present

  -- the ground of the block is that of the mosaic
  pub ground_is : (e : ℕ) → e < m.side * m.side → is_solid (bare_block m.side heights) e ≡ is_ground m (point_of m.side c e)
  ground_is e small =
      ap₂ (λ a b. a && b) (lt-ltb e (m.side * m.side) small) (ap (λ v. not (is_void v)) (of.heights.values e small))
      ∙ sym (ground_by_metres (samples_at m (point_of m.side c e)))

  pub solid_is_ground : (e : ℕ) → IsTrue (is_solid (bare_block m.side heights) e) → IsTrue (is_ground m (point_of m.side c e))
  solid_is_ground e solid = sym (ground_is e (solid_below m.side heights e solid)) ∙ solid

  pub height_is : (e : ℕ) → IsTrue (is_solid (bare_block m.side heights) e) → get_or heights e void ≡ metres (height_of m (point_of m.side c e))
  height_is e solid = of.heights.values e (solid_below m.side heights e solid)

  held : (e : ℕ) → e < m.side * m.side → IsTrue (holds m.side c (point_of m.side c e))
  held e small = (holds_is m.side c (point_of m.side c e) is.side_low corner).1 (point_of_held m.side c e some corner small)

  one_index : (e f : ℕ) → e < m.side * m.side → f < m.side * m.side → point_of m.side c e ≡ point_of m.side c f → e ≡ f
  one_index e f small small' same = sym (index_of_point_is m.side c e some corner small) ∙ ap (index_of m.side c) same ∙ index_of_point_is m.side c f some corner small'

  near_if : (south west : ℤ) (r s i j : ℕ) → r ≤ s + 1 → s ≤ r + 1 → i ≤ j + 1 → j ≤ i + 1 →
      IsTrue (nat_lt (nat_abs ((south -ℤ pos r) -ℤ (south -ℤ pos s))) 2 && nat_lt (nat_abs ((west +ℤ pos i) -ℤ (west +ℤ pos j))) 2)
  near_if south west r s i j a b d e =
      let y : nat_abs ((south -ℤ pos r) -ℤ (south -ℤ pos s)) < 2 = omega (arith, ints) in
      let x : nat_abs ((west +ℤ pos i) -ℤ (west +ℤ pos j)) < 2 = omega (arith, ints) in
      and_from _ _ (lt-ltb _ _ y) (lt-ltb _ _ x)

  -- points that are linked in the block are adjacent in the mosaic
  pub linked_is_adjacent : (e f : ℕ) → IsTrue (is_linked (bare_block m.side heights) e f) → IsTrue (is_adjacent m (point_of m.side c e) (point_of m.side c f))
  linked_is_adjacent e f link =
      let p = point_of m.side c e in
      let q = point_of m.side c f in
      let both = linked_parts m.side heights e f link in
      let apart = linked_apart m.side heights e f link in
      let in_e = solid_below m.side heights e both.from in
      let in_f = solid_below m.side heights f both.to in
      five_from (is_ground m p) (is_ground m q) (not (same_point p q)) (is_near p q) (share_tile m p q) (record {
        first = solid_is_ground e both.from;
        second = solid_is_ground f both.to;
        third = elim (cases_Bool (same_point p q)) [
          | inl same ↦ absurd (true≢false (sym both.apart ∙ ap not (ap (nat_eq e) (sym (one_index e f in_e in_f (same_point_says p q same))) ∙ eq-eqb e e refl)))
          | inr differs ↦ ap not differs
        ];
        fourth = near_if (c.lat *ℤ pos (m.side - 1) +ℤ pos (m.side - 1)) (c.lon *ℤ pos (m.side - 1)) (e / m.side) (f / m.side) (e % m.side) (f % m.side) apart.north apart.south apart.west apart.east;
        fifth = tile_passes (λ k. holds m.side k p && holds m.side k q) c m.tiles present (and_from (holds m.side c p) (holds m.side c q) (held e in_e) (held f in_f));
      })

  -- points of the tile that are adjacent in the mosaic are linked in the block
  pub adjacent_in_tile : (e f : ℕ) → e < m.side * m.side → f < m.side * m.side → IsTrue (is_adjacent m (point_of m.side c e) (point_of m.side c f)) → IsTrue (is_linked (bare_block m.side heights) e f)
  adjacent_in_tile e f small small' beside =
      let p = point_of m.side c e in
      let q = point_of m.side c f in
      let all = five_parts (is_ground m p) (is_ground m q) (not (same_point p q)) (is_near p q) (share_tile m p q) beside in
      let near = and_parts (nat_lt (nat_abs (p.y -ℤ q.y)) 2) (nat_lt (nat_abs (p.x -ℤ q.x)) 2) all.fourth in
      linked_from m.side heights e f (record {
        from = ground_is e small ∙ all.first;
        to = ground_is f small' ∙ all.second;
        apart = elim (cases_Bool (nat_eq e f)) [
          | inl one ↦ absurd (true≢false (sym all.third ∙ ap not (ap (same_point p) (ap (point_of m.side c) (sym (eqb-true e f one))) ∙ same_point_from p p refl)))
          | inr differs ↦ ap not differs
        ];
        beside = beside_if m.side e f (cells (c.lat *ℤ pos (m.side - 1) +ℤ pos (m.side - 1)) (c.lon *ℤ pos (m.side - 1)) (ltb-true _ _ near.0) (ltb-true _ _ near.1));
      })
    where
      cells : (south west : ℤ) → nat_abs ((south -ℤ pos (e / m.side)) -ℤ (south -ℤ pos (f / m.side))) < 2 →
          nat_abs ((west +ℤ pos (e % m.side)) -ℤ (west +ℤ pos (f % m.side))) < 2 → Apart m.side e f
      cells south west y x = record { north = omega (arith, ints); south = omega (arith, ints); west = omega (arith, ints); east = omega (arith, ints) }

  pub record Beside (e : ℕ) (q : Point) : Type 0 where
    pub index : ℕ
    pub linked : IsTrue (is_linked (bare_block m.side heights) e index)
    pub point : point_of m.side c index ≡ q

  -- the neighbours of a point off the rim lie in its tile
  pub adjacent_is_linked : (e : ℕ) (q : Point) → IsTrue (is_solid (bare_block m.side heights) e) → is_rim m.side e ≡ false → IsTrue (is_adjacent m (point_of m.side c e) q) → Beside e q
  adjacent_is_linked e q solid off beside =
      let n = m.side in
      let p = point_of n c e in
      let all = five_parts (is_ground m p) (is_ground m q) (not (same_point p q)) (is_near p q) (share_tile m p q) beside in
      let near = and_parts (nat_lt (nat_abs (p.y -ℤ q.y)) 2) (nat_lt (nat_abs (p.x -ℤ q.x)) 2) all.fourth in
      let near_y : nat_abs (p.y -ℤ q.y) < 2 = ltb-true _ _ near.0 in
      let near_x : nat_abs (p.x -ℤ q.x) < 2 = ltb-true _ _ near.1 in
      let inner = inner_if n e is.side_low (solid_below n heights e solid) off in
      let a = inner.above in let b = inner.below in let d = inner.before in let f = inner.after in
      let along_y : IsTrue (is_along (pos (n - 1)) c.lat q.y) = from_parts (n - 1) c.lat q.y (omega (arith, ints)) (omega (arith, ints)) in
      let along_x : IsTrue (is_along (pos (n - 1)) c.lon q.x) = from_parts (n - 1) c.lon q.x (omega (arith, ints)) (omega (arith, ints)) in
      let there : Holds n c q = (holds_is n c q is.side_low corner).0 (and_from (is_along (pos (n - 1)) c.lat q.y) (is_along (pos (n - 1)) c.lon q.x) along_y along_x) in
      let small : index_of n c q < n * n = index_of_below n c q there in
      let same : point_of n c (index_of n c q) ≡ q = point_of_index n c q there in
      record {
        index = index_of n c q;
        point = same;
        linked = adjacent_in_tile e (index_of n c q) (solid_below n heights e solid) small (subst (λ v. IsTrue (is_adjacent m p v)) (sym same) beside);
      }

  module _ (e : ℕ) (solid : IsTrue (is_solid (bare_block m.side heights) e)) (off : is_rim m.side e ≡ false) where
    inner : IsInner m.side e
    inner = inner_if m.side e is.side_low (solid_below m.side heights e solid) off

    offset_at : (d : Dir) → IsOffset m.side e (e / m.side - 1) (e % m.side - 1) d
    offset_at d =
        let a = inner.above in let b = inner.before in
        let row : e / m.side ≡ (e / m.side - 1) + 1 = omega arith in
        let column : e % m.side ≡ (e % m.side - 1) + 1 = omega arith in
        is_offset m.side e (e / m.side - 1) (e % m.side - 1) is.side_low
        (cell_of m.side e ∙ ap₂ (λ r k. r * m.side + k) row column) d

    offset_row : (d : Dir) → offset m.side e d / m.side ≡ (e / m.side - 1) + down_of d
    offset_row d =
        let o = offset_at d in let r = o.right in let a = inner.before in let b = inner.after in
        ap (λ v. v / m.side) o.cell ∙ row_of_cell m.side ((e / m.side - 1) + down_of d) ((e % m.side - 1) + right_of d) (omega arith)

    offset_column : (d : Dir) → offset m.side e d % m.side ≡ (e % m.side - 1) + right_of d
    offset_column d =
        let o = offset_at d in let r = o.right in let a = inner.before in let b = inner.after in
        ap (λ v. v % m.side) o.cell ∙ column_of_cell m.side ((e / m.side - 1) + down_of d) ((e % m.side - 1) + right_of d) (omega arith)

    offset_below : (d : Dir) → offset m.side e d < m.side * m.side
    offset_below d =
        let o = offset_at d in let r = o.right in let l = o.down in
        let a = inner.above in let b = inner.below in let a' = inner.before in let b' = inner.after in
        subst (λ v. v < m.side * m.side) (sym o.cell) (in_square m.side ((e / m.side - 1) + down_of d) ((e % m.side - 1) + right_of d) (omega arith) (omega arith))

    offset_point : (d : Dir) → point_of m.side c (offset m.side e d) ≡ step d (point_of m.side c e)
    offset_point d =
        let o = offset_at d in
        let a = inner.above in let b = inner.before in
        let row = offset_row d in
        let column = offset_column d in
        let y' = o.y in let x' = o.x in
        ap₂ (λ (u v : ℤ). record { y = u; x = v })
        (ap (λ k. (c.lat *ℤ pos (m.side - 1) +ℤ pos (m.side - 1)) -ℤ pos k) row ∙ up (c.lat *ℤ pos (m.side - 1) +ℤ pos (m.side - 1)) (north_of d) (e / m.side) (down_of d) a y')
        (ap (λ k. c.lon *ℤ pos (m.side - 1) +ℤ pos k) column ∙ right (c.lon *ℤ pos (m.side - 1)) (east_of d) (e % m.side) (right_of d) b x')
      where
        up : (z north : ℤ) (r k : ℕ) → 1 ≤ r → pos k ≡ pos 1 -ℤ north → z -ℤ pos ((r - 1) + k) ≡ (z -ℤ pos r) +ℤ north
        up z north r k some h = omega (arith, ints)

        right : (z east : ℤ) (r k : ℕ) → 1 ≤ r → pos k ≡ pos 1 +ℤ east → z +ℤ pos ((r - 1) + k) ≡ (z +ℤ pos r) +ℤ east
        right z east r k some h = omega (arith, ints)

    -- the eight neighbours are the points to which the eight steps lead
    ground_there : (d : Dir) → IsTrue (is_adjacent m (point_of m.side c e) (step d (point_of m.side c e))) → IsTrue (is_solid (bare_block m.side heights) (offset m.side e d))
    ground_there d beside =
        ground_is (offset m.side e d) (offset_below d) ∙ ap (is_ground m) (offset_point d) ∙ (terrain_is_lawful m).to_ground (point_of m.side c e) (step d (point_of m.side c e)) beside

    adjacent_there : (d : Dir) → IsTrue (is_solid (bare_block m.side heights) (offset m.side e d)) → IsTrue (is_adjacent m (point_of m.side c e) (step d (point_of m.side c e)))
    adjacent_there d full =
        let o = offset_at d in
        let row = offset_row d in
        let column = offset_column d in
        let a = inner.above in let b = inner.before in
        let l = o.down in let r = o.right in
        subst (λ q. IsTrue (is_adjacent m (point_of m.side c e) q)) (offset_point d)
        (linked_is_adjacent e (offset m.side e d) (linked_from m.side heights e (offset m.side e d) (record {
          from = solid;
          to = full;
          apart = ap not (ne_eqb e (offset m.side e d) (λ same. o.apart (sym same)));
          beside = beside_if m.side e (offset m.side e d) (record { north = omega arith; south = omega arith; west = omega arith; east = omega arith });
        })))

    around_of_eight : AllEight (λ d. is_adjacent m (point_of m.side c e) (step d (point_of m.side c e))) → IsTrue (list_all (is_solid (bare_block m.side heights)) (around m.side e))
    unfolding offset
    around_of_eight all =
        and_from _ _ (ground_there NorthWest all.north_west)
        (and_from _ _ (ground_there North all.north)
        (and_from _ _ (ground_there NorthEast all.north_east)
        (and_from _ _ (ground_there West all.west)
        (and_from _ _ (ground_there East all.east)
        (and_from _ _ (ground_there SouthWest all.south_west)
        (and_from _ _ (ground_there South all.south)
        (and_from _ _ (ground_there SouthEast all.south_east) refl)))))))

    eight_of_around : IsTrue (list_all (is_solid (bare_block m.side heights)) (around m.side e)) → AllEight (λ d. is_adjacent m (point_of m.side c e) (step d (point_of m.side c e)))
    unfolding offset
    eight_of_around all =
        let nw = and_parts (is_solid (bare_block m.side heights) (e - m.side - 1)) _ all in
        let n = and_parts (is_solid (bare_block m.side heights) (e - m.side)) _ nw.1 in
        let ne = and_parts (is_solid (bare_block m.side heights) (e - m.side + 1)) _ n.1 in
        let w = and_parts (is_solid (bare_block m.side heights) (e - 1)) _ ne.1 in
        let east = and_parts (is_solid (bare_block m.side heights) (e + 1)) _ w.1 in
        let sw = and_parts (is_solid (bare_block m.side heights) (e + m.side - 1)) _ east.1 in
        let s = and_parts (is_solid (bare_block m.side heights) (e + m.side)) _ sw.1 in
        let se = and_parts (is_solid (bare_block m.side heights) (e + m.side + 1)) _ s.1 in
        record {
          east = adjacent_there East east.0;
          south_east = adjacent_there SouthEast se.0;
          south = adjacent_there South s.0;
          south_west = adjacent_there SouthWest sw.0;
          west = adjacent_there West w.0;
          north_west = adjacent_there NorthWest nw.0;
          north = adjacent_there North n.0;
          north_east = adjacent_there NorthEast ne.0;
        }

    -- an outlet of the mosaic off the rim is an inner outlet of the block
    outlet_is_exit : IsTrue (is_outlet m (point_of m.side c e)) → IsTrue (is_exit (block_of m.side heights sinks) e)
    outlet_is_exit out = elim (cases_Bool (list_all (is_solid (bare_block m.side heights)) (around m.side e))) [
      | inl all ↦ elim (or_cases (nat_lt (degree_of m (point_of m.side c e)) 8) (is_sink m (point_of m.side c e)) (and_parts (is_ground m (point_of m.side c e)) _ out).1) [
        | inl less ↦
            let few : degree_of m (point_of m.side c e) < 8 = ltb-true _ _ less in
            let many : 8 ≤ degree_of m (point_of m.side c e) = degree_from_eight m (point_of m.side c e) (eight_of_around all) in
            absurd (contrary (degree_of m (point_of m.side c e)) few many)
        | inr sink ↦ or_right (is_solid (bare_block m.side heights) e && is_rim m.side e) (is_inner_outlet (block_of m.side heights sinks) e)
            (inner_at m.side heights sinks e solid off (or_right (not (list_all (is_solid (bare_block m.side heights)) (around m.side e))) (is_sink_at (block_of m.side heights sinks) e)
            (of.sinks e (solid_below m.side heights e solid) ∙ sink)))
      ]
      | inr gap ↦ inner_is_exit m.side heights sinks e solid off gap
    ]
      where
        contrary : (d : ℕ) → d < 8 → 8 ≤ d → ⊥
        contrary d few many = absurd (omega arith)

    -- an inner outlet is an outlet of the mosaic
    gap_is_outlet : list_all (is_solid (bare_block m.side heights)) (around m.side e) ≡ false → IsTrue (is_outlet m (point_of m.side c e))
    gap_is_outlet gap = and_from (is_ground m (point_of m.side c e)) (nat_lt (degree_of m (point_of m.side c e)) 8 || is_sink m (point_of m.side c e)) (solid_is_ground e solid)
        (or_left (nat_lt (degree_of m (point_of m.side c e)) 8) (is_sink m (point_of m.side c e)) (elim (cases_Bool (nat_lt (degree_of m (point_of m.side c e)) 8)) [
          | inl few ↦ few
          | inr many ↦ absurd (true≢false (sym (around_of_eight (eight_from_degree m (point_of m.side c e) (ltb-false _ _ many))) ∙ gap))
        ]))

  pub inner_outlet_is_outlet : (e : ℕ) → IsTrue (is_inner_outlet (block_of m.side heights sinks) e) → IsTrue (is_outlet m (point_of m.side c e))
  inner_outlet_is_outlet e inner =
      let p = point_of m.side c e in
      let both = and_parts (is_solid (bare_block m.side heights) e && not (is_rim m.side e)) (not (list_all (is_solid (bare_block m.side heights)) (around m.side e)) || is_sink_at (block_of m.side heights sinks) e) inner in
      let first = and_parts (is_solid (bare_block m.side heights) e) (not (is_rim m.side e)) both.0 in
      elim (or_cases (not (list_all (is_solid (bare_block m.side heights)) (around m.side e))) (is_sink_at (block_of m.side heights sinks) e) both.1) [
        | inl gap ↦ gap_is_outlet e first.0 (not-true (is_rim m.side e) first.1) (not-true (list_all (is_solid (bare_block m.side heights)) (around m.side e)) gap)
        | inr sink ↦ and_from (is_ground m p) (nat_lt (degree_of m p) 8 || is_sink m p) (solid_is_ground e first.0)
            (or_right (nat_lt (degree_of m p) 8) (is_sink m p) (sym (of.sinks e (solid_below m.side heights e first.0)) ∙ sink))
      ]

  pub block_is_part : IsPart (block_terrain (block_of m.side heights sinks)) (terrain m) (λ e. point_of m.side c e) (is_rim m.side)
  block_is_part = record {
    solid = solid_is_ground;
    heights = height_is;
    onto = linked_is_adjacent;
    inner = λ e q solid off beside. let there = adjacent_is_linked e q solid off beside in (there.index, (there.linked, there.point));
    rims = λ e solid rim. rim_is_exit m.side heights sinks e solid rim;
    outlets = λ e solid out. elim (cases_Bool (is_rim m.side e)) [
      | inl rim ↦ rim_is_exit m.side heights sinks e solid rim
      | inr off ↦ outlet_is_exit e solid off out
    ];
  }
