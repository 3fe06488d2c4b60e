-- Void points found in the rows of a tile that a box overlaps.
use Rattle.std.proofs.Common.{◌≡◌, ℕ, ◌+◌, ◌-◌, ◌*◌, ◌/◌, ◌%◌, ◌<◌, ◌≤◌, ℤ, pos, ◌+ℤ◌, ◌-ℤ◌, ◌*ℤ◌, true, false, ◌&&◌, sym, ◌∙◌, ap, ap₂, subst, arith}
use Rattle.edits.proofs.Prelude.{All-contains, Contains, Corner, IsMosaic, IsTile, Mosaic, Point, Tile, and_from, and_parts, both_ways, div_below, false_from_ne_true, has_void_from, int_le, ints, is_in_box, point_of}
use Rattle.std.proofs.lemmas.Nat.{div-add-mod', div-mul-add, mod-mul-add, mul-add-lt}
use Rattle.edits.specs.TileRows.{AreStepsWithin, HasVoid, is_void_at_index}
use Rattle.edits.specs.declared.steps.Steps.{Steps}
use Rattle.edits.proofs.BoxVoids.TouchedTiles.{void_says, void_from}
use Rattle.edits.proofs.BoxVoids.Voids.{is_void_within}

box_parts : (from to p : Point) → is_in_box from to p ≡ true → ((int_le from.y p.y ≡ true) × (int_le p.y to.y ≡ true)) × ((int_le from.x p.x ≡ true) × (int_le p.x to.x ≡ true))
box_parts from to p inside =
    let east = and_parts (int_le from.y p.y && int_le p.y to.y && int_le from.x p.x) (int_le p.x to.x) inside in
    let west = and_parts (int_le from.y p.y && int_le p.y to.y) (int_le from.x p.x) east.0 in
    (and_parts (int_le from.y p.y) (int_le p.y to.y) west.0, (west.1, east.1))

box_from_parts : (from to p : Point) → (int_le from.y p.y ≡ true) × (int_le p.y to.y ≡ true) → (int_le from.x p.x ≡ true) × (int_le p.x to.x ≡ true) → is_in_box from to p ≡ true
box_from_parts from to p north east =
    and_from (int_le from.y p.y && int_le p.y to.y && int_le from.x p.x) (int_le p.x to.x)
    (and_from (int_le from.y p.y && int_le p.y to.y) (int_le from.x p.x) (and_from (int_le from.y p.y) (int_le p.y to.y) north.0 north.1) east.0) east.1

-- the row this many steps north of the south edge
row_at : (z : ℤ) (m k : ℕ) → k ≤ m → (z +ℤ pos m) -ℤ pos (m - k) ≡ z +ℤ pos k
row_at z m k small = omega (arith, ints)

module _ (m : Mosaic) (valid : IsMosaic m) (from to : Point) (c : Corner) (rows columns : Steps)
    (in_rows : AreStepsWithin (m.side - 1) c.lat from.y to.y rows) (in_columns : AreStepsWithin (m.side - 1) c.lon from.x to.x columns) where
  -- the index of the first sample of a row
  abbrev pub row_start : ℕ → ℕ
  row_start r = (m.side - 1 - rows.first - r) * m.side + columns.first

  tile_of : (t : Tile) → Contains m.tiles t → IsTile m.side t
  tile_of t there = All-contains (IsTile m.side) m.tiles t valid.tiles there

  module _ (r k : ℕ) (row : r < rows.count) (column : k < columns.count) where
    inside_row : columns.first + k < m.side
    inside_row = omega (arith, in_columns.few, valid.side_low)

    is : row_start r + k ≡ (m.side - 1 - rows.first - r) * m.side + (columns.first + k)
    is = omega arith

    index_below : row_start r + k < m.side * m.side
    index_below =
        let less = mul-add-lt (m.side - 1 - rows.first - r) m.side (columns.first + k) m.side (omega (arith, valid.side_low)) inside_row in
        omega (arith, is, less)

    row_is : (row_start r + k) / m.side ≡ m.side - 1 - (rows.first + r)
    row_is = ap (λ (e : ℕ). e / m.side) is ∙ div-mul-add (m.side - 1 - rows.first - r) m.side (columns.first + k) inside_row ∙ omega arith

    column_is : (row_start r + k) % m.side ≡ columns.first + k
    column_is = ap (λ (e : ℕ). e % m.side) is ∙ mod-mul-add (m.side - 1 - rows.first - r) m.side (columns.first + k) inside_row

    point_is : point_of m.side c (row_start r + k) ≡ record { y = c.lat *ℤ pos (m.side - 1) +ℤ pos (rows.first + r); x = c.lon *ℤ pos (m.side - 1) +ℤ pos (columns.first + k) }
    point_is = ap₂ (λ (a b : ℤ). record { y = a; x = b })
        (ap (λ (i : ℕ). (c.lat *ℤ pos (m.side - 1) +ℤ pos (m.side - 1)) -ℤ pos i) row_is ∙ row_at (c.lat *ℤ pos (m.side - 1)) (m.side - 1) (rows.first + r) (omega (arith, in_rows.few, valid.side_low)))
        (ap (λ (j : ℕ). c.lon *ℤ pos (m.side - 1) +ℤ pos j) column_is)

    in_box : is_in_box from to (point_of m.side c (row_start r + k)) ≡ true
    in_box = subst (λ (p : Point). is_in_box from to p ≡ true) (sym point_is)
        (box_from_parts from to (record { y = c.lat *ℤ pos (m.side - 1) +ℤ pos (rows.first + r); x = c.lon *ℤ pos (m.side - 1) +ℤ pos (columns.first + k) })
        (in_rows.within (rows.first + r) (omega arith) (omega arith)) (in_columns.within (columns.first + k) (omega arith) (omega arith)))

  pub found_in_row : (r : ℕ) → r < rows.count → HasVoid m c (row_start r) columns.count true → (t : Tile) → Contains m.tiles t → t.corner ≡ c → true ≡ has_void_from m from to t.corner 0 t.samples
  found_in_row r row (k, (column, void)) t there same =
      sym (void_from m valid from to t (tile_of t there) (
        row_start r + k,
        (
          index_below r k row column,
          ap (λ (d : Corner). is_void_within m from to (point_of m.side d (row_start r + k))) same
              ∙ and_from (is_in_box from to (point_of m.side c (row_start r + k))) (is_void_at_index m c (row_start r + k)) (in_box r k row column) void,
        ),
      ))

  -- Each index of the tile that is in the box is in one of the rows.
  module _ (e : ℕ) (below : e < m.side * m.side) (inside : is_in_box from to (point_of m.side c e) ≡ true) where
    parts : ((int_le from.y (point_of m.side c e).y ≡ true) × (int_le (point_of m.side c e).y to.y ≡ true)) × ((int_le from.x (point_of m.side c e).x ≡ true) × (int_le (point_of m.side c e).x to.x ≡ true))
    parts = box_parts from to (point_of m.side c e) inside

    abbrev north : ℕ
    north = m.side - 1 - e / m.side

    row_in : e / m.side ≤ m.side - 1
    row_in = let some : 0 < m.side = omega (arith, valid.side_low) in let less = div_below e m.side m.side some below in omega (arith, less)

    column_in : e % m.side ≤ m.side - 1
    column_in = omega (arith, valid.side_low)

    y_is : (point_of m.side c e).y ≡ c.lat *ℤ pos (m.side - 1) +ℤ pos north
    y_is = let back : e / m.side ≡ m.side - 1 - north = omega (arith, row_in) in ap (λ (i : ℕ). (c.lat *ℤ pos (m.side - 1) +ℤ pos (m.side - 1)) -ℤ pos i) back ∙ row_at (c.lat *ℤ pos (m.side - 1)) (m.side - 1) north (omega arith)

    in_row : (rows.first ≤ north) × (north < rows.first + rows.count)
    in_row = in_rows.all north (omega arith)
        (subst (λ (y : ℤ). int_le from.y y ≡ true) y_is parts.0.0) (subst (λ (y : ℤ). int_le y to.y ≡ true) y_is parts.0.1)

    in_column : (columns.first ≤ e % m.side) × (e % m.side < columns.first + columns.count)
    in_column = in_columns.all (e % m.side) column_in parts.1.0 parts.1.1

    index_is : row_start (north - rows.first) + (e % m.side - columns.first) ≡ e
    index_is =
        let row : m.side - 1 - rows.first - (north - rows.first) ≡ e / m.side = omega (arith, in_row.0, row_in) in
        let column : columns.first + (e % m.side - columns.first) ≡ e % m.side = omega (arith, in_column.0) in
        let join : row_start (north - rows.first) + (e % m.side - columns.first) ≡ (m.side - 1 - rows.first - (north - rows.first)) * m.side + (columns.first + (e % m.side - columns.first)) = omega arith in
        join ∙ ap₂ (λ (i j : ℕ). i * m.side + j) row column ∙ div-add-mod' e m.side

  pub none_in_rows : ((r : ℕ) → r < rows.count → HasVoid m c (row_start r) columns.count false) → (t : Tile) → Contains m.tiles t → t.corner ≡ c → false ≡ has_void_from m from to t.corner 0 t.samples
  none_in_rows none t there same = sym (false_from_ne_true (has_void_from m from to t.corner 0 t.samples) (λ some.
      let (e, (below, both)) = void_says m valid from to t (tile_of t there) some in
      let here : is_void_within m from to (point_of m.side c e) ≡ true = ap (λ (d : Corner). is_void_within m from to (point_of m.side d e)) (sym same) ∙ both in
      let parts = and_parts (is_in_box from to (point_of m.side c e)) (is_void_at_index m c e) here in
      let row = in_row e below parts.0 in
      let column = in_column e below parts.0 in
      let k = e % m.side - columns.first in
      let r = north e below parts.0 - rows.first in
      both_ways (is_void_at_index m c e) (ap (is_void_at_index m c) (sym (index_is e below parts.0)) ∙ none r (omega (arith, row.0, row.1)) k (omega (arith, column.0, column.1))) parts.1))
