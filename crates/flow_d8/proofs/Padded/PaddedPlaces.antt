-- The places of the square around a tile: the row, column and point of each, and the places around it.
use Rattle.flow_d8.proofs.Prelude.{Corner, Dir, East, IsIndexOf, IsInner, IsSinkPlace, IsTrue, North, NorthEast, NorthWest, Point, South, SouthEast, SouthWest, West, ℕ, ap, ap₂, arith, div-mul-add, east_of, ints, is_corner, mod-mul-add, mul-add-lt, mul-le-mul_right, negsuc, north_of, padded_point, place_by, pos, refl, same_place, step, suc, sym, zero, ◌%◌, ◌*ℤ◌, ◌*◌, ◌+ℤ◌, ◌+◌, ◌-ℤ◌, ◌-◌, ◌/◌, ◌<◌, ◌∙◌, ◌≡◌, ◌≤ℤ◌, ◌≤◌}
use Rattle.water.proofs.Fitting.{corner_near}
use Rattle.flow_d8.proofs.Mosaics.SharedTiles.{IsClose}

-- the row and the column one step away
abbrev pub row_by : ℕ → Dir → ℕ
row_by i East = i
row_by i West = i
row_by i NorthWest = i - 1
row_by i North = i - 1
row_by i NorthEast = i - 1
row_by i _ = i + 1

abbrev pub column_by : ℕ → Dir → ℕ
column_by j South = j
column_by j SouthWest = j - 1
column_by j West = j - 1
column_by j NorthWest = j - 1
column_by j North = j
column_by j _ = j + 1

row_above : (width i : ℕ) → 1 ≤ i → i * width ≡ (i - 1) * width + width
row_above width i some = let is : i ≡ (i - 1) + 1 = omega arith in ap (λ v. v * width) is ∙ omega arith

pub place_is : (width i j : ℕ) → 1 ≤ i → 1 ≤ j → (d : Dir) → place_by width (i * width + j) d ≡ row_by i d * width + column_by j d
place_is width i j up left NorthWest = omega (arith, row_above width i up)
place_is width i j up left North = omega (arith, row_above width i up)
place_is width i j up left NorthEast = omega (arith, row_above width i up)
place_is width i j up left _ = omega arith

module _ (n : ℕ) (c : Corner) (i j : ℕ) where
  moved : (d : Dir) (h k : ℕ) → pos h ≡ pos i -ℤ north_of d → pos k ≡ pos j +ℤ east_of d → padded_point n c h k ≡ step d (padded_point n c i j)
  moved d h k north east = same_place (padded_point n c h k) (step d (padded_point n c i j)) (omega (arith, ints)) (omega (arith, ints))

  pub point_is : 1 ≤ i → 1 ≤ j → (d : Dir) → padded_point n c (row_by i d) (column_by j d) ≡ step d (padded_point n c i j)
  point_is up left East = moved East i (j + 1) (omega (arith, ints)) (omega (arith, ints))
  point_is up left SouthEast = moved SouthEast (i + 1) (j + 1) (omega (arith, ints)) (omega (arith, ints))
  point_is up left South = moved South (i + 1) j (omega (arith, ints)) (omega (arith, ints))
  point_is up left SouthWest = moved SouthWest (i + 1) (j - 1) (omega (arith, ints)) (omega (arith, ints))
  point_is up left West = moved West i (j - 1) (omega (arith, ints)) (omega (arith, ints))
  point_is up left NorthWest = moved NorthWest (i - 1) (j - 1) (omega (arith, ints)) (omega (arith, ints))
  point_is up left North = moved North (i - 1) j (omega (arith, ints)) (omega (arith, ints))
  point_is up left NorthEast = moved NorthEast (i - 1) (j + 1) (omega (arith, ints)) (omega (arith, ints))

-- a step changes the row by at most one
pub row_near : (i : ℕ) (d : Dir) → (i ≤ row_by i d + 1) × (row_by i d ≤ i + 1)
row_near i East = (omega arith, omega arith)
row_near i _ = (omega arith, omega arith)

pub column_near : (j : ℕ) (d : Dir) → (j ≤ column_by j d + 1) × (column_by j d ≤ j + 1)
column_near j East = (omega arith, omega arith)
column_near j _ = (omega arith, omega arith)

pub close_y : (p : Point) (d : Dir) → IsClose p.y (step d p).y
close_y p East = (omega (arith, ints), omega (arith, ints))
close_y p _ = (omega (arith, ints), omega (arith, ints))

pub close_x : (p : Point) (d : Dir) → IsClose p.x (step d p).x
close_x p East = (omega (arith, ints), omega (arith, ints))
close_x p _ = (omega (arith, ints), omega (arith, ints))

-- a place has one row and one column
pub one_row : (width i j h k : ℕ) → j < width → k < width → i * width + j ≡ h * width + k → i ≡ h
one_row width i j h k within inside same = sym (div-mul-add i width j within) ∙ ap (λ v. v / width) same ∙ div-mul-add h width k inside

pub one_column : (width i j h k : ℕ) → j < width → k < width → i * width + j ≡ h * width + k → j ≡ k
one_column width i j h k within inside same = sym (mod-mul-add i width j within) ∙ ap (λ v. v % width) same ∙ mod-mul-add h width k inside

-- a place that isn't at the edge of the square
pub inner_at : (n i j : ℕ) → 1 ≤ i → i < n + 3 → 1 ≤ j → j < n + 3 → IsInner (n + 4) ((n + 4) * (n + 4)) (i * (n + 4) + j)
inner_at n i j up down left right =
    let some : 1 * (n + 4) ≤ i * (n + 4) = mul-le-mul_right (n + 4) up in
    let rows : (i + 2) * (n + 4) ≤ (n + 4) * (n + 4) = mul-le-mul_right (n + 4) (omega arith) in
    record { before = omega (arith, some); after = omega (arith, rows) }

-- ---- the first sample of a tile
none : (i j n : ℕ) → 3 ≤ n → 0 ≡ i * n + j → (i ≡ 0) × (j ≡ 0)
none zero j n side e = (refl, omega arith)
none (suc i) j n side e = absurd (omega arith)

pub record IsFirst (n : ℕ) (c : Corner) (f : Point) : Type 0 where
  pub side : 3 ≤ n
  pub y : f.y ≡ c.lat *ℤ pos (n - 1) +ℤ pos (n - 1)
  pub x : f.x ≡ c.lon *ℤ pos (n - 1)

pub is_first : (n : ℕ) (c : Corner) (f : Point) → 3 ≤ n → IsIndexOf n c f 0 → IsFirst n c f
is_first n c f side index =
    let s = index.sample in
    let at = s.2.0 in
    let both = none s.0 s.1 n side s.2.1 in
    record { side = side; y = omega (arith, ints, at.y, both.0); x = omega (arith, ints, at.x, both.1) }

module _ (n : ℕ) (c : Corner) (f : Point) (first : IsFirst n c f) where
  -- the first sample's coordinates are at most a million
  pub first_small : n ≤ 3601 → IsTrue (is_corner c) → ((negsuc 1000000 ≤ℤ f.y) × (f.y ≤ℤ pos 1000000)) × ((negsuc 1000000 ≤ℤ f.x) × (f.x ≤ℤ pos 1000000))
  first_small high corner =
      let near = corner_near n c high corner in
      ((omega (arith, ints, near.0.0, first.y), omega (arith, ints, near.0.1, first.y, high)), (omega (arith, ints, near.1.0, first.x), omega (arith, ints, near.1.1, first.x)))

  -- the point of a place, from the first sample's point
  pub point_from : (i j : ℕ) → ◌≡◌ {A = Point} (record { y = f.y +ℤ (pos 2 -ℤ pos i); x = f.x +ℤ (pos j -ℤ pos 2) }) (padded_point n c i j)
  point_from i j = same_place (record { y = f.y +ℤ (pos 2 -ℤ pos i); x = f.x +ℤ (pos j -ℤ pos 2) }) (padded_point n c i j)
      (omega (arith, ints, first.y, first.side)) (omega (arith, ints, first.x))

  -- the row and the column of a sink at a place
  pub sink_row : (s : Point) (k : ℕ) (at : IsSinkPlace n c s k) → ((f.y -ℤ s.y) +ℤ pos 2) ≡ pos at.row
  sink_row s k at = let is : (padded_point n c at.row at.column).y ≡ s.y = ap (λ (q : Point). q.y) at.is in omega (arith, ints, is, first.y, first.side)

  pub sink_column : (s : Point) (k : ℕ) (at : IsSinkPlace n c s k) → ((s.x -ℤ f.x) +ℤ pos 2) ≡ pos at.column
  sink_column s k at = let is : (padded_point n c at.row at.column).x ≡ s.x = ap (λ (q : Point). q.x) at.is in omega (arith, ints, is, first.x)

  pub sink_from : (s : Point) (i j : ℕ) → 1 ≤ i → i < n + 3 → 1 ≤ j → j < n + 3 → ((f.y -ℤ s.y) +ℤ pos 2) ≡ pos i → ((s.x -ℤ f.x) +ℤ pos 2) ≡ pos j → IsSinkPlace n c s (i * (n + 4) + j)
  sink_from s i j up down left right row column = record {
    row = i;
    column = j;
    row_low = up;
    row_high = down;
    column_low = left;
    column_high = right;
    at = refl;
    is = same_place (padded_point n c i j) s (omega (arith, ints, row, first.y, first.side)) (omega (arith, ints, column, first.x));
  }

  pub one_sink : (s : Point) (k i j : ℕ) (at : IsSinkPlace n c s k) → ((f.y -ℤ s.y) +ℤ pos 2) ≡ pos i → ((s.x -ℤ f.x) +ℤ pos 2) ≡ pos j → k ≡ i * (n + 4) + j
  one_sink s k i j at row column =
      let same_row : at.row ≡ i = omega (arith, ints, sink_row s k at, row) in
      let same_column : at.column ≡ j = omega (arith, ints, sink_column s k at, column) in
      at.at ∙ ap₂ (λ a b. a * (n + 4) + b) same_row same_column

pub sink_below : (n : ℕ) (c : Corner) (s : Point) (k : ℕ) → IsSinkPlace n c s k → k < (n + 4) * (n + 4)
sink_below n c s k at =
    let inside : at.row * (n + 4) + at.column < (n + 4) * (n + 4) = mul-add-lt at.row (n + 4) at.column (n + 4) (omega (arith, at.row_high)) (omega (arith, at.column_high)) in
    omega (arith, at.at)
