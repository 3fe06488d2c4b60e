-- All neighbours of a point off the rim of a tile lie in that tile, at the adjacent places. No other tile holds the point.
use Rattle.std.proofs.Common.{rules}
use Rattle.flow_d8.proofs.Prelude.{Corner, Dir, East, Holds, IsIndexOf, North, NorthEast, NorthWest, Point, South, SouthEast, SouthWest, West, ℕ, ap, arith, div-mul-add, east_of, ints, is_deep, mod-mul-add, north_of, place_by, pos, step, subst, sym, true, ◌%◌, ◌*ℤ◌, ◌*◌, ◌+ℤ◌, ◌+◌, ◌-ℤ◌, ◌-◌, ◌/◌, ◌<◌, ◌∙◌, ◌≡◌, ◌≤ℤ◌, ◌≤◌}
use Rattle.lattice.proofs.Interior.{IsInner, inner_holder}

-- the row and the column of a deep sample are at least two from the edges
pub deep_says : (n e : ℕ) → is_deep n e ≡ true → (2 ≤ e / n) × (e / n + 3 ≤ n) × (2 ≤ e % n) × (e % n + 3 ≤ n)
deep_says n e test = search rules

-- a deep sample lies off the rim
pub deep_inner : (n e : ℕ) → is_deep n e ≡ true → IsInner n e
deep_inner n e test = search rules

inner_at : (n e i j : ℕ) → e ≡ i * n + j → 1 ≤ i → i + 2 ≤ n → 1 ≤ j → j + 2 ≤ n → IsInner n e
inner_at n e i j is above below before after =
    let row : e / n ≡ i = ap (λ v. v / n) is ∙ div-mul-add i n j (omega arith) in
    let column : e % n ≡ j = ap (λ v. v % n) is ∙ mod-mul-add i n j (omega arith) in
    record { above = subst (λ v. 1 ≤ v) (sym row) above; below = subst (λ v. v + 2 ≤ n) (sym row) below; before = subst (λ v. 1 ≤ v) (sym column) before; after = subst (λ v. v + 2 ≤ n) (sym column) after }

-- a step leads at most one row and one column away
pub near : (d : Dir) → (pos 0 ≤ℤ (north_of d +ℤ pos 1)) × (north_of d ≤ℤ pos 1) × (pos 0 ≤ℤ (east_of d +ℤ pos 1)) × (east_of d ≤ℤ pos 1)
near East = (omega (arith, ints), omega (arith, ints), omega (arith, ints), omega (arith, ints))
near _ = (omega (arith, ints), omega (arith, ints), omega (arith, ints), omega (arith, ints))

-- a step between places, where the tile's first sample has the number k
pub place_from : (n k e : ℕ) → n + 1 ≤ e → (d : Dir) → place_by n (k + e) d ≡ k + place_by n e d
place_from n k e room East = omega arith
place_from n k e room _ = omega arith

module _ (n : ℕ) (c : Corner) (p : Point) (e : ℕ) (index : IsIndexOf n c p e) (inner : IsInner n e) where
  abbrev row : ℕ
  row = index.sample.0

  abbrev column : ℕ
  column = index.sample.1

  at : e ≡ row * n + column
  at = index.sample.2.1

  row_is : e / n ≡ row
  row_is = ap (λ v. v / n) at ∙ div-mul-add row n column index.sample.2.0.column

  column_is : e % n ≡ column
  column_is = ap (λ v. v % n) at ∙ mod-mul-add row n column index.sample.2.0.column

  above : 1 ≤ row
  above = subst (λ v. 1 ≤ v) row_is inner.above

  below : row + 2 ≤ n
  below = subst (λ v. v + 2 ≤ n) row_is inner.below

  before : 1 ≤ column
  before = subst (λ v. 1 ≤ v) column_is inner.before

  after : column + 2 ≤ n
  after = subst (λ v. v + 2 ≤ n) column_is inner.after

  row_above : row * n ≡ (row - 1) * n + n
  row_above = let i = row - 1 in let is : row ≡ i + 1 = let low = above in omega arith in ap (λ v. v * n) is ∙ omega arith

  -- the point one step away has this index in the tile
  moved : (d : Dir) (i j g : ℕ) → pos i ≡ pos row -ℤ north_of d → pos j ≡ pos column +ℤ east_of d → i < n → j < n → g ≡ i * n + j → IsIndexOf n c (step d p) g
  moved d i j g north east low right there =
      let s = index.sample.2.0 in
      let y : p.y +ℤ pos row ≡ c.lat *ℤ pos (n - 1) +ℤ pos (n - 1) = s.y in
      let x : p.x ≡ c.lon *ℤ pos (n - 1) +ℤ pos column = s.x in
      record { corner = index.corner; sample = (i, j, (record { row = low; column = right; y = omega (arith, ints); x = omega (arith, ints) }, there)) }

  pub beside : (d : Dir) → IsIndexOf n c (step d p) (place_by n e d)
  beside East = let u = above in let v = below in let w = before in let z = after in let a = at in
      moved East row (column + 1) (e + 1) (omega (arith, ints)) (omega (arith, ints)) (omega arith) (omega arith) (omega arith)
  beside SouthEast = let u = above in let v = below in let w = before in let z = after in let a = at in
      moved SouthEast (row + 1) (column + 1) (e + n + 1) (omega (arith, ints)) (omega (arith, ints)) (omega arith) (omega arith) (omega arith)
  beside South = let u = above in let v = below in let w = before in let z = after in let a = at in
      moved South (row + 1) column (e + n) (omega (arith, ints)) (omega (arith, ints)) (omega arith) (omega arith) (omega arith)
  beside SouthWest = let u = above in let v = below in let w = before in let z = after in let a = at in
      moved SouthWest (row + 1) (column - 1) (e + n - 1) (omega (arith, ints)) (omega (arith, ints)) (omega arith) (omega arith) (omega arith)
  beside West = let u = above in let v = below in let w = before in let z = after in let a = at in
      moved West row (column - 1) (e - 1) (omega (arith, ints)) (omega (arith, ints)) (omega arith) (omega arith) (omega arith)
  beside NorthWest = let u = above in let v = below in let w = before in let z = after in let a = at in let r = row_above in
      moved NorthWest (row - 1) (column - 1) (e - n - 1) (omega (arith, ints)) (omega (arith, ints)) (omega arith) (omega arith) (omega arith)
  beside North = let u = above in let v = below in let w = before in let z = after in let a = at in let r = row_above in
      moved North (row - 1) column (e - n) (omega (arith, ints)) (omega (arith, ints)) (omega arith) (omega arith) (omega arith)
  beside NorthEast = let u = above in let v = below in let w = before in let z = after in let a = at in let r = row_above in
      moved NorthEast (row - 1) (column + 1) (e - n + 1) (omega (arith, ints)) (omega (arith, ints)) (omega arith) (omega arith) (omega arith)

  -- a point off the rim has at least a row and a sample before it
  pub room_before : n + 1 ≤ e
  room_before = let u = above in let w = before in let a = at in let r = row_above in omega arith

  -- no other tile holds a point off the rim
  pub only : (k : Corner) → Holds n k p → k ≡ c
  only k held = let u = above in let v = below in let w = before in let z = after in
      inner_holder n c k p row column index.sample.2.0 (omega arith) (omega arith) (omega arith) (omega arith) held

-- all places around a deep sample lie off the rim
pub inner_beside : (n : ℕ) (c : Corner) (p : Point) (e : ℕ) → IsIndexOf n c p e → is_deep n e ≡ true → (d : Dir) → IsInner n (place_by n e d)
inner_beside n c p e index test d =
    let i = index.sample.0 in
    let j = index.sample.1 in
    let s = index.sample.2.0 in
    let there = (beside n c p e index (deep_inner n e test) d).sample in
    let s' = there.2.0 in
    let is = index.sample.2.1 in
    let said = deep_says n e test in
    let row : e / n ≡ i = ap (λ v. v / n) is ∙ div-mul-add i n j s.column in
    let column : e % n ≡ j = ap (λ v. v % n) is ∙ mod-mul-add i n j s.column in
    let close = near d in
    let y : p.y +ℤ pos i ≡ c.lat *ℤ pos (n - 1) +ℤ pos (n - 1) = s.y in
    let y' : (p.y +ℤ north_of d) +ℤ pos there.0 ≡ c.lat *ℤ pos (n - 1) +ℤ pos (n - 1) = s'.y in
    let x : p.x ≡ c.lon *ℤ pos (n - 1) +ℤ pos j = s.x in
    let x' : (p.x +ℤ east_of d) ≡ c.lon *ℤ pos (n - 1) +ℤ pos there.1 = s'.x in
    inner_at n (place_by n e d) there.0 there.1 there.2.1 (omega (arith, ints, said.0, close.1)) (omega (arith, ints, said.1, close.0)) (omega (arith, ints, said.2, close.2)) (omega (arith, ints, said.3, close.3))
