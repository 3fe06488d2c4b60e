-- Which tiles hold two points next to each other.
use Rattle.flow_d8.proofs.Prelude.{Bool, Corner, IsTrue, List, Mosaic, Point, Tile, ℕ, ℤ, [], and_from, and_parts, ap, ap₂, arith, held, holds, inl, inr, ints, is_along, is_ground, is_present, le_or_above, list_any, mul-le-mul_right, nat_abs, or_cases, or_left, or_right, pos, refl, same_corner, same_from, same_says, share_tile, subst, suc, sym, true, true≢false, zero, ⊎_elim, ◌&&◌, ◌*ℤ◌, ◌*◌, ◌+ℤ◌, ◌+◌, ◌-ℤ◌, ◌-◌, ◌<ℤ◌, ◌<◌, ◌↔◌, ◌∙◌, ◌∷◌, ◌≡◌, ◌≤ℤ◌, ◌≤◌, ◌⊎◌}
use Rattle.lattice.proofs.Along.{distance, parts, from_parts, steps}
use Rattle.lattice.proofs.Multiples.{product_plus, factor_less, multiples_same}

-- the two coordinates differ by at most one
abbrev pub IsClose : ℤ → ℤ → Type 0
IsClose v w = (v ≤ℤ (w +ℤ pos 1)) × (w ≤ℤ (v +ℤ pos 1))

module _ (m : ℕ) where
  abbrev pub IsAlong : ℤ → ℤ → Type 0
  IsAlong a v = IsTrue (is_along (pos m) a v)

  -- the coordinate lies on an edge of tiles
  abbrev pub IsOn : ℤ → Type 0
  IsOn v = (a : ℤ) × (v ≡ a *ℤ pos m)

  pub record IsBetween (a v : ℤ) : Type 0 where
    pub k : ℕ
    pub some : 0 < k
    pub inside : k < m
    pub at : v ≡ a *ℤ pos m +ℤ pos k

  abbrev pub Lies : ℤ → Type 0
  Lies v = IsOn v ⊎ ((a : ℤ) × IsBetween a v)

  next_multiple : (a b : ℤ) → a <ℤ b → (a *ℤ pos m +ℤ pos m) ≤ℤ (b *ℤ pos m)
  next_multiple a b below =
      let d : ℕ = nat_abs (b -ℤ a) in
      let is : b ≡ a +ℤ pos d = distance a b (omega (arith, ints)) in
      let some : 1 ≤ d = omega (arith, ints) in
      let far : 1 * m ≤ d * m = mul-le-mul_right m some in
      let product : (b *ℤ pos m) ≡ a *ℤ pos m +ℤ pos (d * m) = ap (λ (x : ℤ). x *ℤ pos m) is ∙ product_plus a d m in
      omega (arith, ints, product, far)

  pub within : (a v : ℤ) → IsBetween a v → IsAlong a v
  within a v is = let inside = is.inside in from_parts m a v (omega (arith, ints, is.at)) (omega (arith, ints, is.at))

  module _ (two : 2 ≤ m) where
    -- v lies in a tile, and w just above its upper edge: then v lies on that edge, and w between the edges of the next tile
    pub just_above : (a v w : ℤ) → v ≤ℤ (a *ℤ pos m +ℤ pos m) → IsClose v w → (a *ℤ pos m +ℤ pos m) <ℤ w → IsAlong (a +ℤ pos 1) v × IsBetween (a +ℤ pos 1) w
    just_above a v w low close above =
        let one = product_plus a 1 m in (
          from_parts m (a +ℤ pos 1) v (omega (arith, ints, one, close.1)) (omega (arith, ints, one)),
          record { k = 1; some = omega arith; inside = omega arith; at = omega (arith, ints, one, close.0, close.1) },
        )

    pub just_below : (a v w : ℤ) → (a *ℤ pos m) ≤ℤ v → IsClose v w → w <ℤ (a *ℤ pos m) → IsAlong (a -ℤ pos 1) v × IsBetween (a -ℤ pos 1) w
    just_below a v w high close below =
        let one = product_plus (a -ℤ pos 1) 1 m in
        let same : ((a -ℤ pos 1) +ℤ pos 1) *ℤ pos m ≡ a *ℤ pos m = ap (λ (z : ℤ). z *ℤ pos m) (omega (arith, ints)) in (
          from_parts m (a -ℤ pos 1) v (omega (arith, ints, one, same)) (omega (arith, ints, one, same, close.0)),
          record { k = m - 1; some = omega arith; inside = omega arith; at = omega (arith, ints, one, same, close.0, close.1) },
        )

    -- a tile that has a coordinate next to an edge has the edge
    pub to_edge : (a v w : ℤ) → IsOn w → IsClose v w → IsAlong a v → IsAlong a w
    to_edge a v w (b, is) close along =
        let within = parts m a v along in
        let one : ((a +ℤ pos 1) *ℤ pos m) ≡ a *ℤ pos m +ℤ pos (1 * m) = product_plus a 1 m in
        from_parts m a w
        (⊎_elim (λ le. le) (λ above.
        let less = factor_less b a m (subst (λ z. z <ℤ (a *ℤ pos m)) is above) in
        let far = next_multiple b a less in
        absurd (omega (arith, ints, within.0, close.0, is))) (le_or_above (a *ℤ pos m) w))
        (⊎_elim (λ le. le) (λ above.
        let over : ((a +ℤ pos 1) *ℤ pos m) <ℤ (b *ℤ pos m) = omega (arith, ints, one, above, is) in
        let more = factor_less (a +ℤ pos 1) b m over in
        let far = next_multiple (a +ℤ pos 1) b more in
        absurd (omega (arith, ints, within.1, close.1, is, one))) (le_or_above w (a *ℤ pos m +ℤ pos m)))

    -- only one tile has a coordinate between two edges
    pub one_tile : (a b v : ℤ) → IsBetween b v → IsAlong a v → a ≡ b
    one_tile a b v between along =
        let s = steps m a v along in
        multiples_same a b m between.k s.0 between.some between.inside s.1.0 (sym s.1.1 ∙ between.at)

    -- a tile that has a coordinate between two edges also has each coordinate next to it
    pub from_between : (a b v w : ℤ) → IsBetween b v → IsClose v w → IsAlong a v → IsAlong a w
    from_between a b v w between close along =
        let same : b ≡ a = sym (one_tile a b v between along) in
        let at : v ≡ a *ℤ pos m +ℤ pos between.k = between.at ∙ ap (λ (z : ℤ). z *ℤ pos m +ℤ pos between.k) same in
        from_parts m a w (omega (arith, ints, at, close.0, close.1, between.some)) (omega (arith, ints, at, close.0, close.1, between.inside))

    -- one of two coordinates is such that each tile that has it has both
    pub telling : (v w : ℤ) → Lies v → IsClose v w → (u : ℤ) × (((u ≡ v) ⊎ (u ≡ w)) × ((a : ℤ) → IsAlong a u → IsAlong a v × IsAlong a w))
    telling v w (inl on) close = (w, (inr refl, λ a along. (to_edge a w v on (close.1, close.0) along, along)))
    telling v w (inr between) close = (v, (inl refl, λ a along. (along, from_between a between.0 v w between.1 close along)))

    -- a coordinate within a tile, or one step beyond, lies on an edge or between two
    pub lies_at : (a v : ℤ) (o : ℕ) → o ≤ m + 2 → (v +ℤ pos 1) ≡ a *ℤ pos m +ℤ pos o → Lies v
    lies_at a v zero le at = inr (
      a -ℤ pos 1,
      record {
        k = m - 1;
        some = omega arith;
        inside = omega arith;
        at =
            let one : ((a -ℤ pos 1) +ℤ pos 1) *ℤ pos m ≡ (a -ℤ pos 1) *ℤ pos m +ℤ pos (1 * m) = product_plus (a -ℤ pos 1) 1 m in
            let same : (a -ℤ pos 1) +ℤ pos 1 ≡ a = omega (arith, ints) in
            let times : ((a -ℤ pos 1) +ℤ pos 1) *ℤ pos m ≡ a *ℤ pos m = ap (λ (z : ℤ). z *ℤ pos m) same in
            omega (arith, ints);
      },
    )
    lies_at a v (suc zero) le at = inl (a, omega (arith, ints))
    lies_at a v (suc (suc k)) le at = ⊎_elim
        (λ inside. inr (a, record { k = suc k; some = omega arith; inside = inside; at = omega (arith, ints) }))
        (λ past. ⊎_elim
        (λ last. inl (a +ℤ pos 1, omega (arith, ints, at, product_plus a 1 m)))
        (λ beyond. inr (a +ℤ pos 1, record { k = 1; some = omega arith; inside = omega arith; at = omega (arith, ints, at, product_plus a 1 m) }))
        (at_most (suc k) m past))
        (below_or (suc k) m)
      where
        below_or : (x y : ℕ) → (x < y) ⊎ (y ≤ x)
        below_or x zero = inr (omega arith)
        below_or zero (suc y) = inl (omega arith)
        below_or (suc x) (suc y) = ⊎_elim (λ lt. inl (omega arith)) (λ le. inr (omega arith)) (below_or x y)

        at_most : (x y : ℕ) → y ≤ x → (x ≡ y) ⊎ (y < x)
        at_most x y le = ⊎_elim (λ lt. inr lt) (λ ge. inl (omega arith)) (below_or y x)

-- ---- tiles of a mosaic
any_from : (test : Corner → Bool) (tiles : List Tile) (c : Corner) → IsTrue (list_any (λ t. same_corner t.corner c) tiles) → test c ≡ true → IsTrue (list_any (λ t. test t.corner) tiles)
any_from test [] c none passes = absurd (true≢false (sym none))
any_from test (t ∷ ts) c there passes = ⊎_elim
    (λ here. or_left (test t.corner) (list_any (λ u. test u.corner) ts) (ap test (same_says t.corner c here) ∙ passes))
    (λ later. or_right (test t.corner) (list_any (λ u. test u.corner) ts) (any_from test ts c later passes))
    (or_cases (same_corner t.corner c) _ there)

any_says : (test : Corner → Bool) (tiles : List Tile) → IsTrue (list_any (λ t. test t.corner) tiles) → (c : Corner) × (IsTrue (list_any (λ t. same_corner t.corner c) tiles) × (test c ≡ true))
any_says test [] none = absurd (true≢false (sym none))
any_says test (t ∷ ts) some = ⊎_elim
    (λ here. (t.corner, (or_left (same_corner t.corner t.corner) _ (same_from t.corner t.corner refl), here)))
    (λ later. let rest = any_says test ts later in (rest.0, (or_right (same_corner t.corner rest.0) _ rest.1.0, rest.1.1)))
    (or_cases (test t.corner) _ some)

module _ (mo : Mosaic) where
  abbrev n : ℕ
  n = mo.side

  abbrev m : ℕ
  m = n - 1

  pub share_from : (c : Corner) (p q : Point) → IsTrue (is_present mo c) → holds n c p ≡ true → holds n c q ≡ true → IsTrue (share_tile mo p q)
  share_from c p q present here there = any_from (λ d. holds n d p && holds n d q) mo.tiles c present (and_from (holds n c p) (holds n c q) here there)

  pub share_says : (p q : Point) → IsTrue (share_tile mo p q) → (c : Corner) × (IsTrue (is_present mo c) × ((holds n c p ≡ true) × (holds n c q ≡ true)))
  share_says p q share = let found = any_says (λ d. holds n d p && holds n d q) mo.tiles share in (found.0, (found.1.0, and_parts (holds n found.0 p) (holds n found.0 q) found.1.1))

  pub ground_held : (p : Point) → IsTrue (is_ground mo p) → (c : Corner) × (IsTrue (is_present mo c) × (holds n c p ≡ true))
  ground_held p solid = any_says (λ d. holds n d p) mo.tiles (held n p mo.tiles solid)

  pub along_of : (c : Corner) (p : Point) → holds n c p ≡ true → IsAlong m c.lat p.y × IsAlong m c.lon p.x
  along_of c p h = and_parts (is_along (pos m) c.lat p.y) (is_along (pos m) c.lon p.x) h

  pub holds_from : (c : Corner) (p : Point) → IsAlong m c.lat p.y → IsAlong m c.lon p.x → holds n c p ≡ true
  holds_from c p y x = and_from (is_along (pos m) c.lat p.y) (is_along (pos m) c.lon p.x) y x

  abbrev tile_at : ℤ → ℤ → Corner
  tile_at lat lon = record { lat = lat; lon = lon }

  abbrev at : ℤ → ℤ → Point
  at y x = record { y = y; x = x }

  module _ (side : 3 ≤ n) where
    two : 2 ≤ m
    two = omega (arith, side)

    -- two neighbours share a tile if both are ground, and the two points with one's row and the other's column are ground too
    pub share_around : (p q : Point) → Lies m p.y → Lies m p.x → IsClose p.y q.y → IsClose p.x q.x
        → IsTrue (is_ground mo p) → IsTrue (is_ground mo (at p.y q.x)) → IsTrue (is_ground mo (at q.y p.x)) → IsTrue (is_ground mo q) → IsTrue (share_tile mo p q)
    share_around p q ly lx cy cx g_p g_row g_column g_q =
        let uy = telling m two p.y q.y ly cy in
        let ux = telling m two p.x q.x lx cx in
        let solid : IsTrue (is_ground mo (at uy.0 ux.0)) = corner uy.0 ux.0 uy.1.0 ux.1.0 in
        let tile = ground_held (at uy.0 ux.0) solid in
        let along = along_of tile.0 (at uy.0 ux.0) tile.1.1 in
        let ys = uy.1.1 tile.0.lat along.0 in
        let xs = ux.1.1 tile.0.lon along.1 in
        share_from tile.0 p q tile.1.0 (holds_from tile.0 p ys.0 xs.0) (holds_from tile.0 q ys.1 xs.1)
      where
        corner : (y x : ℤ) → (y ≡ p.y) ⊎ (y ≡ q.y) → (x ≡ p.x) ⊎ (x ≡ q.x) → IsTrue (is_ground mo (at y x))
        corner y x (inl iy) (inl ix) = subst (λ r. IsTrue (is_ground mo r)) (ap₂ at (sym iy) (sym ix)) g_p
        corner y x (inl iy) (inr ix) = subst (λ r. IsTrue (is_ground mo r)) (ap₂ at (sym iy) (sym ix)) g_row
        corner y x (inr iy) (inl ix) = subst (λ r. IsTrue (is_ground mo r)) (ap₂ at (sym iy) (sym ix)) g_column
        corner y x (inr iy) (inr ix) = subst (λ r. IsTrue (is_ground mo r)) (ap₂ at (sym iy) (sym ix)) g_q

    -- ---- the samples of a present tile
    module _ (c : Corner) (present : IsTrue (is_present mo c)) (p q : Point) (r s : ℕ) (low : r ≤ m) (right : s ≤ m)
        (y : (p.y +ℤ pos r) ≡ c.lat *ℤ pos m +ℤ pos m) (x : p.x ≡ c.lon *ℤ pos m +ℤ pos s) (cy : IsClose p.y q.y) (cx : IsClose p.x q.x) where
      held_here : holds n c p ≡ true
      held_here = holds_from c p (from_parts m c.lat p.y (omega (arith, ints)) (omega (arith, ints))) (from_parts m c.lon p.x (omega (arith, ints)) (omega (arith, ints)))

      between_x : 0 < s → s < m → IsBetween m c.lon p.x
      between_x some inside = record { k = s; some = some; inside = inside; at = x }

      between_y : 0 < r → r < m → IsBetween m c.lat p.y
      between_y some inside = record { k = m - r; some = omega arith; inside = omega arith; at = omega (arith, ints) }

      pub along_x : 0 < s → s < m → IsAlong m c.lon q.x
      along_x some inside = from_between m two c.lon c.lon p.x q.x (between_x some inside) cx (along_of c p held_here).1

      pub along_y : 0 < r → r < m → IsAlong m c.lat q.y
      along_y some inside = from_between m two c.lat c.lat p.y q.y (between_y some inside) cy (along_of c p held_here).0

      -- if both points lie in the tile, they share it
      pub share_inside : IsAlong m c.lat q.y → IsAlong m c.lon q.x → IsTrue (share_tile mo p q)
      share_inside in_y in_x = share_from c p q present held_here (holds_from c q in_y in_x)

      -- the sample at a tile's corner shares a tile with each ground neighbour
      pub share_corner : (r ≡ 0) ⊎ (r ≡ m) → (s ≡ 0) ⊎ (s ≡ m) → IsTrue (is_ground mo q) → IsTrue (share_tile mo p q)
      share_corner er es solid =
          let tile = ground_held q solid in
          let along = along_of tile.0 q tile.1.1 in
          share_from tile.0 p q tile.1.0
          (holds_from tile.0 p (to_edge m two tile.0.lat q.y p.y on_y (cy.1, cy.0) along.0) (to_edge m two tile.0.lon q.x p.x on_x (cx.1, cx.0) along.1)) tile.1.1
        where
          on_y : IsOn m p.y
          on_y = ⊎_elim (λ top. (c.lat +ℤ pos 1, omega (arith, ints, y, top, product_plus c.lat 1 m))) (λ bottom. (c.lat, omega (arith, ints, y, bottom))) er

          on_x : IsOn m p.x
          on_x = ⊎_elim (λ left. (c.lon, omega (arith, ints, x, left))) (λ end. (c.lon +ℤ pos 1, omega (arith, ints, x, end, product_plus c.lon 1 m))) es

      -- across an edge, the tile on the other side holds both points, and no other tile does
      pub over_rows : 0 < s → s < m → (lat : ℤ) → IsAlong m lat p.y → IsBetween m lat q.y → IsTrue (share_tile mo p q) ↔ IsTrue (is_present mo (record { lat = lat; lon = c.lon }))
      over_rows some inside lat reaches beyond = (
        λ share.
            let tile = share_says p q share in
            let same_lat = one_tile m two tile.0.lat lat q.y beyond (along_of tile.0 q tile.1.1.1).0 in
            let same_lon = one_tile m two tile.0.lon c.lon p.x (between_x some inside) (along_of tile.0 p tile.1.1.0).1 in
            subst (λ (d : Corner). IsTrue (is_present mo d)) (ap₂ tile_at same_lat same_lon) tile.1.0,
        λ there. share_from (tile_at lat c.lon) p q there (holds_from (tile_at lat c.lon) p reaches (along_of c p held_here).1) (holds_from (tile_at lat c.lon) q (within m lat q.y beyond) (along_x some inside)),
      )

      pub over_columns : 0 < r → r < m → (lon : ℤ) → IsAlong m lon p.x → IsBetween m lon q.x → IsTrue (share_tile mo p q) ↔ IsTrue (is_present mo (record { lat = c.lat; lon = lon }))
      over_columns some inside lon reaches beyond = (
        λ share.
            let tile = share_says p q share in
            let same_lat = one_tile m two tile.0.lat c.lat p.y (between_y some inside) (along_of tile.0 p tile.1.1.0).0 in
            let same_lon = one_tile m two tile.0.lon lon q.x beyond (along_of tile.0 q tile.1.1.1).1 in
            subst (λ (d : Corner). IsTrue (is_present mo d)) (ap₂ tile_at same_lat same_lon) tile.1.0,
        λ there. share_from (tile_at c.lat lon) p q there (holds_from (tile_at c.lat lon) p (along_of c p held_here).0 reaches) (holds_from (tile_at c.lat lon) q (along_y some inside) (within m lon q.x beyond)),
      )
