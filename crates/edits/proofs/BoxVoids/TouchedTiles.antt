-- The tiles that have a point of a command.
use Rattle.edits.proofs.Prelude.{Bool, Contains, Holds, IsMosaic, IsTile, List, Mosaic, Point, Tile, ℕ, ap, arith, corners_of, get_or-map, has_void_from, holds, holds_is, holds_one, is_named, length-map, point_of, point_of_held, same_point, same_point_says, subst, sym, true, zero-add, ◌*◌, ◌<◌, ◌∙◌, ◌≡◌, ◌≤◌}
use Rattle.edits.proofs.BoxVoids.Voids.{any_says, any_from, is_void_within, some_index, at_index}

pub some_edge : (n : ℕ) → 3 ≤ n → 0 < n
some_edge n side = omega arith

-- The corner of a tile is that of a present one.
pub listed : (m : Mosaic) (t : Tile) → Contains m.tiles t → Contains (corners_of m) t.corner
listed m t (k, below, here) = (k, omega (arith, below, length-map m.tiles (λ (u : Tile). u.corner)), get_or-map (λ (u : Tile). u.corner) m.tiles k t t.corner below ∙ ap (λ (u : Tile). u.corner) here)

-- the tile has a sample whose point passes the test
abbrev pub HasOne : Mosaic → (Point → Bool) → Tile → Type 0
HasOne m test t = (e : ℕ) × ((e < m.side * m.side) × (test (point_of m.side t.corner e) ≡ true))

-- the tiles with a named point
module _ (m : Mosaic) (valid : IsMosaic m) (points : List Point) where
  pub named_from : (t : Tile) → IsTile m.side t → HasOne m (is_named points) t → holds_one m points t.corner ≡ true
  named_from t tile (e, (below, named)) =
      let found = any_says (same_point (point_of m.side t.corner e)) points named in
      let q = found.0 in
      let here : point_of m.side t.corner e ≡ q = same_point_says (point_of m.side t.corner e) q found.1.1 in
      let held : Holds m.side t.corner q = subst (λ (r : Point). Holds m.side t.corner r) here (point_of_held m.side t.corner e (some_edge m.side valid.side_low) tile.corner below) in
      any_from (λ (r : Point). holds m.side t.corner r) points q found.1.0 ((holds_is m.side t.corner q valid.side_low tile.corner).1 held)

-- the tiles with a void point of the box
module _ (m : Mosaic) (valid : IsMosaic m) (from to : Point) where
  pub void_says : (t : Tile) → IsTile m.side t → has_void_from m from to t.corner 0 t.samples ≡ true → HasOne m (is_void_within m from to) t
  void_says t tile some =
      let found = some_index m from to t.corner 0 t.samples some in
      let below = found.1.0 in
      (found.0, (omega (arith, below, tile.whole), ap (λ i. is_void_within m from to (point_of m.side t.corner i)) (sym (zero-add found.0)) ∙ found.1.1))

  pub void_from : (t : Tile) → IsTile m.side t → HasOne m (is_void_within m from to) t → has_void_from m from to t.corner 0 t.samples ≡ true
  void_from t tile (e, (below, void)) =
      at_index m from to t.corner 0 t.samples e (omega (arith, below, tile.whole)) (ap (λ i. is_void_within m from to (point_of m.side t.corner i)) (zero-add e) ∙ void)
