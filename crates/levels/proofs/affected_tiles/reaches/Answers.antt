use Rattle.levels.proofs.Prelude.{Bool, Point, SFits, ℕ, ℤ, ap, ap₂, arith, int_le, ints, of_z, pos, reaches_along, rules, sym, to_z, to_z-of_z, w32, ◌%◌, ◌&&◌, ◌*ℤ◌, ◌+ℤ◌, ◌+◌, ◌-ℤ◌, ◌-◌, ◌/◌, ◌∙◌, ◌≡◌, ◌≤◌}
use Rattle.std.proofs.Math.Nat.{zero-div, zero-mod}
use Rattle.levels.proofs.affected_tiles.reaches.Goals as goal

module _ (n : ℕ) (corner value : ℤ) (far : ℕ) (from to as_from as_to : ℤ) (b : Bool) (side : 3 ≤ n) (edge : far ≡ n - 1 + 1) (from_is : as_from ≡ from) (to_is : as_to ≡ to) where
  -- latitudes, counted from the tile's northern edge
  southwards : value ≡ (corner *ℤ pos (n - 1) +ℤ pos (n - 1)) -ℤ pos (0 / n) → b ≡ (int_le (value -ℤ pos far) as_to && int_le as_from (value +ℤ pos 1)) → b ≡ reaches_along (pos (n - 1)) corner from to
  southwards at is =
      let first : value ≡ corner *ℤ pos (n - 1) +ℤ pos (n - 1) = at ∙ ap (λ k. (corner *ℤ pos (n - 1) +ℤ pos (n - 1)) -ℤ pos k) (zero-div n) ∙ omega (arith, ints) in
      let last : (value -ℤ pos far) ≡ corner *ℤ pos (n - 1) -ℤ pos 1 = omega (arith, ints) in
      is ∙ ap₂ (λ x y. x && y) (ap₂ int_le last to_is) (ap₂ int_le from_is (ap (λ z. z +ℤ pos 1) first))

  -- longitudes, counted from the tile's western edge
  eastwards : value ≡ corner *ℤ pos (n - 1) +ℤ pos (0 % n) → b ≡ (int_le (value -ℤ pos 1) as_to && int_le as_from (value +ℤ pos far)) → b ≡ reaches_along (pos (n - 1)) corner from to
  eastwards at is =
      let first : value ≡ corner *ℤ pos (n - 1) = at ∙ ap (λ k. corner *ℤ pos (n - 1) +ℤ pos k) (zero-mod n) ∙ omega (arith, ints) in
      let last : (value +ℤ pos far) ≡ corner *ℤ pos (n - 1) +ℤ pos (n - 1) +ℤ pos 1 = omega (arith, ints) in
      is ∙ ap₂ (λ x y. x && y) (ap₂ int_le (ap (λ z. z -ℤ pos 1) first) to_is) (ap₂ int_le from_is last)

pub returns-else-meets : goal.returns-else-meets
returns-else-meets c =
    let p = c.point_at-north_west.result in
    let p_fits : SFits w32 p.y = search rules in
    let from_fits : SFits w32 c.args.from.y = search rules in
    let to_fits : SFits w32 c.args.to.y = search rules in
    let out = sym c.if-meets.false ∙ southwards c.args.side c.args.corner.lat (to_z w32 (of_z w32 p.y)) (c.edge-far.result + 1) c.args.from.y c.args.to.y (to_z w32 (of_z w32 c.args.from.y)) (to_z w32 (of_z w32 c.args.to.y)) c.meets.result
    c.edge-far.ensures.low (ap (λ k. k + 1) c.edge-far.ensures.value) (to_z-of_z w32 c.args.from.y from_fits) (to_z-of_z w32 c.args.to.y to_fits)
    (to_z-of_z w32 p.y p_fits ∙ ap (λ (q : Point). q.y) c.point_at-north_west.ensures.value) c.meets.ensures in
    c.if-meets.false ∙ ap (λ x. x && reaches_along (pos (c.args.side - 1)) c.args.corner.lon c.args.from.x c.args.to.x) out

pub returns-then-meets : goal.returns-then-meets
returns-then-meets c =
    let p = c.point_at-north_west.result in
    let y_fits : SFits w32 p.y = search rules in
    let x_fits : SFits w32 p.x = search rules in
    let from_y : SFits w32 c.args.from.y = search rules in
    let to_y : SFits w32 c.args.to.y = search rules in
    let from_x : SFits w32 c.args.from.x = search rules in
    let to_x : SFits w32 c.args.to.x = search rules in
    let within = sym c.if-meets.true ∙ southwards c.args.side c.args.corner.lat (to_z w32 (of_z w32 p.y)) (c.edge-far.result + 1) c.args.from.y c.args.to.y (to_z w32 (of_z w32 c.args.from.y)) (to_z w32 (of_z w32 c.args.to.y)) c.meets.result
    c.edge-far.ensures.low (ap (λ k. k + 1) c.edge-far.ensures.value) (to_z-of_z w32 c.args.from.y from_y) (to_z-of_z w32 c.args.to.y to_y)
    (to_z-of_z w32 p.y y_fits ∙ ap (λ (q : Point). q.y) c.point_at-north_west.ensures.value) c.meets.ensures in
    eastwards c.args.side c.args.corner.lon (to_z w32 (of_z w32 p.x)) (c.edge-far.result + 1) c.args.from.x c.args.to.x (to_z w32 (of_z w32 c.args.from.x)) (to_z w32 (of_z w32 c.args.to.x)) c.meets-then-meets.result
    c.edge-far.ensures.low (ap (λ k. k + 1) c.edge-far.ensures.value) (to_z-of_z w32 c.args.from.x from_x) (to_z-of_z w32 c.args.to.x to_x)
    (to_z-of_z w32 p.x x_fits ∙ ap (λ (q : Point). q.x) c.point_at-north_west.ensures.value) c.meets-then-meets.ensures
    ∙ ap (λ x. x && reaches_along (pos (c.args.side - 1)) c.args.corner.lon c.args.from.x c.args.to.x) within
