use Rattle.flow_d8.proofs.Prelude.{IsSinkPlace, SFits, ℕ, arith, ints, pos, rules, subst, sym, to_z-of_z, w32, ◌*◌, ◌+ℤ◌, ◌+◌, ◌-ℤ◌, ◌≡◌}
use Rattle.flow_d8.proofs.Padded.PaddedPlaces.{IsFirst, is_first, sink_row, sink_column, sink_from, one_sink}
use Rattle.flow_d8.proofs.preparing.place_of.Goals as goal

pub returns-in_err-row : goal.returns-in_err-row
returns-in_err-row c =
    let f = c.point_at-first.result in
    let s = c.args.point in
    let first : IsFirst c.args.side c.args.corner f = is_first c.args.side c.args.corner f c.samples-small.ensures.low c.point_at-first.ensures.index in
    let f_fits : SFits w32 f.y = search rules in
    let s_fits : SFits w32 s.y = search rules in
    let f_same = to_z-of_z w32 f.y f_fits in
    let s_same = to_z-of_z w32 s.y s_fits in
    let none : (k : ℕ) → IsSinkPlace c.args.side c.args.corner s k → ⊥ =
    λ k at. c.in_err-row.ensures at.row at.row_low at.row_high (omega (arith, ints, c.place_along.ensures, f_same, s_same, sink_row c.args.side c.args.corner f first s k at)) in
    search rules

pub returns-in_err-column : goal.returns-in_err-column
returns-in_err-column c =
    let f = c.point_at-first.result in
    let s = c.args.point in
    let first : IsFirst c.args.side c.args.corner f = is_first c.args.side c.args.corner f c.samples-small.ensures.low c.point_at-first.ensures.index in
    let f_fits : SFits w32 f.x = search rules in
    let s_fits : SFits w32 s.x = search rules in
    let f_same = to_z-of_z w32 f.x f_fits in
    let s_same = to_z-of_z w32 s.x s_fits in
    let none : (k : ℕ) → IsSinkPlace c.args.side c.args.corner s k → ⊥ =
    λ k at. c.in_err-column.ensures at.column at.column_low at.column_high (omega (arith, ints, c.place_along-2.ensures, f_same, s_same, sink_column c.args.side c.args.corner f first s k at)) in
    search rules

pub returns : goal.returns
returns c =
    let n = c.args.side in
    let f = c.point_at-first.result in
    let s = c.args.point in
    let i = c.in_ok-row.row in
    let j = c.in_ok-column.column in
    let first : IsFirst n c.args.corner f = is_first n c.args.corner f c.samples-small.ensures.low c.point_at-first.ensures.index in
    let fy = to_z-of_z w32 f.y (search rules) in
    let sy = to_z-of_z w32 s.y (search rules) in
    let fx = to_z-of_z w32 f.x (search rules) in
    let sx = to_z-of_z w32 s.x (search rules) in
    let row : ((f.y -ℤ s.y) +ℤ pos 2) ≡ pos i = omega (arith, ints, c.place_along.ensures, c.in_ok-row.ensures.2, fy, sy) in
    let column : ((s.x -ℤ f.x) +ℤ pos 2) ≡ pos j = omega (arith, ints, c.place_along-2.ensures, c.in_ok-column.ensures.2, fx, sx) in
    subst (λ w. IsSinkPlace n c.args.corner s (i * w + j) × ((k : ℕ) → IsSinkPlace n c.args.corner s k → k ≡ i * w + j)) (sym c.width.ensures.value) (
      sink_from n c.args.corner f first s i j c.in_ok-row.ensures.0 c.in_ok-row.ensures.1 c.in_ok-column.ensures.0 c.in_ok-column.ensures.1 row column,
      λ k at. one_sink n c.args.corner f first s k i j at row column,
    )
