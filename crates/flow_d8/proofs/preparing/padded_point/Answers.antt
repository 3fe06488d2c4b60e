use Rattle.flow_d8.proofs.Prelude.{SFits, ℤ, ap₂, arith, ints, of_z, pos, rules, to_z, to_z-of_z, w32, ◌+ℤ◌, ◌-ℤ◌, ◌∙◌, ◌≡◌}
use Rattle.flow_d8.proofs.Padded.PaddedPlaces.{IsFirst, is_first, first_small, point_from}
use Rattle.flow_d8.proofs.preparing.padded_point.Goals as goal

pub moved-y-requires : goal.moved-y-requires
moved-y-requires c =
    let f = c.point_at-first.result in
    let first : IsFirst c.args.side c.args.corner f = is_first c.args.side c.args.corner f c.samples-small.ensures.low c.point_at-first.ensures.index in
    let small = first_small c.args.side c.args.corner f first c.samples-small.ensures.high c.point_at-first.ensures.index.corner in
    let fits : SFits w32 f.y = search rules in
    let same = to_z-of_z w32 f.y fits in
    record {
      low = omega (arith, ints, small.0.0, same);
      high = omega (arith, ints, small.0.1, same);
      by_low = omega (arith, ints, c.requires.row, c.samples-small.ensures.high);
      by_high = omega (arith, ints, c.requires.row, c.samples-small.ensures.high);
    }

pub moved-x-requires : goal.moved-x-requires
moved-x-requires c =
    let f = c.point_at-first.result in
    let first : IsFirst c.args.side c.args.corner f = is_first c.args.side c.args.corner f c.samples-small.ensures.low c.point_at-first.ensures.index in
    let small = first_small c.args.side c.args.corner f first c.samples-small.ensures.high c.point_at-first.ensures.index.corner in
    let fits : SFits w32 f.x = search rules in
    let same = to_z-of_z w32 f.x fits in
    record {
      low = omega (arith, ints, small.1.0, same);
      high = omega (arith, ints, small.1.1, same);
      by_low = omega (arith, ints, c.requires.column, c.samples-small.ensures.high);
      by_high = omega (arith, ints, c.requires.column, c.samples-small.ensures.high);
    }

pub returns : goal.returns
returns c =
    let f = c.point_at-first.result in
    let first : IsFirst c.args.side c.args.corner f = is_first c.args.side c.args.corner f c.samples-small.ensures.low c.point_at-first.ensures.index in
    let y_fits : SFits w32 f.y = search rules in
    let x_fits : SFits w32 f.x = search rules in
    let y_same = to_z-of_z w32 f.y y_fits in
    let x_same = to_z-of_z w32 f.x x_fits in
    let high = c.samples-small.ensures.high in
    let y : to_z w32 (of_z w32 c.moved-y.result) ≡ f.y +ℤ (pos 2 -ℤ pos c.args.row) = to_z-of_z w32 c.moved-y.result (record { sfits = c.moved-y.type_inv }) ∙ omega (arith, ints, c.moved-y.ensures, y_same, c.requires.row) in
    let x : to_z w32 (of_z w32 c.moved-x.result) ≡ f.x +ℤ (pos c.args.column -ℤ pos 2) = to_z-of_z w32 c.moved-x.result (record { sfits = c.moved-x.type_inv }) ∙ omega (arith, ints, c.moved-x.ensures, x_same, c.requires.column) in
    ap₂ (λ (a b : ℤ). record { y = a; x = b }) y x ∙ point_from c.args.side c.args.corner f first c.args.row c.args.column
