use Rattle.edits.proofs.Prelude.{false, of_z, refl, rules, to_z, to_z-of_z, true, ◌≡◌}
use mir.Syntax.{w32}
use mir.Val.{SFits}
use Rattle.edits.proofs.BoxVoids.Voids.{is_span, span_at, count_at, box_from, no_rows, no_columns}
use Rattle.edits.proofs.boxes.BoxPoints.new.Goals as goal

pub returns-in_err-rows-clause-none : goal.returns-in_err-rows-clause-none
returns-in_err-rows-clause-none c =
    let from = c.args.from in
    let to = c.args.to in
    let low : SFits w32 from.y = search rules in
    let high : SFits w32 to.y = search rules in
    rw c.from_residual.ensures (no_rows c.args.side from to
    (span_at c.args.side c.args.side from.y (to_z w32 (of_z w32 from.y)) to.y (to_z w32 (of_z w32 to.y)) false (to_z-of_z w32 from.y low) (to_z-of_z w32 to.y high) refl c.in_err-rows.ensures.none))

pub returns-in_err-columns-clause-none : goal.returns-in_err-columns-clause-none
returns-in_err-columns-clause-none c =
    let from = c.args.from in
    let to = c.args.to in
    let low : SFits w32 from.x = search rules in
    let high : SFits w32 to.x = search rules in
    rw c.from_residual-in_err-columns.ensures (no_columns c.args.side from to
    (span_at c.args.side c.args.side from.x (to_z w32 (of_z w32 from.x)) to.x (to_z w32 (of_z w32 to.x)) false (to_z-of_z w32 from.x low) (to_z-of_z w32 to.x high) refl c.in_err-columns.ensures.none))

pub returns-clause-some : goal.returns-clause-some
returns-clause-some c =
    let from = c.args.from in
    let to = c.args.to in
    let south : SFits w32 from.y = search rules in
    let north : SFits w32 to.y = search rules in
    let west : SFits w32 from.x = search rules in
    let east : SFits w32 to.x = search rules in
    let sy = to_z-of_z w32 from.y south in
    let ny = to_z-of_z w32 to.y north in
    let wx = to_z-of_z w32 from.x west in
    let ex = to_z-of_z w32 to.x east in
    let rows : is_span c.args.side from.y to.y ≡ true =
    span_at c.args.side c.args.side from.y (to_z w32 (of_z w32 from.y)) to.y (to_z w32 (of_z w32 to.y)) true sy ny refl c.in_ok-rows.ensures.some.0 in
    let columns : is_span c.args.side from.x to.x ≡ true =
    span_at c.args.side c.args.side from.x (to_z w32 (of_z w32 from.x)) to.x (to_z w32 (of_z w32 to.x)) true wx ex refl c.in_ok-columns.ensures.some.0 in (
      box_from c.args.side from to rows columns,
      record {
        first = refl;
        rows = count_at from.y (to_z w32 (of_z w32 from.y)) to.y (to_z w32 (of_z w32 to.y)) c.in_ok-rows.rows sy ny c.in_ok-rows.ensures.some.1;
        columns = count_at from.x (to_z w32 (of_z w32 from.x)) to.x (to_z w32 (of_z w32 to.x)) c.in_ok-columns.columns wx ex c.in_ok-columns.ensures.some.1;
      },
    )
