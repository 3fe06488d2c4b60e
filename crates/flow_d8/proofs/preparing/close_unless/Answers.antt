use Rattle.flow_d8.proofs.Prelude.{IsInner, arith, get_or-set_same, length, mul-add-lt, refl, slice_set, subst, sym, ◌*◌, ◌+◌, ◌<◌}
use Rattle.water.specs.declared.flow.Flow.TheVariants.{Unknown}
use Rattle.flow_d8.specs.Preparing.{flow_in, IsClosedFlow, IsFlowWithout}
use Rattle.flow_d8.proofs.Padded.PaddedPlaces.{inner_at}
use Rattle.flow_d8.proofs.preparing.close_unless.Goals as goal

pub flow_without-flow-requires : goal.flow_without-flow-requires
flow_without-flow-requires c =
    let n = c.args.tile.now.side in
    let row = c.args.at.0 in
    let column = c.args.at.1 in
    let low : row < n = c.requires.row in
    let small : column < n = c.requires.column in
    subst (λ w. IsInner w (length c.args.tile.now.levels.now) ((row + 2) * w + (column + 2))) (sym c.width-width.ensures.value)
    (subst (λ z. IsInner (n + 4) z ((row + 2) * (n + 4) + (column + 2))) (sym c.args.tile.now.whole)
    (inner_at n (row + 2) (column + 2) (omega arith) (omega arith) (omega arith) (omega arith)))

pub returns-clause-told : goal.returns-clause-told
returns-clause-told c off =
    let n = c.args.tile.now.side in
    let row = c.args.at.0 in
    let column = c.args.at.1 in
    let flows = c.args.flows.now in
    let x = c.of.result in
    let e = row * n + column in
    let within : e < length flows = subst (λ z. e < z) (sym c.requires.flows) (mul-add-lt row n column n c.requires.row c.requires.column) in
    let made : IsClosedFlow n c.args.tile.now.levels.now c.args.tile.now.sides.now e x = record {
      side = c.args.over;
      row = row;
      column = column;
      closed = c.requires.closed off;
      at = refl;
      is = subst (IsFlowWithout c.args.tile.now.levels.now (n + 4) c.args.over ((row + 2) * (n + 4) + (column + 2))) (sym c.of.ensures)
          (subst (λ w. IsFlowWithout c.args.tile.now.levels.now w c.args.over ((row + 2) * w + (column + 2)) c.flow_without-flow.result) c.width-width.ensures.value c.flow_without-flow.ensures);
    } in
    subst (λ k. IsClosedFlow n c.args.tile.now.levels.now c.args.tile.now.sides.now e (flow_in (slice_set flows (row * k + column) x) e)) (sym c.samples-n.ensures.value)
    (subst (IsClosedFlow n c.args.tile.now.levels.now c.args.tile.now.sides.now e) (sym (get_or-set_same flows e x Unknown within)) made)
