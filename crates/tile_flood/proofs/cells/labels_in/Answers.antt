use Rattle.tile_flood.proofs.Prelude.{ap, arith, ext_get_or, label_of, labels_of, length, length-map, length-set, sym, ◌<◌, ◌∙◌}
use Rattle.tile_flood.proofs.InCells.{none, label_at, one_more}
use Rattle.tile_flood.proofs.cells.labels_in.Goals as goal

pub loop-e-preserved : goal.loop-e-preserved
loop-e-preserved c =
    let cells = c.args.cells.now in
    let i = c.loop-e.invariant in
    let e = c.loop-e.e in
    let whole = i.whole in
    let inside : e < length cells = omega arith in
    record {
      whole = length-set c.loop-e.labels.items e c.label_in.result ∙ i.whole;
      below = one_more 0 c.loop-e.labels.items (labels_of cells) e c.label_in.result (omega arith) (c.label_in.ensures ∙ (ap label_of (c.cell_at.ensures none)) ∙ sym (label_at cells e none inside)) i.below;
    }

pub returns : goal.returns
returns c =
    let cells = c.args.cells.now in
    let long = length-map cells label_of in
    ext_get_or 0 c.loop-e.labels.items (labels_of cells) (omega arith) (λ f below. c.loop-e.invariant.below f (omega arith))
