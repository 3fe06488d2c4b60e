use Rattle.edits.proofs.Prelude.{NewHeight, ap, are_neighbours, get_or, holds, list_any, pos, sym, take_all, ◌&&◌, ◌∙◌}
use Rattle.edits.proofs.EditStale.{any_near, read_within}
use Rattle.edits.proofs.BoxVoids.Voids.{any_from}
use Rattle.edits.proofs.stale.is_one_near.Goals as goal

pub returns : goal.returns
returns g c =
    let now = c.args.samples.now in
    let n = g.S.Samples.side_of now in
    let cs = g.S.Samples.corners now in
    let near = λ (h : NewHeight). list_any (λ d. holds n d h.point && are_neighbours d c.args.corner) cs in
    sym (sym (any_near n cs c.args.heights.now c.args.corner) ∙ ap (list_any near) (sym (take_all c.loop-height.height-index c.args.heights.now c.loop-height-test.false)) ∙ c.loop-height.invariant)

abbrev none : NewHeight
none = record { point = record { y = pos 0; x = pos 0 }; was = pos 0; metres = pos 0 }

pub returns-then-is_held_near : goal.returns-then-is_held_near
returns-then-is_held_near g c =
    let now = c.args.samples.now in
    let n = g.S.Samples.side_of now in
    let cs = g.S.Samples.corners now in
    let heights = c.args.heights.now in
    let i = c.loop-height.height-index in
    let h = get_or heights i none in
    let near = λ (k : NewHeight). list_any (λ d. holds n d k.point && are_neighbours d c.args.corner) cs in
    sym (sym (any_near n cs heights c.args.corner) ∙ any_from near heights h (i, c.loop-height-test.true, read_within heights i h none c.loop-height-test.true) (sym c.is_held_near.ensures ∙ c.if-is_held_near.true))
