use Rattle.catalogue.proofs.Prelude.{Contains, Corner, List, ap, false, height_of, is_held_elsewhere, metres, point_of, slice_set, subst, sym, ◌*◌, ◌<◌, ◌∙◌, ◌≡◌}
use Rattle.catalogue.proofs.Blocks.{alone_set}
use Rattle.catalogue.proofs.tile_block.put_at.Goals as goal

pub returns-else-is_held_elsewhere-clause-height : goal.returns-else-is_held_elsewhere-clause-height
returns-else-is_held_elsewhere-clause-height g c honest either =
    let laws = g.met.S.Samples in
    let now = c.args.samples.now in
    let m = g.S.Samples.mosaic now in
    let side = laws.same_side now honest in
    let there = subst (λ (cs : List Corner). Contains cs c.args.corner) (sym (laws.same_corners now honest)) c.requires.present in
    let small = subst (λ n. c.args.index < n * n) (sym side) c.requires.index in
    let point : c.point_at-point.result ≡ point_of m.side c.args.corner c.args.index = c.point_at-point.ensures.value ∙ ap (λ n. point_of n c.args.corner c.args.index) (c.side.ensures ∙ sym side) in
    let none : is_held_elsewhere m c.args.corner (point_of m.side c.args.corner c.args.index) ≡ false =
    ap (is_held_elsewhere m c.args.corner) (sym point) ∙ sym (c.is_held_elsewhere.ensures honest) ∙ c.if-is_held_elsewhere.false in
    alone_set m c.args.corner c.args.index c.args.heights.now (laws.is_mosaic now honest) there small none either
    ∙ ap (λ n. slice_set c.args.heights.now c.args.index (metres (height_of m (point_of n c.args.corner c.args.index)))) side
