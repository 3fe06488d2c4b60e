use Rattle.edits.proofs.Prelude.{and_from, ap, arith, int_le, ints, is_height, negsuc, of_z, pos, rules, sym, to_z, to_z-of_z, true, ◌∙◌, ◌≡◌}
use mir.Syntax.{w16, w32}
use mir.Val.{SFits}
use Rattle.edits.proofs.NewHeights.{wall_made}
use Rattle.edits.proofs.heights.raised.Goals as goal

pub returns-clause-made : goal.returns-clause-made
returns-clause-made g c = λ capacity honest.
    let height = c.args.height in
    let low : int_le (negsuc 32766) height ≡ true = grind (arith, ints) in
    let high : int_le height (pos 32767) ≡ true = grind (arith, ints) in
    let in_range : is_height height ≡ true = and_from (int_le (negsuc 32766) height) (int_le height (pos 32767)) low high in
    let to_ = to_z w16 (of_z w16 (to_z w32 (of_z w32 height))) in
    let fits : SFits w16 height = search rules in
    let kept : to_z w32 (of_z w32 height) ≡ height = to_z-of_z w32 height c.ranges.height in
    let same : height ≡ to_ = sym (ap (λ v. to_z w16 (of_z w16 v)) kept ∙ to_z-of_z w16 height fits) in
    wall_made capacity (g.S.Samples.mosaic c.args.samples.now) height to_ c.args.points.now c.new_heights.result in_range same (c.new_heights.ensures.made honest)
