use Rattle.edits.proofs.Prelude.{NewHeight, ap, get_or, pos, rules, sym, to_z-of_z, with_height, ◌∙◌}
use mir.Syntax.{w16}
use mir.Val.{SFits}
use Rattle.edits.proofs.EditStale.{read_within}
use Rattle.edits.proofs.Edited.{heights_next}
use Rattle.edits.proofs.applying.set_heights.Goals as goal

abbrev none : NewHeight
none = record { point = record { y = pos 0; x = pos 0 }; was = pos 0; metres = pos 0 }

pub loop-height-preserved : goal.loop-height-preserved
loop-height-preserved c =
    let heights = c.args.heights.now in
    let i = c.loop-height.height-index in
    let h = get_or heights i none in
    let fits : SFits w16 h.metres = search rules in
    record {
      set = c.set_at.ensures.set ∙ ap (λ v. with_height h.point v c.loop-height.table) (to_z-of_z w16 h.metres fits) ∙ ap (with_height h.point h.metres) c.loop-height.invariant.set
          ∙ sym (heights_next heights i h c.args.table.now c.loop-height-test.true (read_within heights i none h c.loop-height-test.true));
      valid = c.set_at.ensures.valid;
    }
