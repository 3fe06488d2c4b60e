use Rattle.edits.proofs.Prelude.{AreSinks, Edit, List, Point, ap, arith, corners_of, false_from_ne_true, is_present, length, patched, present_iff, rules, subst, sym, to_z-of_z, with_point, without_point, ◌∙◌}
use mir.Syntax.{w16}
use mir.Val.{SFits}
use Rattle.edits.specs.declared.edit.Edit.TheVariants.{Add}
use Rattle.edits.specs.Edits.{FitsIn, edit_made}
use Rattle.edits.proofs.SinkLists.{length_with, sinks_without}
use Rattle.edits.proofs.applying.apply_edit.Goals as goal

pub add-requires-clause-absent : goal.add-requires-clause-absent
add-requires-clause-absent c =
    let m = c.args.table.now in
    let fits : FitsIn m.side (corners_of m) m.sinks (Add c.in-Add.corner c.in-Add.bytes) = subst (FitsIn m.side (corners_of m) m.sinks) c.in-Add.is c.requires in
    false_from_ne_true (is_present m c.in-Add.corner) (λ here. fits.0 ((present_iff m c.in-Add.corner).0 here))

pub with_point-sinks-requires : goal.with_point-sinks-requires
with_point-sinks-requires c =
    let m = c.args.table.now in
    let fits : AreSinks m.side (with_point c.in-Sink.point m.sinks) = subst (FitsIn m.side (corners_of m) m.sinks) c.in-Sink.is c.requires in
    let few = fits.few in
    let more = length_with c.in-Sink.point m.sinks in
    let same = ap (λ (l : List Point). length l) c.sinks.ensures.sinks in
    omega (arith, few, more, same)

pub declare-requires-in-Unsink : goal.declare-requires-in-Unsink
declare-requires-in-Unsink c =
    let m = c.args.table.now in
    let p = c.in-Unsink.point in
    let sinks = c.sinks-in-Unsink.result.now in
    let are : AreSinks m.side (without_point p sinks) = sinks_without m.side p sinks (subst (λ (l : List Point). AreSinks m.side l) (sym c.sinks-in-Unsink.ensures.sinks) c.sinks-in-Unsink.ensures.valid) in
    subst (λ (l : List Point). AreSinks m.side l) (sym (c.deref-in-Unsink.ensures.0 ∙ c.without_point-sinks.ensures)) are

pub returns-in-Voids-clause-made : goal.returns-in-Voids-clause-made
returns-in-Voids-clause-made c =
    let m = c.args.table.now in
    let h = c.in-Voids.height in
    let fits : SFits w16 h = search rules in
    c.fill_voids.ensures.filled
    ∙ ap (λ v. patched c.in-Voids.from c.in-Voids.to v m) (to_z-of_z w16 h fits)
    ∙ ap (λ (e : Edit). edit_made e m) (sym c.in-Voids.is)
