use Rattle.border_graph.proofs.Prelude.{RimPoint, SFits, ap, refl, rim_point, rules, sym, to_z-of_z, w16, ◌∙◌}
use Rattle.border_graph.proofs.RowSteps.{labels_more, labels_less}
use Rattle.border_graph.proofs.rows.turn_labels.Goals as goal
use Rattle.border_graph.proofs.rows.turn_labels.Goals.{then-from-number+in_ok-push, else-from-number}

pub loop-number-preserved : goal.loop-number-preserved
loop-number-preserved c =
    let b = c.args.summary.now in
    let is = c.in-Some.ensures.some.1 in
    let in_range : SFits w16 c.in-Some.point.height = search rules in
    elim c.if-from-number.branch [
      | then-from-number+in_ok-push w ↦ rw w.back-is (labels_more c.args.side b c.loop-number.number c.args.back.now.items c.loop-number.back.items c.loop-number.invariant _ w.push.new.self.items refl (record {
        there = c.in-Some.ensures.some.0;
        apart = λ same. w.if-from-number.true (c.from.ensures ∙ same);
        label = record { names = ap (λ (p : RimPoint). p.label) is; height = ap (λ (p : RimPoint). p.height) is ∙ sym (to_z-of_z in_range) };
      }) w.in_ok-push.ensures.items)
      | else-from-number w ↦ rw w.back-is (labels_less c.args.side b c.loop-number.number c.args.back.now.items c.loop-number.back.items c.loop-number.invariant
          (λ link at from. from.apart (sym from.label.names ∙ (ap (λ k. (rim_point b k).label) at ∙ (ap (λ (p : RimPoint). p.label) is ∙ (sym c.from.ensures ∙ (w.if-from-number.false ∙ sym at)))))))
    ]
