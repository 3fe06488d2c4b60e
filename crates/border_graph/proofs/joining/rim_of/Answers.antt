use Rattle.border_graph.proofs.Prelude.{IsLevelAt, SFits, rules, subst, sym, to_z-of_z, void, w16, ◌∙◌}
use Rattle.border_graph.proofs.MosaicGraphs.{each_more, one_longer}
use Rattle.border_graph.proofs.joining.rim_of.Goals as goal

pub loop-k-preserved : goal.loop-k-preserved
loop-k-preserved c =
    let same = c.loop-k.invariant.same in
    let in_range : SFits w16 c.in_ok-level.level = search rules in
    record {
      same = c.in_ok-level.ensures.same ∙ same;
      whole = one_longer c.loop-k.rim.items c.push.new.items.items _ c.loop-k.k c.loop-k.invariant.whole c.in_ok-push.ensures.pushed;
      levels = each_more (IsLevelAt c.args.graph.now c.args.t) c.loop-k.rim.items c.push.new.items.items _ void c.loop-k.k c.loop-k.invariant.whole c.in_ok-push.ensures.pushed c.loop-k.invariant.levels
          (subst (λ v. IsLevelAt c.args.graph.now c.args.t c.loop-k.k v) (sym (to_z-of_z in_range)) (subst (λ g. IsLevelAt g c.args.t c.loop-k.k c.in_ok-level.level) same c.in_ok-level.ensures.level));
    }
