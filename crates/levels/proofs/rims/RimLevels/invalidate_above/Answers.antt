use Rattle.levels.proofs.Prelude.{IsNoHigher, ap, length, rules, subst, sym, ◌+◌, ◌<◌, ◌∙◌, ◌≡◌}
use Rattle.levels.proofs.Changes.SparedLevels.{AreSpared, one_spared, one_given_up}
use Rattle.levels.proofs.rims.RimLevels.invalidate_above.Goals as goal
use Rattle.levels.proofs.rims.RimLevels.invalidate_above.Goals.{then-is_above, else-is_above}

pub loop-x-preserved : goal.loop-x-preserved
loop-x-preserved c =
    let was = c.args.self.now in
    let so = c.loop-x.invariant in
    let many : length c.self.inside.levels.items ≡ length was = ap length c.self.view_is in
    let inside : c.loop-x.x < length c.loop-x.self = (let below = c.loop-x-test.true in let size = c.len-x-end.ensures in let whole = so.whole in search rules) in
    elim c.if-is_above.branch [
      | then-is_above w ↦ subst (AreSpared (IsNoHigher c.args.most) was (c.loop-x.x + 1)) (sym (w.self-is ∙ w.invalidate_at.ensures))
          (one_given_up (IsNoHigher c.args.most) was c.loop-x.x c.loop-x.self c.at.result (sym c.at.ensures) so inside (c.is_above.ensures.yes w.if-is_above.true))
      | else-is_above w ↦ subst (AreSpared (IsNoHigher c.args.most) was (c.loop-x.x + 1)) (sym w.self-is)
          (one_spared (IsNoHigher c.args.most) was c.loop-x.x c.loop-x.self c.at.result (sym c.at.ensures) so (c.is_above.ensures.no w.if-is_above.false))
    ]
