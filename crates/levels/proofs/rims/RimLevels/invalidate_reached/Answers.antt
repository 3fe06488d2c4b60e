use Rattle.levels.proofs.Prelude.{AreSparing, ap, length, rules, subst, sym, ◌+◌, ◌<◌, ◌∙◌, ◌≡◌, ◌≤◌}
use Rattle.levels.proofs.Changes.SparedLevels.{AreSpared, one_spared, one_given_up, all_seen}
use Rattle.levels.proofs.rims.RimLevels.invalidate_reached.Goals as goal
use Rattle.levels.proofs.rims.RimLevels.invalidate_reached.Goals.{then-may_change, else-may_change}

pub loop-x-preserved : goal.loop-x-preserved
loop-x-preserved c =
    let was = c.args.self.now in
    let spared = AreSparing c.args.heights.now in
    let so = c.loop-x.invariant in
    let many : length c.self.inside.levels.items ≡ length was = ap length c.self.view_is in
    let inside : c.loop-x.x < length c.loop-x.self = (let below = c.loop-x-test.true in let size = c.len-x-end.ensures in let whole = so.whole in search rules) in
    elim c.if-may_change.branch [
      | then-may_change w ↦ subst (AreSpared spared was (c.loop-x.x + 1)) (sym (w.self-is ∙ w.invalidate_at.ensures))
          (one_given_up spared was c.loop-x.x c.loop-x.self c.at.result (sym c.at.ensures) so inside (c.may_change.ensures.yes w.if-may_change.true))
      | else-may_change w ↦ subst (AreSpared spared was (c.loop-x.x + 1)) (sym w.self-is)
          (one_spared spared was c.loop-x.x c.loop-x.self c.at.result (sym c.at.ensures) so (c.may_change.ensures.no w.if-may_change.false))
    ]

pub returns-clause-levels : goal.returns-clause-levels
returns-clause-levels c x level =
    let was = c.args.self.now in
    let so = c.loop-x.invariant in
    let many : length c.self.inside.levels.items ≡ length was = ap length c.self.view_is in
    let whole : length c.loop-x.self ≤ c.loop-x.x = (let last = c.loop-x-test.false in let size = c.len-x-end.ensures in let same = so.whole in search rules) in
    (all_seen (AreSparing c.args.heights.now) was c.loop-x.x c.loop-x.self whole so x level, λ had. so.kept x level had.0 had.1)
