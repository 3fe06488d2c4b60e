use Rattle.levels.proofs.Prelude.{Corner, IsTrue, KeepsSummary, List, ℕ, ap, length, rules, subst, sym, true≢false, ◌+◌, ◌<◌, ◌↔◌, ◌∙◌}
use Rattle.levels.proofs.Changes.Invalidated.{AreGivenUp, one_spared, one_given_up, all_given_up}
use Rattle.levels.proofs.rim_graph.RimGraph.note_changed.Goals as goal
use Rattle.levels.proofs.rim_graph.RimGraph.note_changed.Goals.{then-not-is_still, else-not-is_still}

pub loop-t-preserved : goal.loop-t-preserved
loop-t-preserved c =
    let was = c.args.self.now in
    let now = c.loop-t.self in
    let so = c.loop-t.invariant in
    let keeps = KeepsSummary was.side was.corners.items c.args.labellings.now.held.items c.args.height.now in
    let inside : c.loop-t.t < length now.loaded.items = (let below = c.loop-t-test.true in let size = c.len-t-end.ensures in let whole = so.given_up.whole in search rules) in
    let test : IsTrue c.is_still.result ↔ keeps c.loop-t.t =
    subst (λ (n : ℕ). IsTrue c.is_still.result ↔ KeepsSummary n was.corners.items c.args.labellings.now.held.items c.args.height.now c.loop-t.t) so.side
    (subst (λ (cs : List Corner). IsTrue c.is_still.result ↔ KeepsSummary now.side cs c.args.labellings.now.held.items c.args.height.now c.loop-t.t) so.corners c.is_still.ensures) in
    elim c.if-not-is_still.branch [
      | then-not-is_still w ↦ record {
        side = ap (λ s. s.side) w.self-is ∙ (w.invalidate.ensures.side ∙ so.side);
        corners = ap (λ s. s.corners.items) w.self-is ∙ (w.invalidate.ensures.corners ∙ so.corners);
        given_up = subst (AreGivenUp keeps was.loaded.items (c.loop-t.t + 1)) (sym (ap (λ s. s.loaded.items) w.self-is ∙ w.invalidate.ensures.loaded))
            (one_given_up keeps was.loaded.items c.loop-t.t now.loaded.items inside (λ stays. true≢false (sym (test.1 stays) ∙ w.if-not-is_still.true)) so.given_up);
      }
      | else-not-is_still w ↦ record {
        side = ap (λ s. s.side) w.self-is ∙ so.side;
        corners = ap (λ s. s.corners.items) w.self-is ∙ so.corners;
        given_up = subst (AreGivenUp keeps was.loaded.items (c.loop-t.t + 1)) (sym (ap (λ s. s.loaded.items) w.self-is))
            (one_spared keeps was.loaded.items c.loop-t.t now.loaded.items (test.0 w.if-not-is_still.false) so.given_up);
      }
    ]

pub returns-clause-loaded : goal.returns-clause-loaded
returns-clause-loaded c t ways =
    let was = c.args.self.now in
    all_given_up (KeepsSummary was.side was.corners.items c.args.labellings.now.held.items c.args.height.now) was.loaded.items c.loop-t.self.loaded.items c.loop-t.t
    (let last = c.loop-t-test.false in let size = c.len-t-end.ensures in let whole = c.loop-t.invariant.given_up.whole in search rules) c.loop-t.invariant.given_up t ways
