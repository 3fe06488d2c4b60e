use Rattle.levels.proofs.Prelude.{Corner, List, ℕ, ap, ap₂, both_ways, false, is_reached, length, rules, subst, sym, ◌+◌, ◌<◌, ◌∙◌, ◌≡◌}
use Rattle.levels.proofs.Changes.Invalidated.{AreGivenUp, one_spared, one_given_up, all_given_up}
use Rattle.levels.proofs.rim_graph.RimGraph.invalidate_between.Goals as goal
use Rattle.levels.proofs.rim_graph.RimGraph.invalidate_between.Goals.{then-is_reached, else-is_reached}

pub loop-t-preserved : goal.loop-t-preserved
loop-t-preserved c =
    let was = c.args.self.now in
    let now = c.loop-t.self in
    let so = c.loop-t.invariant in
    let gone = is_reached was.side was.corners.items c.args.from c.args.to in
    let stays = λ (u : ℕ). gone u ≡ false in
    let inside : c.loop-t.t < length now.loaded.items = (let below = c.loop-t-test.true in let size = c.len-t-end.ensures in let whole = so.given_up.whole in search rules) in
    let test : gone c.loop-t.t ≡ c.is_reached.result =
    ap₂ (λ (n : ℕ) (cs : List Corner). is_reached n cs c.args.from c.args.to c.loop-t.t) (sym so.side) (sym so.corners ∙ sym c.deref.ensures.value) ∙ sym c.is_reached.ensures in
    elim c.if-is_reached.branch [
      | then-is_reached w ↦ record {
        side = ap (λ s. s.side) w.self-is ∙ (w.invalidate.ensures.side ∙ so.side);
        corners = ap (λ s. s.corners.items) w.self-is ∙ (w.invalidate.ensures.corners ∙ so.corners);
        given_up = subst (AreGivenUp stays was.loaded.items (c.loop-t.t + 1)) (sym (ap (λ s. s.loaded.items) w.self-is ∙ w.invalidate.ensures.loaded))
            (one_given_up stays was.loaded.items c.loop-t.t now.loaded.items inside (λ out. both_ways (gone c.loop-t.t) out (test ∙ w.if-is_reached.true)) so.given_up);
      }
      | else-is_reached w ↦ record {
        side = ap (λ s. s.side) w.self-is ∙ so.side;
        corners = ap (λ s. s.corners.items) w.self-is ∙ so.corners;
        given_up = subst (AreGivenUp stays was.loaded.items (c.loop-t.t + 1)) (sym (ap (λ s. s.loaded.items) w.self-is))
            (one_spared stays was.loaded.items c.loop-t.t now.loaded.items (test ∙ w.if-is_reached.false) so.given_up);
      }
    ]

pub returns-clause-loaded : goal.returns-clause-loaded
returns-clause-loaded c t ways =
    let was = c.args.self.now in
    all_given_up (λ (u : ℕ). is_reached was.side was.corners.items c.args.from c.args.to u ≡ false) was.loaded.items c.loop-t.self.loaded.items c.loop-t.t
    (let last = c.loop-t-test.false in let size = c.len-t-end.ensures in let whole = c.loop-t.invariant.given_up.whole in search rules) c.loop-t.invariant.given_up t ways
