use Rattle.border_graph.proofs.Prelude.{ap, arith, corner_at, get_or_default, of_z, refl, rim_point, rules, subst, sym, to_z, w16, ◌∙◌, ◌≡◌}
use Rattle.border_graph.specs.Others.{IsOtherNode}
use Rattle.border_graph.proofs.Forests.Others.{all_added, none_added, one_added, one_more_added}
use Rattle.border_graph.proofs.seams.edges_to_others.Goals as goal
use Rattle.border_graph.proofs.seams.edges_to_others.Goals.{in-Some+in_ok-add, in_default}

pub loop-corner-preserved : goal.loop-corner-preserved
loop-corner-preserved c =
    let is_node = IsOtherNode c.side-side.result c.args.corners.now c.args.t c.point_at-point.result c.corner-item.result in
    elim c.match-branch-2.branch [
      | in-Some+in_ok-add w ↦ rw w.into-is (one_more_added _ _ _ _ _ _ _ _ _ _ _ c.loop-corner-test.true c.corner-item.is c.loop-corner.invariant
          (one_added _ _ _ _ _ _ w.in-Some.to _ _ _ refl w.in_ok-add.ensures (subst is_node w.in-Some.is c.in_ok-to.ensures.node)))
      | in_default w ↦ rw w.into-is (one_more_added _ _ _ _ _ _ _ _ _ _ _ c.loop-corner-test.true c.corner-item.is c.loop-corner.invariant
          (none_added _ _ _ _ _ _ _ (subst is_node w.in_default.is c.in_ok-to.ensures.node)))
    ]

pub returns-clause-edges : goal.returns-clause-edges
returns-clause-edges c =
    let height : to_z w16 (of_z w16 c.height-height.result) ≡ (rim_point c.args.graph.now.summary c.args.k).height = search rules in
    let corner : c.index-corners-t.result ≡ corner_at c.args.corners.now c.args.t = c.index-corners-t.is ∙ get_or_default c.args.corners.now c.args.t c.index-corners-t.result _ c.requires.place in
    rw (sym c.side-side.ensures) (record {
      index = c.rim_index.result;
      rim = c.rim_index.ensures;
      nothing = λ gap. absurd (c.if-height.false (ap (of_z w16) (c.height-height.ensures ∙ gap)));
      others = λ full. rw (sym height) (rw (sym corner) (rw (sym c.point_at-point.ensures.value) (all_added _ _ _ _ _ c.as_slice-corner-items.result.now c.loop-corner.corner-index _ _ (let done = c.loop-corner-test.false in omega arith)
          (λ holder held. rw c.as_slice-corner-items.ensures.value ((c.holders-holding.ensures.exactly holder).1 held)) c.loop-corner.invariant)));
    })
