use Rattle.std.proofs.Common.{pos, refl, sym, ◌∙◌}
use Rattle.border_graph.proofs.SearchSteps.{raised_none, raised_one}
use Rattle.border_graph.proofs.bottleneck.push_all.Goals as goal
use Rattle.border_graph.proofs.bottleneck.push_all.Goals.{then-not-contains+in_ok-push, else-not-contains}

pub loop-edge-preserved : goal.loop-edge-preserved
loop-edge-preserved c = elim c.if-not-contains.branch [
  | then-not-contains+in_ok-push w ↦ rw w.frontier-is (raised_one c.args.found.now c.loop-edge.edge-index c.args.entry c.args.visited.now c.args.frontier.now c.loop-edge.frontier (record { level = pos 0; to = 0 }) _
      c.loop-edge.invariant c.loop-edge-test.true refl w.push.new.self w.raised.result w.raised.ensures w.in_ok-push.ensures.added)
  | else-not-contains w ↦ rw w.frontier-is (raised_none c.args.found.now c.loop-edge.edge-index c.args.entry c.args.visited.now c.args.frontier.now c.loop-edge.frontier (record { level = pos 0; to = 0 }) _
      c.loop-edge.invariant c.loop-edge-test.true refl (sym c.contains.ensures ∙ w.if-not-contains.false))
]
