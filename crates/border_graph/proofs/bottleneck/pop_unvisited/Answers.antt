use Rattle.border_graph.proofs.Prelude.{is_among, sym, ◌∙◌}
use Rattle.border_graph.proofs.HeapOrders.{lowest_entry}
use Rattle.border_graph.proofs.Forests.Next.{not_taken, was_taken, is_next, same_taken, others_still}
use Rattle.border_graph.proofs.bottleneck.pop_unvisited.Goals as goal

pub returns-then-branch-clause-next : goal.returns-then-branch-clause-next
returns-then-branch-clause-next c =
    is_next c.args.frontier.now c.args.visited.now c.loop-entry.frontier c.loop-entry.visited c.loop-entry.invariant.visited c.loop-entry.invariant.others c.loop-entry.invariant.only
    c.pop.new.self c.insert.new.self c.in-Some.entry (lowest_entry c.loop-entry.frontier c.pop.new.self c.in-Some.entry c.in-Some.ensures.taken) c.in_ok-insert.ensures.visited
    (not_taken (is_among c.loop-entry.visited c.in-Some.entry.node) (sym c.if-branch.true ∙ c.in_ok-insert.ensures.fresh))

pub loop-entry-preserved : goal.loop-entry-preserved
loop-entry-preserved c =
    let full = was_taken (is_among c.loop-entry.visited c.in-Some.entry.node) (sym c.if-branch.false ∙ c.in_ok-insert.ensures.fresh) in
    record {
      visited = same_taken c.args.frontier.now c.args.visited.now c.loop-entry.frontier c.loop-entry.visited c.loop-entry.invariant.visited c.loop-entry.invariant.others c.loop-entry.invariant.only
          c.pop.new.self c.insert.new.self c.in-Some.entry (lowest_entry c.loop-entry.frontier c.pop.new.self c.in-Some.entry c.in-Some.ensures.taken) c.in_ok-insert.ensures.visited full;
      others = others_still c.args.frontier.now c.args.visited.now c.loop-entry.frontier c.loop-entry.visited c.loop-entry.invariant.visited c.loop-entry.invariant.others c.loop-entry.invariant.only
          c.pop.new.self c.insert.new.self c.in-Some.entry (lowest_entry c.loop-entry.frontier c.pop.new.self c.in-Some.entry c.in-Some.ensures.taken) c.in_ok-insert.ensures.visited full;
      only = λ s has. c.loop-entry.invariant.only s (c.in-Some.ensures.taken.only s has);
    }
