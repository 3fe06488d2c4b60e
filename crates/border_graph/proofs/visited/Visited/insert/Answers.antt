use Rattle.border_graph.proofs.Prelude.{cond, is_among, subst, true, ◌==◌, ◌≡◌}
use Rattle.border_graph.proofs.visited.Visited.insert.Goals as goal

pub returns-clause-visited : goal.returns-clause-visited
returns-clause-visited c x = subst (λ nodes. is_among c.insert.new.self.keys x ≡ cond (c.args.node == x) true (is_among nodes x)) c.self.view_is (c.in_ok-fresh.ensures.updates.0 x)
