use Rattle.flow_d8.proofs.Prelude.{IfOk, IfSome, IsTrue, OnGround, Unknown, flow_of, subst, ◌≡◌}
use Rattle.flow_d8.proofs.grid.FlowGrid.search.Goals as goal

pub returns : goal.returns
returns c = record {
  met = subst (λ flows. IfOk c.search_known.result (λ met. IfSome met (λ p. (flow_of c.args.self.now.tiles flows p ≡ Unknown) × OnGround c.args.self.now.tiles flows (λ t level. IsTrue (t.is_ground p))))) c.deref.ensures.value c.search_known.ensures.met;
}
