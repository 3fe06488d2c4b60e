use Rattle.border_graph.proofs.Prelude.{IsNonDecreasingBy-from_sort_by_key, Spill, rules}
use Rattle.border_graph.proofs.summary.Summary.in_order.Goals as goal

pub returns-clause-in_order : goal.returns-clause-in_order
returns-clause-in_order c = IsNonDecreasingBy-from_sort_by_key (λ (s : Spill). s.a) _ c.in_ok-sort_by_key.ensures.sorted (λ a r q k. search rules)
