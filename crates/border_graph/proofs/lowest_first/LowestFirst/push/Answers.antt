use Rattle.border_graph.proofs.Prelude.{IsAdded, heap_items, map, subst}
use Rattle.border_graph.proofs.Heaps.{added_to_heap}
use Rattle.border_graph.proofs.lowest_first.LowestFirst.push.Goals as goal

pub returns-clause-added : goal.returns-clause-added
returns-clause-added g c = subst (λ old. IsAdded old (map (λ r. r.0) (heap_items c.push.new.self)) c.args.item) c.self.view_is
    (added_to_heap (heap_items c.self.inside.items) (heap_items c.push.new.self) _ c.in_ok-push.ensures.permutation)
