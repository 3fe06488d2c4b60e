use Rattle.std.proofs.Common.{◌≡◌, false, subst, map, heap_items, is_lt}
use Rattle.border_graph.specs.Heaps.{IsTaken}
use Rattle.border_graph.proofs.Heaps.{taken_from_heap}
use Rattle.border_graph.proofs.lowest_first.LowestFirst.pop.Goals as goal

pub returns-clause-taken : goal.returns-clause-taken
returns-clause-taken g c = subst (λ old. IsTaken (λ x y. is_lt (g.T.Ord.cmp y x) ≡ false) old (map (λ r. r.0) (heap_items c.pop.new.self)) c.in_ok-item.field-0.0) c.self.view_is
    (taken_from_heap (λ x y. is_lt (g.T.Ord.cmp y x) ≡ false) (heap_items c.self.inside.items) (heap_items c.pop.new.self) _ c.in_ok-item.ensures.permutation (c.in_ok-item.ensures.heap_order c.self.invariant).1)
