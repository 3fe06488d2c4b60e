use Rattle.flow_cache.proofs.Prelude.{arith, length, slot_ranges, subst, sym, ◌<◌, ◌≡◌}
use Rattle.flow_cache.proofs.Caches.FlowCaches.{covered_swap, slots_swap}
use Rattle.flow_d8.proofs.Samples.GridFacts.{grid_swap}
use Rattle.flow_cache.proofs.flow_cache.FlowCache.evict.Goals as goal

pub returns-clause-flows : goal.returns-clause-flows
returns-clause-flows c m right =
    let old = c.args.self.now.grid in
    let new = c.swap_remove.new.self in
    let slots = c.args.self.now.slots.items in
    let left = c.remove_slot.new.slots.items in
    let e = c.swap_remove.ensures in
    let r = c.remove_slot.ensures in
    let whole : length left ≡ length new.tiles.corners = omega (arith, r.count, e.count, c.args.self.now.same) in
    record {
      grid = grid_swap m old.tiles new.tiles old.flows.items new.flows.items c.args.slot e.side e.count e.moved e.kept e.flows right.grid;
      slots = slots_swap m old.tiles new.tiles slots left c.args.slot e.side e.count e.moved e.kept
          (λ small. subst (λ n. slot_ranges left c.args.slot ≡ slot_ranges slots n) whole (r.moved (subst (λ n. c.args.slot < n) (sym whole) small)))
          (λ i other small. r.kept i other (subst (λ n. i < n) (sym whole) small)) right.slots;
    }

pub invariant_of-self-clause-covered : goal.invariant_of-self-clause-covered
invariant_of-self-clause-covered c =
    let s = c.args.self.now in
    let new = c.swap_remove.new.self in
    let left = c.remove_slot.new.slots.items in
    let e = c.swap_remove.ensures in
    let r = c.remove_slot.ensures in
    let whole : length left ≡ length new.tiles.corners = omega (arith, r.count, e.count, s.same) in
    covered_swap s.grid.tiles new.tiles s.grid.flows.items new.flows.items s.slots.items left c.args.slot e.side e.items
    (λ small. subst (λ n. slot_ranges left c.args.slot ≡ slot_ranges s.slots.items n) whole (r.moved (subst (λ n. c.args.slot < n) (sym whole) small)))
    (λ i other small. r.kept i other (subst (λ n. i < n) (sym whole) small)) s.covered
