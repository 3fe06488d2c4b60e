use Rattle.std.proofs.Common.{refl}
use Rattle.flow_cache.proofs.Prelude.{Slot, set}
use Rattle.flow_cache.proofs.Caches.FlowCaches.{covered_still, slot_used}
use Rattle.flow_cache.proofs.flow_cache.FlowCache.touch.Goals as goal

pub invariant_of-self-clause-covered : goal.invariant_of-self-clause-covered
invariant_of-self-clause-covered c =
    let s = c.args.self.now in
    let read = c.index_mut.result.now in
    let new : Slot = record { used = c.saturating_add-self.result; ranges = read.ranges } in
    covered_still s.grid.tiles s.grid.flows.items s.grid.flows.items s.slots.items (set s.slots.items c.args.slot new) (λ k known. known) (slot_used s.slots.items c.args.slot read new c.requires c.index_mut.ensures.value refl) s.covered

pub returns-clause-ranges : goal.returns-clause-ranges
returns-clause-ranges c =
    let s = c.args.self.now in
    let read = c.index_mut.result.now in
    slot_used s.slots.items c.args.slot read (record { used = c.saturating_add-self.result; ranges = read.ranges }) c.requires c.index_mut.ensures.value refl
