use Rattle.std.proofs.Common.{List, [], ◌∷◌, ◌++◌, ap, length, subst, sym, ◌∙◌, ◌≡◌, ◌<◌, ℕ}
use Rattle.flow_cache.proofs.Prelude.{FlowCache, Slot, slot_ranges}
use Rattle.flow_cache.proofs.Caches.FlowCaches.{covered_push, slot_before, slot_last}
use Rattle.flow_cache.proofs.flow_cache.FlowCache.push.Goals as goal

module _ (cache : FlowCache) (new : List Slot) (slot : Slot) (is : new ≡ cache.slots.items ++ slot ∷ []) where
  last : slot_ranges new (length cache.grid.tiles.corners) ≡ slot.ranges.items
  last = ap (λ (l : List Slot). slot_ranges l (length cache.grid.tiles.corners)) is ∙ (ap (slot_ranges (cache.slots.items ++ slot ∷ [])) (sym cache.same) ∙ slot_last cache.slots.items slot)

  others : (i : ℕ) → i < length cache.grid.tiles.corners → slot_ranges new i ≡ slot_ranges cache.slots.items i
  others i small = ap (λ (l : List Slot). slot_ranges l i) is ∙ slot_before cache.slots.items slot i (subst (λ l. i < l) (sym cache.same) small)

pub invariant_of-self-in-Ok-clause-covered : goal.invariant_of-self-in-Ok-clause-covered
invariant_of-self-in-Ok-clause-covered c =
    let s = c.args.self.now in
    let e = c.in-Ok.ensures in
    let slot : Slot = record { used = c.saturating_add-self.result; ranges = c.args.ranges } in
    covered_push s.grid.tiles c.push-2.new.self.tiles s.grid.flows.items c.args.flows.now c.push-2.new.self.flows.items s.slots.items c.push.new.self.items c.args.corner c.args.ranges.items e.side e.corners e.items s.grid.whole c.requires.whole
    (last s c.push.new.self.items slot c.in_ok-push.ensures.items) (others s c.push.new.self.items slot c.in_ok-push.ensures.items) c.requires.covers s.covered

pub returns-in-Ok-clause-slots : goal.returns-in-Ok-clause-slots
returns-in-Ok-clause-slots c =
    let s = c.args.self.now in
    let slot : Slot = record { used = c.saturating_add-self.result; ranges = c.args.ranges } in
    (last s c.push.new.self.items slot c.in_ok-push.ensures.items, others s c.push.new.self.items slot c.in_ok-push.ensures.items)
