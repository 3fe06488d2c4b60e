use Rattle.std.proofs.Common.{ℕ, length, get_or, sym, ap, ◌∙◌, subst, inl, inr, List, Option, rules, ◌*◌, ◌/◌, ◌%◌, ◌<◌, ◌≡◌, ◌≢◌}
use Rattle.std.specs.Vec.{with_items}
use Rattle.std.proofs.lemmas.List.{with_items_is}
use Rattle.flow_cache.proofs.Prelude.{AreCovered, AreKnownAround, AreSpared, AreSparedAround, FlowCache, IsAffected, IsCovered, LevelRange, Slot, Tiles, Unknown, cases_eq, of_z, range_at, set, slot_ranges, to_z, w16, ℤ}
use Rattle.flow_cache.proofs.Caches.Blocks.{all_spared, as_passed, known_around, spared_around}
use Rattle.flow_cache.proofs.Caches.FlowCaches.{slot_read, slot_set_other, slot_set_same}
use Rattle.flow_cache.proofs.flow_cache.FlowCache.retain_spared_in.Goals as goal

-- after the ranges of one slot are dropped, the slot's known flows are covered if those near dropped ranges were invalidated
module _ (old mid : FlowCache) (slot : ℕ) (was is : ℤ) (left : List (Option LevelRange)) (new : Slot) (below : slot < length mid.slots.items) (tiles : mid.grid.tiles ≡ old.grid.tiles) (slots : mid.slots.items ≡ old.slots.items)
    (items : new.ranges.items ≡ left) (spared : AreSpared was is (slot_ranges mid.slots.items slot) left) where
  abbrev n : ℕ
  n = old.grid.tiles.side

  abbrev ranges : List (Option LevelRange)
  ranges = slot_ranges old.slots.items slot

  abbrev after : List Slot
  after = set mid.slots.items slot new

  pub here : AreSpared was is ranges (slot_ranges after slot)
  here = subst (AreSpared was is ranges) (sym (slot_set_same mid.slots.items slot new below ∙ items)) (subst (λ (l : List Slot). AreSpared was is (slot_ranges l slot) left) slots spared)

  pub others : (i : ℕ) → i ≢ slot → slot_ranges after i ≡ slot_ranges old.slots.items i
  others i off = slot_set_other mid.slots.items slot i new off ∙ ap (λ (l : List Slot). slot_ranges l i) slots

  pub covered : ((k : ℕ) → k / (n * n) ≡ slot → (get_or mid.grid.flows.items k Unknown ≡ Unknown → ⊥) → AreSparedAround was is ranges n (k % (n * n))) → AreCovered mid.grid.tiles mid.grid.flows.items after
  covered gone k known = subst (λ (t : Tiles). IsCovered t after k) (sym tiles) (elim (cases_eq (k / (n * n)) slot) [
    | inl at ↦ subst (λ i. AreKnownAround (slot_ranges after i) n (k % (n * n))) (sym at) (known_around was is ranges (slot_ranges after slot) n (k % (n * n)) here (gone k at known))
    | inr off ↦ subst (λ (r : List (Option LevelRange)). AreKnownAround r n (k % (n * n))) (sym (others (k / (n * n)) off))
        (subst (λ (l : List Slot). AreKnownAround (slot_ranges l (k / (n * n))) n (k % (n * n))) slots (subst (λ (t : Tiles). IsCovered t mid.slots.items k) tiles (mid.covered k known)))
  ])

  pub kept : ((k : ℕ) → (k / (n * n) ≡ slot → AreSparedAround was is ranges n (k % (n * n))) → get_or mid.grid.flows.items k Unknown ≡ get_or old.grid.flows.items k Unknown)
      → (k : ℕ) → IsCovered mid.grid.tiles after k → get_or mid.grid.flows.items k Unknown ≡ get_or old.grid.flows.items k Unknown
  kept stay k known = stay k (λ at. spared_around was is ranges (slot_ranges after slot) n (k % (n * n)) here
      (subst (λ i. AreKnownAround (slot_ranges after i) n (k % (n * n))) at (subst (λ (t : Tiles). IsCovered t after k) tiles known)))

pub invariant_of-self-clause-covered : goal.invariant_of-self-clause-covered
invariant_of-self-clause-covered c =
    let read = c.index_mut.result.now in
    let new : Slot = record { used = read.used; ranges = with_items read.ranges c.retain_spared.new.ranges } in
    let mid = c.invalidate_affected.new.self in
    let e = c.invalidate_affected.ensures in
    let below : c.args.slot < length mid.slots.items = subst (λ (l : List Slot). c.args.slot < length l) (sym e.slots) (subst (λ l. c.args.slot < l) (sym c.args.self.now.same) c.requires) in
    let was : slot_ranges mid.slots.items c.args.slot ≡ c.deref_mut.result.now = slot_read mid.slots.items c.args.slot read below c.index_mut.ensures.value ∙ sym c.deref_mut.ensures.value in
    covered c.args.self.now mid c.args.slot (to_z w16 (of_z w16 c.args.was)) (to_z w16 (of_z w16 c.args.is)) c.retain_spared.new.ranges new below e.tiles e.slots
    (with_items_is read.ranges c.retain_spared.new.ranges (c.retain_spared.ensures.whole ∙ c.deref_mut.ensures.len))
    (subst (λ (l : List (Option LevelRange)). AreSpared (to_z w16 (of_z w16 c.args.was)) (to_z w16 (of_z w16 c.args.is)) l c.retain_spared.new.ranges) (sym was) c.retain_spared.ensures) e.gone

pub returns-then-not-has_affected-clause-here : goal.returns-then-not-has_affected-clause-here
returns-then-not-has_affected-clause-here c =
    let s = c.args.self.now in
    let slot = c.args.slot in
    let below : slot < length s.slots.items = subst (λ l. slot < l) (sym s.same) c.requires in
    let read : slot_ranges s.slots.items slot ≡ c.deref.result.now = slot_read s.slots.items slot c.index.result.now below c.index.ensures ∙ sym c.deref.ensures.value in
    as_passed (λ u v. AreSpared u v (slot_ranges s.slots.items slot) (slot_ranges s.slots.items slot)) c.args.was c.args.is (search rules) (search rules)
    (all_spared (to_z w16 (of_z w16 c.args.was)) (to_z w16 (of_z w16 c.args.is)) (slot_ranges s.slots.items slot)
    (subst (λ (l : List (Option LevelRange)). (b : ℕ) → IsAffected (to_z w16 (of_z w16 c.args.was)) (to_z w16 (of_z w16 c.args.is)) (range_at l b) → ⊥) (sym read) (c.has_affected.ensures c.if-not-has_affected.true)))

pub returns-clause-here : goal.returns-clause-here
returns-clause-here c =
    let read = c.index_mut.result.now in
    let new : Slot = record { used = read.used; ranges = with_items read.ranges c.retain_spared.new.ranges } in
    let mid = c.invalidate_affected.new.self in
    let e = c.invalidate_affected.ensures in
    let below : c.args.slot < length mid.slots.items = subst (λ (l : List Slot). c.args.slot < length l) (sym e.slots) (subst (λ l. c.args.slot < l) (sym c.args.self.now.same) c.requires) in
    let was : slot_ranges mid.slots.items c.args.slot ≡ c.deref_mut.result.now = slot_read mid.slots.items c.args.slot read below c.index_mut.ensures.value ∙ sym c.deref_mut.ensures.value in
    as_passed (λ u v. AreSpared u v (slot_ranges c.args.self.now.slots.items c.args.slot) (slot_ranges (set mid.slots.items c.args.slot new) c.args.slot)) c.args.was c.args.is (search rules) (search rules)
    (here c.args.self.now mid c.args.slot (to_z w16 (of_z w16 c.args.was)) (to_z w16 (of_z w16 c.args.is)) c.retain_spared.new.ranges new below e.tiles e.slots
    (with_items_is read.ranges c.retain_spared.new.ranges (c.retain_spared.ensures.whole ∙ c.deref_mut.ensures.len))
    (subst (λ (l : List (Option LevelRange)). AreSpared (to_z w16 (of_z w16 c.args.was)) (to_z w16 (of_z w16 c.args.is)) l c.retain_spared.new.ranges) (sym was) c.retain_spared.ensures))

pub returns-clause-others : goal.returns-clause-others
returns-clause-others c i off =
    let read = c.index_mut.result.now in
    slot_set_other c.invalidate_affected.new.self.slots.items c.args.slot i (record { used = read.used; ranges = with_items read.ranges c.retain_spared.new.ranges }) off ∙ ap (λ (l : List Slot). slot_ranges l i) c.invalidate_affected.ensures.slots

pub returns-clause-kept : goal.returns-clause-kept
returns-clause-kept c =
    let read = c.index_mut.result.now in
    let new : Slot = record { used = read.used; ranges = with_items read.ranges c.retain_spared.new.ranges } in
    let mid = c.invalidate_affected.new.self in
    let e = c.invalidate_affected.ensures in
    let below : c.args.slot < length mid.slots.items = subst (λ (l : List Slot). c.args.slot < length l) (sym e.slots) (subst (λ l. c.args.slot < l) (sym c.args.self.now.same) c.requires) in
    let was : slot_ranges mid.slots.items c.args.slot ≡ c.deref_mut.result.now = slot_read mid.slots.items c.args.slot read below c.index_mut.ensures.value ∙ sym c.deref_mut.ensures.value in
    kept c.args.self.now mid c.args.slot (to_z w16 (of_z w16 c.args.was)) (to_z w16 (of_z w16 c.args.is)) c.retain_spared.new.ranges new below e.tiles e.slots
    (with_items_is read.ranges c.retain_spared.new.ranges (c.retain_spared.ensures.whole ∙ c.deref_mut.ensures.len))
    (subst (λ (l : List (Option LevelRange)). AreSpared (to_z w16 (of_z w16 c.args.was)) (to_z w16 (of_z w16 c.args.is)) l c.retain_spared.new.ranges) (sym was) c.retain_spared.ensures) e.kept
