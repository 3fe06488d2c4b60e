use Rattle.std.proofs.Common.{List, Option, sym, ap, ◌∙◌, subst, inl, inr, arith, ◌*◌, ◌+◌, ◌-◌, ◌<◌, ◌≤◌, ◌/◌, ◌%◌, ◌≡◌, length}
use Rattle.std.proofs.lemmas.Nat.{div-mul-add}
use Rattle.flow_cache.proofs.Prelude.{AreKnownAround, IsCovered, LevelRange, Slot, Tiles, cases_eq, set, slot_ranges, square_some}
use Rattle.flow_cache.proofs.Caches.FlowCaches.{slot_set_other, slot_set_same}
use Rattle.flow_cache.proofs.flow_cache.FlowCache.fill.Goals as goal

pub invariant_of-self-clause-covered : goal.invariant_of-self-clause-covered
invariant_of-self-clause-covered c k known =
    let s = c.args.self.now in
    let slot = c.args.slot in
    let new : Slot = record { used = c.saturating_add-self.result; ranges = c.args.ranges } in
    let n = s.grid.tiles.side in
    let area = n * n in
    let inside : slot < length s.slots.items = subst (λ l. slot < l) (sym s.same) c.requires.slot in
    subst (λ (t : Tiles). IsCovered t (set s.slots.items slot new) k) (sym c.fill.ensures.tiles) (elim (cases_eq (k / area) slot) [
      | inl at ↦
          subst (λ (r : List (Option LevelRange)). AreKnownAround r n (k % area)) (sym (ap (slot_ranges (set s.slots.items slot new)) at ∙ slot_set_same s.slots.items slot new inside))
          (c.requires.covers (k % area) (let some = square_some n (subst (λ k. 3 ≤ k) c.side.ensures c.area.ensures.low) in omega (arith, some)))
      | inr off ↦
          subst (λ (r : List (Option LevelRange)). AreKnownAround r n (k % area)) (sym (slot_set_other s.slots.items slot (k / area) new off))
          (s.covered k (λ nothing. known (c.fill.ensures.flows.others k (λ from to.
          let first : slot * c.area.result ≡ slot * area = ap (λ a. slot * a) (c.area.ensures.value ∙ ap (λ k. k * k) c.side.ensures) in
          let e = k - slot * area in
          let index : e < area = omega (arith, first, from, to, c.requires.whole) in
          let split : k ≡ slot * area + e = omega (arith, first, from) in
          off (ap (λ j. j / area) split ∙ div-mul-add slot area e index)) ∙ nothing)))
    ])

pub returns-clause-here : goal.returns-clause-here
returns-clause-here c =
    let s = c.args.self.now in
    slot_set_same s.slots.items c.args.slot (record { used = c.saturating_add-self.result; ranges = c.args.ranges }) (subst (λ l. c.args.slot < l) (sym s.same) c.requires.slot)

pub returns-clause-others : goal.returns-clause-others
returns-clause-others c i off = slot_set_other c.args.self.now.slots.items c.args.slot i (record { used = c.saturating_add-self.result; ranges = c.args.ranges }) off
