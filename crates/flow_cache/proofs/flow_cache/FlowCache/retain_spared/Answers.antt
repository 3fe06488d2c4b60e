use Rattle.std.proofs.Common.{ℕ, refl, sym, ◌∙◌, subst, inl, inr, arith, List, Option, [], rules, ◌*◌, ◌/◌, ◌%◌, ◌≡◌, ◌≢◌}
use Rattle.flow_cache.proofs.Prelude.{AreKnownAround, AreSpared, FlowCache, IsCovered, IsSparedFrom, LevelRange, Tiles, cases_eq, cases_lt, of_z, slot_ranges, to_z, w16, ℤ}
use Rattle.flow_cache.proofs.Caches.Blocks.{as_passed, known_before}
use Rattle.flow_cache.proofs.Caches.FlowCaches.{slot_past}
use Rattle.flow_cache.proofs.flow_cache.FlowCache.retain_spared.Goals as goal

-- a sample that is covered after the change was covered before it
covered_before : (was is : ℤ) (mid new : FlowCache) (slot k : ℕ) → new.grid.tiles ≡ mid.grid.tiles → AreSpared was is (slot_ranges mid.slots.items slot) (slot_ranges new.slots.items slot)
    → ((i : ℕ) → i ≢ slot → slot_ranges new.slots.items i ≡ slot_ranges mid.slots.items i) → IsCovered new.grid.tiles new.slots.items k → IsCovered mid.grid.tiles mid.slots.items k
covered_before was is mid new slot k tiles here others covered =
    let n = mid.grid.tiles.side in
    let e = k % (n * n) in
    let i = k / (n * n) in
    let now = subst (λ (t : Tiles). IsCovered t new.slots.items k) tiles covered in
    elim (cases_eq i slot) [
      | inl at ↦ subst (λ j. AreKnownAround (slot_ranges mid.slots.items j) n e) (sym at) (known_before was is (slot_ranges mid.slots.items slot) (slot_ranges new.slots.items slot) n e here (subst (λ j. AreKnownAround (slot_ranges new.slots.items j) n e) at now))
      | inr off ↦ subst (λ (r : List (Option LevelRange)). AreKnownAround r n e) (others i off) now
    ]

pub loop-slot-preserved : goal.loop-slot-preserved
loop-slot-preserved c =
    let so = c.loop-slot.invariant in
    let e = c.retain_spared_in.ensures in
    let slot = c.loop-slot.slot in
    let mid = c.loop-slot.self in
    let new = c.retain_spared_in.new.self in
    let start = c.args.self.now.slots.items in
    let was = to_z w16 (of_z w16 c.args.was) in
    let is = to_z w16 (of_z w16 c.args.is) in
    record {
      tiles = e.tiles ∙ so.tiles;
      whole = e.whole ∙ so.whole;
      done = λ i below. elim (cases_eq i slot) [
        | inl at ↦ subst (λ j. AreSpared was is (slot_ranges start j) (slot_ranges new.slots.items j)) (sym at) (subst (λ (r : List (Option LevelRange)). AreSpared was is r (slot_ranges new.slots.items slot)) (so.rest slot (omega arith)) e.here)
        | inr off ↦ subst (AreSpared was is (slot_ranges start i)) (sym (e.others i off)) (so.done i (omega (arith, below, off)))
      ];
      rest = λ i past. e.others i (λ at. absurd (omega (arith, past, at))) ∙ so.rest i (omega (arith, past));
      kept = λ k covered. e.kept k covered ∙ so.kept k (covered_before was is mid new slot k e.tiles e.here e.others covered);
    }

pub returns : goal.returns
returns c =
    let so = c.loop-slot.invariant in
    let start = c.args.self.now.slots.items in
    let now = c.loop-slot.self.slots.items in
    as_passed (λ was is. IsSparedFrom was is c.args.self.now c.loop-slot.self) c.args.was c.args.is (search rules) (search rules) (record {
      tiles = so.tiles;
      slots = record {
        whole = so.whole;
        each = λ i. elim (cases_lt i c.loop-slot.slot) [
          | inl below ↦ so.done i below
          | inr past ↦
              let none : slot_ranges start i ≡ [] = slot_past start i (omega (arith, past, c.loop-slot-test.false, c.len-slot-end.ensures)) in
              subst (λ (l : List (Option LevelRange)). AreSpared (to_z w16 (of_z w16 c.args.was)) (to_z w16 (of_z w16 c.args.is)) l (slot_ranges now i)) (sym none)
              (subst (AreSpared (to_z w16 (of_z w16 c.args.was)) (to_z w16 (of_z w16 c.args.is)) []) (sym (so.rest i past ∙ none)) (record { whole = refl; each = λ b. refl }))
        ];
      };
      kept = so.kept;
    })
