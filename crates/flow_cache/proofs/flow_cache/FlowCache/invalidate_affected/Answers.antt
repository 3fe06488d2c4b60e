use Rattle.std.proofs.Common.{ℕ, length, get_or, sym, ap, ◌∙◌, subst, inl, inr, arith, List, Option, None, rules, ◌+◌, ◌*◌, ◌/◌, ◌%◌, ◌<◌, ◌≡◌, true≢false}
use Rattle.std.proofs.lemmas.Nat.{div-mul-add, mod-mul-add}
use Rattle.flow_cache.proofs.Prelude.{AreSparedAround, Flow, FlowCache, IsAffected, IsByBlock, LevelRange, Slot, Tiles, Unknown, cases_eq, cases_lt, get_or_past, range_at, slot_ranges, spared_of, ℤ, square_some, row_below, of_z, to_z, w16}
use Rattle.flow_cache.specs.LevelRanges.{block_of}
use Rattle.flow_d8.proofs.Samples.Inside.{tile_and_index}
use Rattle.flow_d8.proofs.Sayings.Draining.{decide_known}
use Rattle.flow_cache.specs.FlowCaches.{AreInvalidatedBy}
use Rattle.flow_cache.proofs.Caches.Blocks.{as_passed, by_place, place_by}
use Rattle.flow_cache.proofs.Caches.FlowCaches.{slot_read}
use Rattle.flow_cache.proofs.flow_cache.FlowCache.invalidate_affected.Goals as goal
use Rattle.flow_cache.proofs.flow_cache.FlowCache.invalidate_affected.Goals.{then-is_affected, else-is_affected}

-- the loop's result after the first blocks
abbrev IsSoFar : ℤ → ℤ → ℕ → ℕ → List (Option LevelRange) → ℕ → List Flow → List Flow → Type 0
IsSoFar was is slot n ranges block start now = record {
  kept : (k : ℕ) → (k / (n * n) ≡ slot → AreSparedAround was is ranges n (k % (n * n))) → get_or now k Unknown ≡ get_or start k Unknown;
  gone : (b : ℕ) → b < block → IsAffected was is (range_at ranges b) → (e : ℕ) → e < n * n → IsByBlock n e b → get_or now (slot * (n * n) + e) Unknown ≡ Unknown;
  fewer : (k : ℕ) → (get_or now k Unknown ≡ Unknown → ⊥) → get_or now k Unknown ≡ get_or start k Unknown;
}

module _ (was is : ℤ) (slot n b : ℕ) (ranges : List (Option LevelRange)) (start mid now : List Flow) (so : IsSoFar was is slot n ranges b start mid) where
  one_block : IsAffected was is (range_at ranges b) → AreInvalidatedBy slot b n n mid now → IsSoFar was is slot n ranges (b + 1) start now
  one_block affected run = record {
    kept = λ k spared. run.others k (λ e small at by.
        let its_tile : k / (n * n) ≡ slot = ap (λ j. j / (n * n)) at ∙ div-mul-add slot (n * n) e small in
        let its_index : k % (n * n) ≡ e = ap (λ j. j % (n * n)) at ∙ mod-mul-add slot (n * n) e small in
        let around = subst (AreSparedAround was is ranges n) its_index (spared its_tile) in
        let (i, (j, (up, down, left_of, right_of, here))) = place_by n e b by in
        around i j up down left_of right_of (ap (λ c. spared_of was is (range_at ranges c)) here ∙ affected.1)) ∙ so.kept k spared;
    gone = λ a below affected_a e small by. elim (cases_eq a b) [
      | inl here ↦ run.gone e small (row_of e small) (subst (IsByBlock n e) here by)
      | inr other ↦ elim (decide_known (get_or now (slot * (n * n) + e) Unknown)) [
        | inl nothing ↦ nothing
        | inr known ↦ absurd (known (run.fewer (slot * (n * n) + e) known ∙ so.gone a (omega (arith, below, other)) affected_a e small by))
      ]
    ];
    fewer = λ k known. let before = run.fewer k known in before ∙ so.fewer k (λ nothing. known (before ∙ nothing));
  }
    where
      row_of : (e : ℕ) → e < n * n → e / n < n
      row_of e small = elim (cases_lt 0 n) [
        | inl some ↦ row_below n e some small
        | inr none ↦ let zero_is : n ≡ 0 = omega (arith, none) in let less : e < 0 * 0 = subst (λ m. e < m * m) zero_is small in absurd (omega (arith, less))
      ]

  no_block : (IsAffected was is (range_at ranges b) → ⊥) → IsSoFar was is slot n ranges (b + 1) start mid
  no_block not = record {
    kept = so.kept;
    gone = λ a below affected e small by. elim (cases_eq a b) [
      | inl here ↦ absurd (not (subst (λ c. IsAffected was is (range_at ranges c)) here affected))
      | inr other ↦ so.gone a (omega (arith, below, other)) affected e small by
    ];
    fewer = so.fewer;
  }

pub loop-block-preserved : goal.loop-block-preserved
loop-block-preserved c =
    let s = c.args.self.now in
    let mid = c.loop-block.self in
    let so = c.loop-block.invariant in
    let n = s.grid.tiles.side in
    let slot = c.args.slot in
    let b = c.loop-block.block in
    let ranges = slot_ranges s.slots.items slot in
    let was = to_z w16 (of_z w16 c.args.was) in
    let is = to_z w16 (of_z w16 c.args.is) in
    let far : IsSoFar was is slot n ranges b s.grid.flows.items mid.grid.flows.items = record { kept = so.kept; gone = so.gone; fewer = so.fewer } in
    elim c.if-is_affected.branch [
      | then-is_affected w ↦
          let new = w.invalidate_block.new.self in
          let run = w.invalidate_block.ensures in
          let flows = subst (λ (t : Tiles). AreInvalidatedBy slot b t.side t.side mid.grid.flows.items new.grid.flows.items) so.tiles run.flows in
          let affected = subst (λ (l : List Slot). IsAffected was is (range_at (slot_ranges l slot) b)) so.slots (c.is_affected.ensures.0 w.if-is_affected.true) in
          let now = one_block was is slot n b ranges s.grid.flows.items mid.grid.flows.items new.grid.flows.items far affected flows in
          let there = subst (λ (f : FlowCache). IsSoFar was is slot n ranges (b + 1) s.grid.flows.items f.grid.flows.items) (sym w.self-is) in
          record {
            tiles = ap (λ (f : FlowCache). f.grid.tiles) w.self-is ∙ (run.tiles ∙ so.tiles);
            slots = ap (λ (f : FlowCache). f.slots.items) w.self-is ∙ (run.slots ∙ so.slots);
            kept = (there now).kept;
            gone = (there now).gone;
            fewer = (there now).fewer;
          }
      | else-is_affected w ↦
          let not = λ (affected : IsAffected was is (range_at ranges b)). true≢false (sym (c.is_affected.ensures.1 (subst (λ (l : List Slot). IsAffected was is (range_at (slot_ranges l slot) b)) (sym so.slots) affected)) ∙ w.if-is_affected.false) in
          let now = no_block was is slot n b ranges s.grid.flows.items mid.grid.flows.items mid.grid.flows.items far not in
          let there = subst (λ (f : FlowCache). IsSoFar was is slot n ranges (b + 1) s.grid.flows.items f.grid.flows.items) (sym w.self-is) in
          record {
            tiles = ap (λ (f : FlowCache). f.grid.tiles) w.self-is ∙ so.tiles;
            slots = ap (λ (f : FlowCache). f.slots.items) w.self-is ∙ so.slots;
            kept = (there now).kept;
            gone = (there now).gone;
            fewer = (there now).fewer;
          }
    ]

pub returns-clause-gone : goal.returns-clause-gone
returns-clause-gone c k in_tile known i j up down left_of right_of none =
    let s = c.args.self.now in
    let n = s.grid.tiles.side in
    let area = n * n in
    let e = k % area in
    let slot = c.args.slot in
    let ranges = slot_ranges s.slots.items slot in
    let b = block_of i j in
    let so = c.loop-block.invariant in
    let valid = c.count-valid.ensures.valid in
    let some : 0 < n = omega (arith, valid.side_low) in
    let area_some = square_some n valid.side_low in
    let inside : e < area = omega (arith, area_some) in
    let before : get_or s.grid.flows.items k Unknown ≡ Unknown → ⊥ = λ nothing. known (so.fewer k known ∙ nothing) in
    let had : range_at ranges b ≡ None → ⊥ = subst (λ t. range_at (slot_ranges s.slots.items t) b ≡ None → ⊥) in_tile (s.covered k before i j up down left_of right_of) in
    let listed : b < length ranges = elim (cases_lt b (length ranges)) [
      | inl small ↦ small
      | inr past ↦ absurd (had (get_or_past ranges b None past))
    ] in
    let read : ranges ≡ c.index.result.now.ranges.items = slot_read s.slots.items slot c.index.result.now (subst (λ l. slot < l) (sym s.same) c.requires) c.index.ensures in
    let count : length ranges ≡ c.len-block-end.result = ap (λ (l : List (Option LevelRange)). length l) read ∙ omega (arith, c.index.result.now.ranges.ok.0, c.len-block-end.ensures) in
    let split : k ≡ slot * area + e = sym (ap (λ q. q * area + e) (sym in_tile) ∙ tile_and_index area k) in
    let affected = as_passed (λ was is. IsAffected was is (range_at ranges b) → get_or c.loop-block.self.grid.flows.items (slot * area + e) Unknown ≡ Unknown) c.args.was c.args.is (search rules) (search rules)
    (λ is_so. so.gone b (omega (arith, listed, count, c.loop-block-test.false)) is_so e inside (by_place n e i j some valid.side_high up down left_of right_of)) in
    known (ap (λ q. get_or c.loop-block.self.grid.flows.items q Unknown) split ∙ affected (had, none))

pub returns-clause-kept : goal.returns-clause-kept
returns-clause-kept c =
    let s = c.args.self.now in
    let area = s.grid.tiles.side * s.grid.tiles.side in
    as_passed (λ was is. (k : ℕ) → (k / area ≡ c.args.slot → AreSparedAround was is (slot_ranges s.slots.items c.args.slot) s.grid.tiles.side (k % area)) → get_or c.loop-block.self.grid.flows.items k Unknown ≡ get_or s.grid.flows.items k Unknown)
    c.args.was c.args.is (search rules) (search rules) c.loop-block.invariant.kept
