use Rattle.std.proofs.Common.{ℕ, length, get_or, refl, sym, ap, ap₂, ◌∙◌, subst, inl, inr, arith, List, ◌+◌, ◌*◌, ◌-◌, ◌/◌, ◌%◌, ◌<◌, ◌≤◌, ◌≡◌}
use Rattle.std.proofs.lemmas.Grind.{rows}
use Rattle.flow_cache.proofs.Prelude.{Flow, Unknown, cases_eq, mul-le-mul_right, row_below}
use Rattle.flow_d8.proofs.Samples.Inside.{tile_and_index}
use Rattle.flow_d8.proofs.Sayings.Draining.{decide_known}
use Rattle.flow_d8.specs.FlowGrids.{AreInvalidated}
use Rattle.flow_cache.specs.FlowCaches.{AreInvalidatedBy}
use Rattle.flow_cache.specs.LevelRanges.{IsByRow}
use Rattle.std.proofs.lemmas.Nat.{div-mul-add, mod-mul-add}
use Rattle.flow_cache.proofs.flow_cache.FlowCache.invalidate_block.Goals as goal

one_more : (l a : ℕ) → (l + 1) * a ≡ l * a + a
one_more l a = grind (arith, rows)

-- a tile's row ends inside the tile, and so within the cached flows
row_inside : (slot tiles n r : ℕ) → slot < tiles → r < n → slot * (n * n) + r * n + n ≤ tiles * (n * n)
row_inside slot tiles n r in_tiles in_rows =
    let row : (r + 1) * n ≤ n * n = mul-le-mul_right n (let z = in_rows in omega arith) in
    let tile : (slot + 1) * (n * n) ≤ tiles * (n * n) = mul-le-mul_right (n * n) (let z = in_tiles in omega arith) in
    omega (arith, row, tile, one_more r n, one_more slot (n * n))

-- the samples of one more row that are invalidated
module _ (slot b n r from to : ℕ) (start mid new : List Flow) (row : r < n) (end : to ≤ n) (order : from ≤ to) (by : IsByRow r (b / 128))
    (all : (c : ℕ) → c < n → IsByRow c (b % 128) → (from ≤ c) × (c < to)) (only : (c : ℕ) → from ≤ c → c < to → IsByRow c (b % 128)) (run : AreInvalidated (slot * (n * n) + r * n + from) (to - from) mid new) where
  at_column : (e : ℕ) → e / n ≡ r → slot * (n * n) + e ≡ slot * (n * n) + r * n + e % n
  at_column e here = let split = tile_and_index n e in let same = ap (λ q. q * n + e % n) here in omega (arith, split, same)

  known_before : (k : ℕ) → (get_or new k Unknown ≡ Unknown → ⊥) → get_or new k Unknown ≡ get_or mid k Unknown
  known_before k known = run.others k (λ low high. known (run.run k low high))

  pub one_row : AreInvalidatedBy slot b n r start mid → AreInvalidatedBy slot b n (r + 1) start new
  one_row so = record {
    whole = run.whole ∙ so.whole;
    gone = λ e small below by_block. elim (cases_eq (e / n) r) [
      | inl here ↦
          let column : e % n < n = omega (arith, row) in
          let within = all (e % n) column by_block.1 in
          run.run (slot * (n * n) + e) (omega (arith, at_column e here, within.0)) (omega (arith, at_column e here, within.1, order))
      | inr off ↦ elim (decide_known (get_or new (slot * (n * n) + e) Unknown)) [
        | inl nothing ↦ nothing
        | inr known ↦ absurd (known (known_before (slot * (n * n) + e) known ∙ so.gone e small (omega (arith, below, off)) by_block))
      ]
    ];
    others = λ k off. run.others k (λ low high.
        let first = slot * (n * n) + r * n in
        let column = k - first in
        let inside : column < n = omega (arith, low, high, end, order) in
        let e = r * n + column in
        let its_row : e / n ≡ r = div-mul-add r n column inside in
        let its_column : e % n ≡ column = mod-mul-add r n column inside in
        let rows_fit : (r + 1) * n ≤ n * n = mul-le-mul_right n (let z = row in omega arith) in
        off e (omega (arith, rows_fit, one_more r n, inside)) (omega (arith, low)) (subst (λ q. IsByRow q (b / 128)) (sym its_row) by, subst (λ q. IsByRow q (b % 128)) (sym its_column) (only column (omega (arith, low)) (omega (arith, low, high, order))))) ∙ so.others k off;
    fewer = λ k known. let before = known_before k known in before ∙ so.fewer k (λ nothing. known (before ∙ nothing));
  }

pub loop-row-init : goal.loop-row-init
loop-row-init c =
    let n = c.args.self.now.grid.tiles.side in
    let n_is : c.samples-n.result ≡ n = c.samples-n.ensures.value ∙ c.side-side.ensures in
    record {
      tiles = refl;
      slots = refl;
      flows = record {
        whole = refl;
        gone = λ e small before by.
            let row : e / n < n = row_below n e (let z = c.samples-n.ensures.low in omega (arith, z, n_is)) small in
            let all = (c.samples_by-rows.ensures.all (e / n) (subst (λ s. e / n < s) (sym c.side-side.ensures) row)).1 by.0 in
            absurd (omega (arith, all.0, before));
        others = λ k off. refl;
        fewer = λ k known. refl;
      };
    }

pub invalidate-requires : goal.invalidate-requires
invalidate-requires c =
    let s = c.args.self.now in
    let n = s.grid.tiles.side in
    let slot = c.args.slot in
    let r = c.loop-row.row in
    let n_is : c.samples-n.result ≡ n = c.samples-n.ensures.value ∙ c.side-side.ensures in
    let a_is : c.area.result ≡ n * n = c.area.ensures.value ∙ ap (λ k. k * k) c.side-side.ensures in
    let at : slot * c.area.result + r * c.samples-n.result ≡ slot * (n * n) + r * n = ap₂ (λ x y. slot * x + r * y) a_is n_is in
    let inside = row_inside slot (length s.grid.tiles.corners) n r c.requires (omega (arith, c.loop-row-test.true, c.samples_by-rows.ensures.small, c.side-side.ensures)) in
    let len : length c.loop-row.self.grid.flows.items ≡ length s.grid.tiles.corners * (n * n) = c.loop-row.invariant.flows.whole ∙ s.grid.whole in
    omega (arith, at, inside, len, c.samples_by-columns.ensures.order, c.samples_by-columns.ensures.small, c.side-side.ensures)

pub loop-row-preserved : goal.loop-row-preserved
loop-row-preserved c =
    let s = c.args.self.now in
    let n = s.grid.tiles.side in
    let slot = c.args.slot in
    let b = c.args.block in
    let r = c.loop-row.row in
    let so = c.loop-row.invariant in
    let side = c.side-side.ensures in
    let rows_by = c.samples_by-rows.ensures in
    let columns_by = c.samples_by-columns.ensures in
    let n_is : c.samples-n.result ≡ n = c.samples-n.ensures.value ∙ side in
    let a_is : c.area.result ≡ n * n = c.area.ensures.value ∙ ap (λ k. k * k) side in
    let first : slot * c.area.result + r * c.samples-n.result ≡ slot * (n * n) + r * n = ap₂ (λ x y. slot * x + r * y) a_is n_is in
    let row : r < c.side-side.result = omega (arith, c.loop-row-test.true, rows_by.small) in
    let run = subst (λ f. AreInvalidated (f + c.samples_by-columns.result.0) (c.samples_by-columns.result.1 - c.samples_by-columns.result.0) c.loop-row.self.grid.flows.items c.invalidate.new.self.flows.items) first c.invalidate.ensures.flows in
    record {
      tiles = c.invalidate.ensures.tiles ∙ so.tiles;
      slots = so.slots;
      flows = one_row slot b n r c.samples_by-columns.result.0 c.samples_by-columns.result.1 s.grid.flows.items c.loop-row.self.grid.flows.items c.invalidate.new.self.flows.items
          (subst (λ k. r < k) side row) (subst (λ k. c.samples_by-columns.result.1 ≤ k) side columns_by.small) columns_by.order ((rows_by.all r row).0 (c.loop-row.auto.row, c.loop-row-test.true))
          (λ k small. (columns_by.all k (subst (λ q. k < q) (sym side) small)).1) (λ k low high. (columns_by.all k (omega (arith, high, columns_by.small))).0 (low, high)) run so.flows;
    }

pub returns-clause-flows : goal.returns-clause-flows
returns-clause-flows c =
    let n = c.args.self.now.grid.tiles.side in
    let so = c.loop-row.invariant.flows in
    let n_is : c.samples-n.result ≡ n = c.samples-n.ensures.value ∙ c.side-side.ensures in
    record {
      whole = so.whole;
      gone = λ e small below by.
          let all = (c.samples_by-rows.ensures.all (e / n) (subst (λ s. e / n < s) (sym c.side-side.ensures) below)).1 by.0 in
          so.gone e small (omega (arith, all.1, c.loop-row-test.false)) by;
      others = so.others;
      fewer = so.fewer;
    }
