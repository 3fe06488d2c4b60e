use Rattle.std.proofs.Common.{arith, ◌≡◌, ◌≤◌, ◌+◌, ℕ, Bool, true, false, length, not, take, ap, sym, ◌∙◌, List}
use Rattle.std.proofs.lemmas.List.{take_all}
use Rattle.lattice.specs.Corners.{Corner}
use Rattle.catalogue.specs.Tiles.{is_listed}
use Rattle.table_engine.specs.TableState.{stale_among}
use Rattle.table_engine.proofs.FreshTiles.{one_counted}
use Rattle.table_engine.proofs.table_engine.count_stale.Goals.{else-not-contains, then-not-contains}
use Rattle.table_engine.proofs.table_engine.count_stale.Goals as goal

pub loop-corner-preserved : goal.loop-corner-preserved
loop-corner-preserved c =
    let stale_to : ℕ → ℕ = λ n. length (stale_among (take n c.args.corners.now) c.args.fresh.now) in
    let i = c.loop-corner.corner-index in
    let next = one_counted c.args.corners.now c.args.fresh.now i c.corner-item.result in
    let before : c.loop-corner.count ≡ stale_to i = c.loop-corner.invariant.0 in
    elim c.if-not-contains.branch [
      | then-not-contains w ↦ let more : stale_to (i + 1) ≡ stale_to i + 1 = next true c.loop-corner-test.true c.corner-item.is (ap not (sym c.contains.ensures.value ∙ w.if-not-contains.true)) in
          (omega (arith, w.count-is, before, more), omega (arith, c.loop-corner.invariant.1, w.count-is))
      | else-not-contains w ↦ let more : stale_to (i + 1) ≡ stale_to i + 0 = next false c.loop-corner-test.true c.corner-item.is (ap not (sym c.contains.ensures.value ∙ w.if-not-contains.false)) in
          (omega (arith, w.count-is, before, more), omega (arith, c.loop-corner.invariant.1, w.count-is))
    ]

pub returns : goal.returns
returns c =
    c.loop-corner.invariant.0 ∙ ap (λ (cs : List Corner). length (stale_among cs c.args.fresh.now)) (take_all c.loop-corner.corner-index c.args.corners.now c.loop-corner-test.false)
