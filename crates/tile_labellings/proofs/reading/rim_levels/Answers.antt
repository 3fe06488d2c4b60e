use Rattle.std.proofs.Common.{◌<◌, ℕ, ◌+◌, ◌≤◌, ℤ, pos, List, length, get_or, SFits, w16, rules, sym, ap, ◌∙◌, subst}
use Rattle.std.proofs.lemmas.Int.{to_z-of_z}
use Rattle.std.proofs.lemmas.List.{get_or_default}
use Rattle.lattice.specs.Mosaic.{void}
use Rattle.lattice.specs.RimPoints.{IsRimPoint}
use Rattle.tile_labellings.proofs.Fitting.{AreFirstOfRim, one_more_level}
use Rattle.tile_labellings.proofs.reading.rim_levels.Goals as goal

pub loop-number-preserved : goal.loop-number-preserved
loop-number-preserved c =
    let n = c.args.labelled.now.side in
    let levels = c.args.labelled.now.levels in
    let low : 3 ≤ n = subst (λ (k : ℕ). 3 ≤ k) c.side-side.ensures c.rim-number-end.ensures.low in
    let e = c.rim_index-index.result in
    let point : IsRimPoint n c.loop-number.number e = subst (λ (k : ℕ). IsRimPoint k c.loop-number.number e) c.side-side.ensures c.rim_index-index.ensures in
    let fits : SFits w16 (get_or c.levels.result.now e (pos 0)) = search rules in
    let inside : e < length levels = subst (λ (k : ℕ). e < k) (sym c.levels.ensures.whole) point.small in
    subst (λ (l : List ℤ). AreFirstOfRim n levels l (c.loop-number.number + 1)) (sym c.in_ok-add.ensures)
    (one_more_level n levels c.loop-number.rim.items c.loop-number.number e _ low point
    (to_z-of_z w16 (get_or c.levels.result.now e (pos 0)) fits ∙ (ap (λ (ls : List ℤ). get_or ls e (pos 0)) c.levels.ensures.value ∙ get_or_default levels e (pos 0) void inside)) c.loop-number.invariant)
