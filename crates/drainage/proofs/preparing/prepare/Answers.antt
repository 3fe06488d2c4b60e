use Rattle.drainage.proofs.Prelude.{ArePadded, AreRanges, AreRangesOf, AreTileFlows, Contains, Corner, List, Mosaic, ℤ, subst, sym, ◌+◌, ◌∙◌, ◌≡◌}
use Rattle.flow_cache.specs.LevelRanges.{AreKnownAll}
use Rattle.flow_cache.proofs.Caches.Blocks.{all_known}
use Rattle.flow_cache.proofs.Caches.FlowCaches.{ranges_are}
use Rattle.drainage.proofs.preparing.prepare.Goals as goal

pub returns-clause-flows : goal.returns-clause-flows
returns-clause-flows g c honest =
    let told = c.in_ok-levels.ensures in
    let reads = told.asked.reads in
    let before = reads.honest honest in
    let a = c.args.samples.now in
    let corner = c.args.corner in
    let present = subst (λ (cs : List Corner). Contains cs corner) (sym reads.corners) c.requires.present in
    let padded = subst (λ (m : Mosaic). ArePadded m corner c.deref.result.now) (sym (reads.mosaic honest)) (subst (λ (l : List ℤ). ArePadded (g.S.Samples.mosaic a) corner l) (sym c.deref.ensures.value) (told.levels honest)) in
    subst (λ (m : Mosaic). AreTileFlows m corner c.in_ok-flows.flows.items) (reads.mosaic honest) (c.in_ok-flows.ensures.flows honest present padded)

pub returns-clause-ranges : goal.returns-clause-ranges
returns-clause-ranges g c honest =
    let told = c.in_ok-levels.ensures in
    let reads = told.asked.reads in
    let before = reads.honest honest in
    let a = c.args.samples.now in
    let m = g.S.Samples.mosaic a in
    let laws = g.met.S.Samples in
    let levels = c.in_ok-levels.levels.items in
    let side : c.side.result ≡ m.side = c.side.ensures ∙ reads.side ∙ sym (laws.same_side a before) in
    let made = subst (λ n. AreRanges (n + 4) levels c.in_ok-ranges.ranges.items) side (subst (λ (l : List ℤ). AreRanges (c.side.result + 4) l c.in_ok-ranges.ranges.items) c.deref-2.ensures.value c.in_ok-ranges.ensures) in
    subst (λ n. AreRangesOf n m c.args.corner c.in_ok-ranges.ranges.items) (laws.same_side a before) (ranges_are m (laws.is_mosaic a before) c.args.corner levels c.in_ok-ranges.ranges.items (told.levels honest) made)

pub returns-clause-covers : goal.returns-clause-covers
returns-clause-covers g c =
    let side = c.side.ensures ∙ c.in_ok-levels.ensures.asked.reads.side in
    subst (λ n. AreKnownAll n c.in_ok-ranges.ranges.items) side (all_known c.side.result _ c.in_ok-ranges.ranges.items c.in_ok-ranges.ensures)
