use Rattle.std.proofs.Common.{◌≡◌, ◌+◌, ◌-◌, ◌*◌, ◌^◌, ◌<◌, length, List, sym, ◌∙◌, subst, rules}
use Rattle.levels.proofs.Prelude.{Corner}
use Rattle.levels.proofs.Caches.FewTiles.{numbered}
use Rattle.levels.proofs.Caches.LoadingTiles.{none_told}
use Rattle.levels.proofs.rim_graph.RimGraph.new.Goals as goal

pub returns-clause-ready : goal.returns-clause-ready
returns-clause-ready g c honest =
    let laws = g.met.S.Samples in
    let s = c.args.samples.now in
    let m = g.S.Samples.mosaic s in
    let side = c.side-side.ensures ∙ sym (laws.same_side s honest) in
    let all = c.in_ok-corners.ensures.corners ∙ sym (laws.same_corners s honest) in
    let many : length c.loop.loaded.items ≡ length c.in_ok-corners.corners.items = (let whole = c.loop.invariant.whole in let last = c.loop-test.false in let size = c.len-end.ensures in search rules) in
    record {
      same_side = side;
      all = all;
      room = subst (λ n. 1 + length c.in_ok-corners.corners.items * (4 * (n - 1)) < 2 ^ 32) (sym side)
          (subst (λ (cs : List Corner). 1 + length cs * (4 * (m.side - 1)) < 2 ^ 32) (sym all) (numbered m (laws.is_mosaic s honest)));
      tiles = none_told m c.side-side.result c.in_ok-corners.corners.items c.loop.loaded.items many c.loop.invariant.none;
    }
