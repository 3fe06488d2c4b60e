use Rattle.std.proofs.Common.{◌≡◌, ℕ, ap₂, sym, subst, ◌∙◌, List, Contains}
use Rattle.lattice.specs.declared.point.Point.{Point}
use Rattle.lattice.specs.Corners.{Corner}
use Rattle.lattice.specs.Block.{IsBlockOf}
use Rattle.lattice.specs.SinkIndices.{sinks_in}
use Rattle.lattice.proofs.SinkIndices.{block_from}
use Rattle.catalogue.proofs.OneTile.{corner_is}
use Rattle.tile_labellings.proofs.labellings.block_of.Goals as goal

pub returns-clause-ground : goal.returns-clause-ground
returns-clause-ground g c honest =
    let laws = g.met.S.Samples in
    let old = c.args.samples.now in
    let m = g.S.Samples.mosaic old in
    let reads = c.in_ok-heights.ensures.reads in
    let was = reads.honest honest in
    let corner = corner_is m c.args.corner (laws.is_mosaic old was) (subst (λ (cs : List Corner). Contains cs c.args.corner) (sym (laws.same_corners old was)) c.requires) in
    let made = block_from m c.args.corner c.in_ok-heights.heights.items (laws.is_mosaic old was) corner (c.in_ok-heights.ensures.heights honest) in
    let side : c.side-side.result ≡ m.side = c.side-side.ensures ∙ reads.side ∙ sym (laws.same_side old was) in
    let sinks : c.sinks.result.now ≡ m.sinks = c.sinks.ensures.sinks ∙ reads.sinks ∙ sym (laws.same_sinks old was) in
    let indices : c.sinks_in-sinks.result.items ≡ sinks_in m.side c.args.corner m.sinks = c.sinks_in-sinks.ensures ∙ ap₂ (λ n (ss : List Point). sinks_in n c.args.corner ss) side sinks in
    subst (IsBlockOf m c.args.corner) (sym c.in-Some.ensures.1)
    (subst (λ n. IsBlockOf m c.args.corner (record { side = n; heights = c.in_ok-heights.heights.items; sinks = c.sinks_in-sinks.result.items })) (sym side)
    (subst (λ (is : List ℕ). IsBlockOf m c.args.corner (record { side = m.side; heights = c.in_ok-heights.heights.items; sinks = is })) (sym indices) made))
