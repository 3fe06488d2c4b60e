use Rattle.edits.proofs.Prelude.{IfOk-weaker, ap, false_from_ne_true, is_void_at, of_z, subst, sym, void, ◌*◌, ◌<◌, ◌∙◌}
use mir.Syntax.{w16}
use Rattle.lattice.proofs.IntTests.{eq_true}
use Rattle.lattice.specs.Mosaic.{is_void}
use Rattle.lattice.specs.Lattice.{point_of}
use Rattle.edits.proofs.BoxVoids.OwnSamples.{own_not_void}
use Rattle.edits.proofs.void_tiles.is_void_sample.Goals as goal

pub returns-then-own-ne-VOID-clause-void : goal.returns-then-own-ne-VOID-clause-void
returns-then-own-ne-VOID-clause-void g c honest own =
    let old = c.args.samples.now in
    let m = g.S.Samples.mosaic old in
    let below : c.args.index < m.side * m.side = subst (λ n. c.args.index < n * n) (sym (g.met.S.Samples.same_side old honest)) c.requires.index in
    sym (own_not_void m c.args.corner c.args.index c.args.own (g.met.S.Samples.is_mosaic old honest) below own (false_from_ne_true (is_void c.args.own) (λ same. c.if-own-ne-VOID.true (ap (λ z. of_z w16 z) (eq_true c.args.own void same)))))

pub returns-clause-void : goal.returns-clause-void
returns-clause-void g c honest own =
    let old = c.args.samples.now in
    let m = g.S.Samples.mosaic old in
    let was = c.is_void.ensures.reads.honest honest in
    let side = c.side.ensures ∙ sym (g.met.S.Samples.same_side old was) in
    IfOk-weaker c.is_void.result _ _
    (λ b is. is ∙ ap (is_void_at m) (c.point_at-point.ensures.value ∙ ap (λ n. point_of n c.args.corner c.args.index) side)) (c.is_void.ensures.void honest)
