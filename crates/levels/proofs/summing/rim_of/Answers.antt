use Rattle.levels.proofs.Prelude.{AreRimPointsIn, HasOtherRimHeight, IsFlooded, IsRimPointIn, List, MatchOption, Mosaic, Ok, Option, RimPoint, ap, arith, subst, sym, ◌*◌, ◌+◌, ◌-◌, ◌∙◌, ◌≡◌}
use Rattle.catalogue.proofs.Reading.{reads_on, reads_as}
use Rattle.levels.proofs.Tiles.Summed.{one_more_point}
use Rattle.levels.proofs.summing.rim_of.Goals as goal

pub loop-number-preserved : goal.loop-number-preserved
loop-number-preserved g c =
    let now = c.args.samples.now in
    let so = c.loop-number.invariant in
    let read = c.in_ok-point.ensures.reads in
    record {
      reads = reads_on g.S.Samples g.met.S.Samples.keeps_on now c.loop-number.samples c.rim_point.new.samples tt (Ok tt) so.reads (reads_as g.S.Samples c.loop-number.samples c.rim_point.new.samples c.in_ok-point.field-0 tt read);
      ground_cache = λ honest. c.in_ok-point.ensures.ground_cache honest;
      points = λ honest flooded.
          let mid = read.honest honest in
          let here = subst (λ (found : Option RimPoint). MatchOption found (HasOtherRimHeight (g.S.Samples.mosaic c.loop-number.samples) c.args.corner c.args.labelled.now.levels)
          (λ point. IsRimPointIn (g.S.Samples.mosaic c.loop-number.samples) c.args.corner c.args.labelled.now.labels c.loop-number.number point)) c.in-Some.is (c.in_ok-point.ensures.point honest (subst (λ (m : Mosaic). IsFlooded m c.args.corner c.args.labelled.now) (sym (so.reads.mosaic mid)) flooded)) in
          subst (λ (l : List RimPoint). AreRimPointsIn (g.S.Samples.mosaic now) c.args.corner c.args.labelled.now.labels l (c.loop-number.number + 1)) (sym {A = List RimPoint} c.in_ok-push.ensures.pushed)
          (one_more_point (g.S.Samples.mosaic now) c.args.corner c.args.labelled.now.labels c.loop-number.rim.items c.loop-number.number c.in-Some.point
          (subst (λ (m : Mosaic). IsRimPointIn m c.args.corner c.args.labelled.now.labels c.loop-number.number c.in-Some.point) (so.reads.mosaic mid) here)
          (so.points mid flooded));
    }

pub returns-clause-rim : goal.returns-clause-rim
returns-clause-rim g c honest flooded =
    let now = c.args.samples.now in
    let past = c.loop-number-test.false in
    let end = c.loop-number.auto.number-end in
    let last : c.loop-number.number ≡ c.rim-count.result = omega arith in
    let count : c.rim-count.result ≡ 4 * (g.S.Samples.side_of now - 1) = c.rim-count.ensures.value ∙ ap (λ n. 4 * (n - 1)) (c.side.ensures ∙ c.requires.labelled_side) in
    subst (AreRimPointsIn (g.S.Samples.mosaic now) c.args.corner c.args.labelled.now.labels c.loop-number.rim.items) (last ∙ count) (c.loop-number.invariant.points honest flooded)
