use Rattle.catalogue.proofs.Prelude.{IsSeamCount, ℤ, ap, arith, ints, negsuc, pos, seams_before, subst, sym, ◌∙◌, ◌≡◌}
use Rattle.catalogue.proofs.Reading.{reads_nothing}
use Rattle.catalogue.proofs.SeamCounts.{seams_counted, seams-first, seams-last}
use Rattle.catalogue.proofs.seams_between.seams.Goals as goal

pub loop-lat-init : goal.loop-lat-init
loop-lat-init g c =
    let laws = g.met.S.Samples in
    let now = c.args.samples.now in
    record {
      reads = reads_nothing g.S.Samples laws.keeps_itself now 0;
      high = omega (arith, ints);
      few = omega (arith, ints);
      count = λ honest. seams-first (g.S.Samples.mosaic now) (laws.is_mosaic now honest);
    }

pub returns-clause-value : goal.returns-clause-value
returns-clause-value g c honest_after =
    let now = c.args.samples.now in
    let m = g.S.Samples.mosaic now in
    let valid = g.met.S.Samples.is_mosaic now (c.loop-lat.invariant.reads.honest honest_after) in
    let lat : c.loop-lat.lat ≡ pos 90 = omega (arith, ints) in
    let counted = c.loop-lat.invariant.count honest_after ∙ ap (λ (y : ℤ). seams_before m y (negsuc 179)) (c.loop-lat.lat-is ∙ lat) ∙ seams-last m valid in
    subst (IsSeamCount m) (sym counted) (seams_counted m valid)
