use Rattle.catalogue.proofs.Prelude.{Err, Refusal, ℤ, ap, ap₂, arith, err_from_is_err_and, ints, negsuc, pos, seams_before, sym, to_z-of_z, ◌+◌, ◌∙◌, ◌≡◌}
use mir.Syntax.{w16}
use mir.Val.{to_z, of_z}
use Rattle.catalogue.proofs.SeamCounts.{seams-row}
use Rattle.catalogue.proofs.Reading.{reads_on}
use Rattle.catalogue.proofs.seams_between.seams_in_row.Goals as goal

pub returns-clause-value : goal.returns-clause-value
returns-clause-value g c honest_after =
    let now = c.args.samples.now in
    let m = g.S.Samples.mosaic now in
    let valid = g.met.S.Samples.is_mosaic now (c.loop-lon.invariant.reads.honest honest_after) in
    let lat : to_z w16 (of_z w16 c.args.lat) ≡ c.args.lat = to_z-of_z w16 c.args.lat c.ranges.lat in
    let lon : to_z w16 c.loop-lon.lon-bits ≡ pos 180 = omega (arith, ints) in
    sym (seams-row m valid c.args.lat)
    ∙ ap₂ (λ (y x : ℤ). seams_before m y x) (sym lat) (sym lon)
    ∙ c.loop-lon.invariant.count honest_after
    ∙ ap (λ (y : ℤ). seams_before m y (negsuc 179) + c.loop-lon.count) lat

pub returns-in_err-count-clause-reads : goal.returns-in_err-count-clause-reads
returns-in_err-count-clause-reads g c =
    let p = err_from_is_err_and c.from_residual.result c.from_residual.ensures.1 in
    let ended : c.from_residual.result ≡ Err c.in_err-count.field-0.0 = p.1 ∙ ap (λ (r : Refusal). Err r) p.2 in
    rw ended (reads_on g.S.Samples g.met.S.Samples.keeps_on c.args.samples.now c.loop-lon.samples _ _ (Err c.in_err-count.field-0.0) c.loop-lon.invariant.reads c.in_err-count.ensures.reads)

pub returns-clause-reads : goal.returns-clause-reads
returns-clause-reads g c = c.loop-lon.invariant.reads
