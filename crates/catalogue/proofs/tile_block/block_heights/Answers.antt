use Rattle.catalogue.proofs.Prelude.{AreHeightsOf, AreSamplesOf, Err, List, Mosaic, Ok, OnlyReads, Refusal, ℤ, ap, drop, err_from_is_err_and, length, reads_of, subst, sym, ◌∙◌, ◌≡◌}
use Rattle.catalogue.proofs.Blocks.{written_over}
use Rattle.catalogue.proofs.Reading.{reads_answered, reads_on, reads_for}
use Rattle.catalogue.proofs.tile_block.block_heights.Goals as goal

pub returns-clause-heights : goal.returns-clause-heights
returns-clause-heights g c honest =
    let long = c.as_mut_slice-2.ensures.len in
    let read = c.read_samples.new.into in
    let read_long : length read ≡ c.in_ok-heights.heights.len = c.in_ok-read_samples.ensures.length ∙ c.as_mut_slice.ensures.len in
    let honest_mid = c.in_ok-put_rim.ensures.reads.honest honest in
    let same = c.in_ok-read_samples.ensures.mosaic honest_mid in
    let whole_read : c.as_mut_slice-2.result.now ≡ read = c.as_mut_slice-2.ensures.value ∙ written_over c.in_ok-heights.heights.len read (drop (length read) c.in_ok-heights.heights.items) read_long in
    let own = subst (λ (l : List ℤ). AreSamplesOf (g.S.Samples.mosaic c.args.samples.now) c.args.corner 0 l) (sym whole_read) (c.in_ok-read_samples.ensures.samples honest_mid) in
    let block = c.in_ok-put_rim.ensures.heights honest (subst (λ (m : Mosaic). AreSamplesOf m c.args.corner 0 c.as_mut_slice-2.result.now) (sym same) own) in
    subst (λ (l : List ℤ). AreHeightsOf (g.S.Samples.mosaic c.args.samples.now) c.args.corner l)
    (sym (written_over c.in_ok-heights.heights.len c.put_rim.new.heights _ (c.put_rim.auto.heights ∙ long)))
    (subst (λ (m : Mosaic). AreHeightsOf m c.args.corner c.put_rim.new.heights) same block)

pub returns-in_err-put_rim-clause-reads : goal.returns-in_err-put_rim-clause-reads
returns-in_err-put_rim-clause-reads g c =
    let p = err_from_is_err_and c.from_residual-in_err-put_rim.result c.from_residual-in_err-put_rim.ensures.1 in
    let ended : c.from_residual-in_err-put_rim.result ≡ Err c.in_err-put_rim.field-0.0 = p.1 ∙ ap (λ (r : Refusal). Err r) p.2 in
    let told = c.in_ok-read_samples.ensures in
    let read : OnlyReads {T = Unit {0}} g.S.Samples c.args.samples.now c.read_samples.new.self (Ok tt) =
    reads_answered g.S.Samples c.args.samples.now c.read_samples.new.self tt told.ready told.never_refuses told.side told.corners told.sinks told.failures told.honest told.mosaic told.keeps in
    rw ended (reads_on g.S.Samples g.met.S.Samples.keeps_on c.args.samples.now c.read_samples.new.self c.put_rim.new.samples tt (reads_of {T = Unit {0}} (Err c.in_err-put_rim.field-0.0)) read
    (reads_for g.S.Samples c.read_samples.new.self c.put_rim.new.samples (Err c.in_err-put_rim.field-0.0) c.in_err-put_rim.ensures.reads))
