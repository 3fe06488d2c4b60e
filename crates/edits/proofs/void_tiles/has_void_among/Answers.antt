use Rattle.edits.proofs.Prelude.{Bool, Err, Mosaic, Ok, Refusal, ap, arith, err_from_is_err_and, false, length, subst, sym, true, ◌*◌, ◌+◌, ◌∙◌, ◌≡◌, ◌≤◌}
use Rattle.catalogue.specs.Readers.{reads_of}
use Rattle.catalogue.specs.Reading.{AreSamplesOf}
use Rattle.edits.proofs.Prelude.{reads_on}
use Rattle.edits.specs.TileRows.{is_void_at_index}
use Rattle.edits.proofs.BoxVoids.OwnSamples.{sample_passed}
use Rattle.edits.proofs.BoxVoids.Searching.{each_on, each_start}
use Rattle.edits.proofs.void_tiles.has_void_among.Goals as goal

pub overflow_cast-k : goal.overflow_cast-k
overflow_cast-k g c =
    let area : c.area-area.result ≡ g.S.Samples.side_of c.args.samples.now * g.S.Samples.side_of c.args.samples.now = c.area-area.ensures.value ∙ ap (λ n. n * n) c.side.ensures in
    omega (arith, area, c.requires.range, c.loop-k-test.true, c.area-area.type_inv)

pub overflow_add-first : goal.overflow_add-first
overflow_add-first g c =
    let area : c.area-area.result ≡ g.S.Samples.side_of c.args.samples.now * g.S.Samples.side_of c.args.samples.now = c.area-area.ensures.value ∙ ap (λ n. n * n) c.side.ensures in
    omega (arith, area, c.requires.range, c.loop-k-test.true, c.area-area.type_inv)

pub loop-k-init : goal.loop-k-init
loop-k-init g c = each_start g.S.Samples (λ m i. AreSamplesOf m c.args.corner c.args.first c.args.own.now → is_void_at_index m c.args.corner (c.args.first + i) ≡ false) g.met.S.Samples.keeps_itself c.args.samples.now

pub loop-k-preserved : goal.loop-k-preserved
loop-k-preserved g c =
    let mid = c.loop-k.samples in
    let m = g.S.Samples.mosaic mid in
    let first = c.args.first in
    let own = c.args.own.now in
    each_on g.S.Samples (λ m i. AreSamplesOf m c.args.corner first own → is_void_at_index m c.args.corner (first + i) ≡ false) g.met.S.Samples.keeps_on
    c.loop-k.k c.args.samples.now mid c.is_void_sample.new.samples c.loop-k.invariant c.in_ok-is_void_sample.ensures.reads
    (λ honest are.
    let was = c.in_ok-is_void_sample.ensures.reads.honest honest in
    let within : first + length own ≤ m.side * m.side = subst (λ n. first + length own ≤ n * n) (sym (g.met.S.Samples.same_side mid was ∙ c.loop-k.invariant.reads.side)) c.requires.range in
    sym (c.in_ok-is_void_sample.ensures.void honest (sample_passed m c.args.corner first c.loop-k.k own (g.met.S.Samples.is_mosaic mid was) within are c.samples_in_range.ensures c.loop-k-test.true)) ∙ c.if-branch.false)

pub returns-in_err-is_void_sample-clause-reads : goal.returns-in_err-is_void_sample-clause-reads
returns-in_err-is_void_sample-clause-reads g c =
    let p = err_from_is_err_and c.from_residual.result c.from_residual.ensures.1 in
    let ended : c.from_residual.result ≡ Err c.in_err-is_void_sample.field-0.0 = p.1 ∙ ap (λ (r : Refusal). Err r) p.2 in
    rw ended (reads_on g.S.Samples g.met.S.Samples.keeps_on c.args.samples.now c.loop-k.samples c.is_void_sample.new.samples tt (reads_of {T = Bool} (Err c.in_err-is_void_sample.field-0.0)) c.loop-k.invariant.reads c.in_err-is_void_sample.ensures.reads)

pub returns-then-branch-clause-reads : goal.returns-then-branch-clause-reads
returns-then-branch-clause-reads g c = reads_on g.S.Samples g.met.S.Samples.keeps_on c.args.samples.now c.loop-k.samples c.is_void_sample.new.samples tt (Ok tt) c.loop-k.invariant.reads c.in_ok-is_void_sample.ensures.reads

pub returns-then-branch-clause-void : goal.returns-then-branch-clause-void
returns-then-branch-clause-void g c honest are =
    let old = c.args.samples.now in
    let mid = c.loop-k.samples in
    let m = g.S.Samples.mosaic mid in
    let first = c.args.first in
    let own = c.args.own.now in
    let was = c.in_ok-is_void_sample.ensures.reads.honest honest in
    let same : m ≡ g.S.Samples.mosaic old = c.loop-k.invariant.reads.mosaic was in
    let within : first + length own ≤ m.side * m.side = subst (λ n. first + length own ≤ n * n) (sym (g.met.S.Samples.same_side mid was ∙ c.loop-k.invariant.reads.side)) c.requires.range in
    let told = c.in_ok-is_void_sample.ensures.void honest (sample_passed m c.args.corner first c.loop-k.k own (g.met.S.Samples.is_mosaic mid was) within
    (subst (λ (x : Mosaic). AreSamplesOf x c.args.corner first own) (sym same) are) c.samples_in_range.ensures c.loop-k-test.true) in
    (c.loop-k.k, (c.loop-k-test.true, subst (λ (x : Mosaic). is_void_at_index x c.args.corner (first + c.loop-k.k) ≡ true) same (sym told ∙ c.if-branch.true)))
