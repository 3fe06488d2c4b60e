use Rattle.drainage.proofs.Prelude.{AreFilledTo, IsLevelOrVoid, IsStrip, Mosaic, Ok, Point, SFits, Strip, ℕ, ap, arith, length, length-set, of_z, padded_point, reads_on, rules, slice_set, strip_of, subst, sym, to_z, to_z-of_z, w16, ◌%◌, ◌*◌, ◌+◌, ◌/◌, ◌∙◌, ◌≡◌}
use Rattle.drainage.proofs.Tiles.PaddedLevels.{AreStripsTo, around_all, fill_more, quotient_below, strips_more}
use Rattle.catalogue.proofs.Questioned.{answered, asked_reads, refused_after}
use Rattle.drainage.proofs.preparing.fill_around.Goals as goal

pub padded_place-requires-clause-row : goal.padded_place-requires-clause-row
padded_place-requires-clause-row g c =
    let strip = c.strip_at-strip.result in
    let fits = c.strip_at-strip.ensures.fits in
    let row = quotient_below c.loop-at.at strip.rows strip.columns fits.some c.loop-at-test.true in
    omega (arith, row, fits.rows)

pub loop-at-preserved : goal.loop-at-preserved
loop-at-preserved g c =
    let a = c.args.samples.now in
    let laws = g.met.S.Samples in
    let so = c.loop-at.invariant in
    let told = c.in_ok-level.ensures in
    let read = asked_reads g.S.Samples c.loop-at.samples c.level_of.new.samples _ told.asked in
    let old = c.loop-number.levels in
    let now = c.loop-at.levels in
    let strip = c.strip_at-strip.result in
    let k = c.loop-at.at in
    let v = to_z w16 (of_z w16 c.in_ok-level.level) in
    let fits : SFits w16 c.in_ok-level.level = search rules in
    let i : ℕ = strip.row + k / strip.columns in
    let j : ℕ = strip.column + k % strip.columns in
    record {
      reads = reads_on g.S.Samples laws.keeps_on c.loop-number.samples c.loop-at.samples c.level_of.new.samples tt (Ok tt) so.reads read;
      right = told.right;
      whole = length-set now c.padded_place.result v ∙ so.whole;
      filled = λ honest.
          let mid = read.honest honest in
          let first = so.reads.honest mid in
          let begun = c.loop-number.invariant.reads.honest first in
          let m = g.S.Samples.mosaic a in
          let side : c.side-side.result ≡ m.side = c.side-side.ensures ∙ sym (laws.same_side a begun) in
          let is = subst (λ n. IsStrip n strip) side c.strip_at-strip.ensures.fits in
          let point = c.padded_point-point.result in
          let here = subst (λ n. IsLevelOrVoid m (padded_point n c.args.corner i j) v) side
          (subst (λ (q : Point). IsLevelOrVoid m q v) c.padded_point-point.ensures
          (subst (IsLevelOrVoid m point) (sym (to_z-of_z w16 c.in_ok-level.level fits)) (subst (λ (n : Mosaic). IsLevelOrVoid n point c.in_ok-level.level) (so.reads.mosaic mid ∙ c.loop-number.invariant.reads.mosaic first) (told.level honest)))) in
          let size = c.loop-number.invariant.whole ∙ subst (λ n. length c.args.levels.now ≡ (n + 4) * (n + 4)) (sym c.side-side.ensures ∙ side) c.requires.levels in
          subst (λ e. AreFilledTo m c.args.corner strip (k + 1) old (slice_set now e v)) (ap (λ n. i * (n + 4) + j) (sym side) ∙ sym c.padded_place.ensures.value)
          (fill_more m c.args.corner strip is old now k v c.loop-at-test.true size here (so.filled mid));
    }

pub loop-number-preserved : goal.loop-number-preserved
loop-number-preserved g c =
    let a = c.args.samples.now in
    let so = c.loop-number.invariant in
    let strip = c.strip_at-strip.result in
    let more = c.loop-at.invariant in
    record {
      reads = reads_on g.S.Samples g.met.S.Samples.keeps_on a c.loop-number.samples c.loop-at.samples tt (Ok tt) so.reads more.reads;
      right = more.right;
      whole = more.whole;
      filled = λ honest.
          let mid = more.reads.honest honest in
          let m = g.S.Samples.mosaic a in
          let side : c.side-side.result ≡ m.side = c.side-side.ensures ∙ sym (g.met.S.Samples.same_side a (so.reads.honest mid)) in
          let last : c.loop-at.at ≡ strip.rows * strip.columns = omega (arith, c.loop-at-test.false, c.loop-at.auto.at-end) in
          strips_more m c.args.corner (g.met.S.Samples.is_mosaic a (so.reads.honest mid)).side_low c.args.levels.now c.loop-number.levels c.loop-at.levels c.loop-number.number (so.filled mid)
          (subst (λ (s : Strip). AreFilledTo m c.args.corner s (s.rows * s.columns) c.loop-number.levels c.loop-at.levels) (c.strip_at-strip.ensures.value ∙ ap (λ n. strip_of n c.loop-number.number) side)
          (subst (λ count. AreFilledTo m c.args.corner strip count c.loop-number.levels c.loop-at.levels) last (more.filled honest)));
    }

pub returns-in_err-level-clause-asked : goal.returns-in_err-level-clause-asked
returns-in_err-level-clause-asked g c =
    refused_after g.S.Samples g.met.S.Samples.keeps_on c.args.samples.now c.loop-at.samples c.level_of.new.samples c.from_residual.result c.in_err-level.field-0.0 c.from_residual.ensures.1
    (reads_on g.S.Samples g.met.S.Samples.keeps_on c.args.samples.now c.loop-number.samples c.loop-at.samples tt (Ok tt) c.loop-number.invariant.reads c.loop-at.invariant.reads) c.in_err-level.ensures.asked

pub returns-clause-filled : goal.returns-clause-filled
returns-clause-filled g c honest =
    let a = c.args.samples.now in
    let so = c.loop-number.invariant in
    let first = so.reads.honest honest in
    let m = g.S.Samples.mosaic a in
    let last : c.loop-number.number ≡ 4 = omega (arith, c.loop-number-test.false, c.loop-number.auto.number-end) in
    around_all m c.args.corner (g.met.S.Samples.is_mosaic a first).side_low c.args.levels.now c.loop-number.levels
    (subst (λ k. AreStripsTo m c.args.corner k c.args.levels.now c.loop-number.levels) last (so.filled honest))

pub returns-clause-asked : goal.returns-clause-asked
returns-clause-asked g c = answered g.S.Samples c.args.samples.now c.loop-number.samples _ c.loop-number.invariant.reads
