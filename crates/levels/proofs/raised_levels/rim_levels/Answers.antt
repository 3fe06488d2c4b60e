use Rattle.levels.proofs.Prelude.{AreRimLevelsTo, IsLevelOrVoid, IsRimPoint, Mosaic, Ok, SFits, ap, arith, of_z, point_of, reads_on, rules, subst, sym, to_z, to_z-of_z, w16, ◌*◌, ◌-◌, ◌∙◌, ◌≡◌}
use Rattle.levels.proofs.Tiles.RimLevels.{rim_more, rim_whole}
use Rattle.catalogue.proofs.Questioned.{answered, asked_reads, refused_after, short_after, short_here}
use Rattle.levels.proofs.raised_levels.rim_levels.Goals as goal

pub loop-number-preserved : goal.loop-number-preserved
loop-number-preserved g c =
    let now = c.args.samples.now in
    let so = c.loop-number.invariant in
    let elsewhere = reads_on g.S.Samples g.met.S.Samples.keeps_on now c.loop-number.samples c.level_in.new.samples tt (Ok tt) so.reads (asked_reads g.S.Samples c.loop-number.samples c.level_in.new.samples _ c.in_ok-level_in.ensures.asked) in
    let told = c.in_ok-level.ensures in
    let read = asked_reads g.S.Samples c.level_in.new.samples c.level_of.new.samples _ told.asked in
    record {
      reads = reads_on g.S.Samples g.met.S.Samples.keeps_on now c.level_in.new.samples c.level_of.new.samples tt (Ok tt) elsewhere read;
      right = told.right;
      levels = λ honest.
          let mid = read.honest honest in
          let first = elsewhere.honest mid in
          let m = g.S.Samples.mosaic now in
          let v = to_z w16 (of_z w16 c.in_ok-level.level) in
          let fits : SFits w16 c.in_ok-level.level = search rules in
          let side : c.side-side.result ≡ m.side = c.side-side.ensures ∙ sym (g.met.S.Samples.same_side now first) in
          let here = subst (λ p. IsLevelOrVoid m p v) c.point_at-point.ensures.value
          (subst (IsLevelOrVoid m c.point_at-point.result) (sym (to_z-of_z w16 c.in_ok-level.level fits)) (subst (λ (k : Mosaic). IsLevelOrVoid k c.point_at-point.result c.in_ok-level.level) (elsewhere.mosaic mid) (told.level honest))) in
          rim_more m (g.met.S.Samples.is_mosaic now first) c.args.corner c.loop-number.rim.items c.push.new.items.items c.loop-number.number c.rim_index.result v c.in_ok-push.ensures.pushed
          (subst (λ n. IsRimPoint n c.loop-number.number c.rim_index.result) side c.rim_index.ensures)
          (subst (λ n. IsLevelOrVoid m (point_of n c.args.corner c.rim_index.result) v) side here) (so.levels (c.in_ok-level_in.ensures.asked.reads.honest mid));
    }

pub returns-in_err-rim-clause-asked : goal.returns-in_err-rim-clause-asked
returns-in_err-rim-clause-asked g c = short_here g.S.Samples g.met.S.Samples.keeps_itself c.args.samples.now c.from_residual.result (search rules)

pub returns-in_err-level_in-clause-asked : goal.returns-in_err-level_in-clause-asked
returns-in_err-level_in-clause-asked g c =
    refused_after g.S.Samples g.met.S.Samples.keeps_on c.args.samples.now c.loop-number.samples c.level_in.new.samples c.from_residual-in_err-level_in.result c.in_err-level_in.field-0.0 c.from_residual-in_err-level_in.ensures.1 c.loop-number.invariant.reads c.in_err-level_in.ensures.asked

pub returns-in_err-level-clause-asked : goal.returns-in_err-level-clause-asked
returns-in_err-level-clause-asked g c =
    let now = c.args.samples.now in
    let elsewhere = reads_on g.S.Samples g.met.S.Samples.keeps_on now c.loop-number.samples c.level_in.new.samples tt (Ok tt) c.loop-number.invariant.reads (asked_reads g.S.Samples c.loop-number.samples c.level_in.new.samples _ c.in_ok-level_in.ensures.asked) in
    refused_after g.S.Samples g.met.S.Samples.keeps_on now c.level_in.new.samples c.level_of.new.samples c.from_residual-in_err-level.result c.in_err-level.field-0.0 c.from_residual-in_err-level.ensures.1 elsewhere c.in_err-level.ensures.asked

pub returns-in_err-push-clause-asked : goal.returns-in_err-push-clause-asked
returns-in_err-push-clause-asked g c =
    let now = c.args.samples.now in
    let elsewhere = reads_on g.S.Samples g.met.S.Samples.keeps_on now c.loop-number.samples c.level_in.new.samples tt (Ok tt) c.loop-number.invariant.reads (asked_reads g.S.Samples c.loop-number.samples c.level_in.new.samples _ c.in_ok-level_in.ensures.asked) in
    short_after g.S.Samples g.met.S.Samples.keeps_on now c.level_in.new.samples c.level_of.new.samples _ c.from_residual-in_err-push.result elsewhere c.in_ok-level.ensures.asked (search rules)

pub returns-clause-levels : goal.returns-clause-levels
returns-clause-levels g c honest =
    let now = c.args.samples.now in
    let first = c.loop-number.invariant.reads.honest honest in
    let m = g.S.Samples.mosaic now in
    let last : c.loop-number.number ≡ c.rim-number-end.result = omega (arith, c.loop-number-test.false, c.loop-number.auto.number-end) in
    let side : c.side-side.result ≡ m.side = c.side-side.ensures ∙ sym (g.met.S.Samples.same_side now first) in
    let count : c.rim-number-end.result ≡ 4 * (m.side - 1) = c.rim-number-end.ensures.value ∙ ap (λ n. 4 * (n - 1)) side in
    rim_whole m (g.met.S.Samples.is_mosaic now first) c.args.corner c.loop-number.rim.items
    (subst (λ k. AreRimLevelsTo m c.args.corner k c.loop-number.rim.items) (last ∙ count) (c.loop-number.invariant.levels honest))

pub returns-clause-asked : goal.returns-clause-asked
returns-clause-asked g c = answered g.S.Samples c.args.samples.now c.loop-number.samples _ c.loop-number.invariant.reads
