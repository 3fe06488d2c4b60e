use Rattle.catalogue.proofs.Prelude.{IsRimPoint, Mosaic, add-zero, ap, ap₂, arith, cond, is_own_seam, one_index, point_of, rim_index, rim_index_is, subst, sym, ◌*◌, ◌+◌, ◌-◌, ◌<◌, ◌∙◌, ◌≡◌}
use Rattle.catalogue.proofs.Reading.{reads_nothing, reads_on, reads_as}
use Rattle.catalogue.proofs.SeamCounts.{tile_start, tile_step}
use Rattle.catalogue.proofs.seams_between.seams_in_tile.Goals as goal
use Rattle.catalogue.proofs.seams_between.seams_in_tile.Goals.{then-branch, else-branch}

pub loop-number-init : goal.loop-number-init
loop-number-init g c = record {
  reads = reads_nothing g.S.Samples g.met.S.Samples.keeps_itself c.args.samples.now 0;
  few = omega arith;
  count = λ honest. tile_start (g.S.Samples.mosaic c.args.samples.now) c.args.corner;
}

pub loop-number-preserved : goal.loop-number-preserved
loop-number-preserved g c =
    let laws = g.met.S.Samples in
    let before = c.loop-number.invariant in
    let answer = c.in_ok-is_own_seam.field-0 in
    let counted : c.if-branch.count ≡ c.loop-number.count + cond answer 1 0 =
    elim c.if-branch.branch [
      | then-branch w ↦ w.count-is ∙ ap (λ b. c.loop-number.count + cond b 1 0) (sym w.if-branch.true)
      | else-branch w ↦ w.count-is ∙ sym (add-zero c.loop-number.count) ∙ ap (λ b. c.loop-number.count + cond b 1 0) (sym w.if-branch.false)
    ] in
    record {
      reads = reads_as g.S.Samples _ _ _ c.if-branch.count (reads_on g.S.Samples laws.keeps_on _ _ _ c.loop-number.count _ before.reads c.in_ok-is_own_seam.ensures.reads);
      few = elim c.if-branch.branch [ then-branch w ↦ omega arith | else-branch w ↦ omega arith ];
      count = λ honest.
          let honest_before = c.in_ok-is_own_seam.ensures.reads.honest honest in
          let now = c.args.samples.now in
          let m = g.S.Samples.mosaic now in
          let k = c.loop-number.number in
          let honest_now = before.reads.honest honest_before in
          let same_side = laws.same_side now honest_now in
          let low = (laws.is_mosaic now honest_now).side_low in
          let rim : c.rim-number-end.result ≡ 4 * (m.side - 1) = c.rim-number-end.ensures.value ∙ ap (λ n. 4 * (n - 1)) (c.side-side.ensures ∙ sym same_side) in
          let below : k < 4 * (m.side - 1) = omega (arith, rim, c.loop-number-test.true) in
          let at : IsRimPoint m.side k c.rim_index.result = subst (λ n. IsRimPoint n k c.rim_index.result) (c.side-side.ensures ∙ sym same_side) c.rim_index.ensures in
          let index : c.rim_index.result ≡ rim_index m.side k = one_index m.side k c.rim_index.result (rim_index m.side k) low at (rim_index_is m.side k low below) in
          let side = before.reads.side ∙ sym same_side in
          let told = c.in_ok-is_own_seam.ensures.value honest
          ∙ ap₂ (λ (x : Mosaic) n. is_own_seam x c.args.corner (point_of n c.args.corner c.rim_index.result)) (before.reads.mosaic honest_before) side
          ∙ ap (λ e. is_own_seam m c.args.corner (point_of m.side c.args.corner e)) index in
          tile_step (g.S.Samples.mosaic now) c.args.corner c.loop-number.number c.loop-number.count c.if-branch.count answer (before.count honest_before) told counted;
    }
