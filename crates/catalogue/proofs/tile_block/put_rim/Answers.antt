use Rattle.catalogue.proofs.Prelude.{Corner, IsRimPoint, List, ap, arith, subst, sym, ◌*◌, ◌-◌, ◌∙◌, ◌≡◌}
use Rattle.std.specs.Prelude.{Contains, Ok}
use Rattle.catalogue.proofs.Blocks.{IsPartly, partly_none, partly_step, partly_all}
use Rattle.catalogue.proofs.Reading.{reads_nothing, reads_on}
use Rattle.catalogue.proofs.tile_block.put_rim.Goals as goal

pub loop-number-init : goal.loop-number-init
loop-number-init g c =
    let laws = g.met.S.Samples in
    let now = c.args.samples.now in
    record {
      reads = reads_nothing g.S.Samples laws.keeps_itself now tt;
      whole = c.requires.whole;
      partly = λ honest own. partly_none (g.S.Samples.mosaic now) c.args.corner c.args.heights.now (laws.is_mosaic now honest) (c.requires.whole ∙ ap (λ n. n * n) (sym (laws.same_side now honest))) own;
    }

pub loop-number-preserved : goal.loop-number-preserved
loop-number-preserved g c =
    let laws = g.met.S.Samples in
    let now = c.args.samples.now in
    let m = g.S.Samples.mosaic now in
    let so = c.loop-number.invariant in
    let read = c.in_ok-put_at.ensures.reads in
    record {
      reads = reads_on g.S.Samples laws.keeps_on now c.loop-number.samples c.put_at.new.samples tt (Ok tt) so.reads read;
      whole = c.put_at.auto.heights ∙ so.whole;
      partly = λ honest own.
          let honest_mid = read.honest honest in
          let side = laws.same_side now (so.reads.honest honest_mid) in
          let at : IsRimPoint m.side c.loop-number.number c.rim_index.result = subst (λ n. IsRimPoint n c.loop-number.number c.rim_index.result) (c.side-side.ensures ∙ sym side) c.rim_index.ensures in
          partly_step m c.args.corner (g.S.Samples.mosaic c.loop-number.samples) (g.S.Samples.side_of c.loop-number.samples) c.rim_index.result c.loop-number.number c.loop-number.heights c.put_at.new.heights
          (so.reads.mosaic honest_mid) (so.reads.side ∙ sym side) (laws.is_mosaic now (so.reads.honest honest_mid)).side_low at (so.partly honest_mid own) (c.in_ok-put_at.ensures.height honest);
    }

pub returns-clause-heights : goal.returns-clause-heights
returns-clause-heights g c honest own =
    let laws = g.met.S.Samples in
    let now = c.args.samples.now in
    let m = g.S.Samples.mosaic now in
    let so = c.loop-number.invariant in
    let honest_now = so.reads.honest honest in
    let there = subst (λ (cs : List Corner). Contains cs c.args.corner) (sym (laws.same_corners now honest_now)) c.requires.present in
    let rim : c.rim-number-end.result ≡ 4 * (m.side - 1) = c.rim-number-end.ensures.value ∙ ap (λ n. 4 * (n - 1)) (c.side-side.ensures ∙ sym (laws.same_side now honest_now)) in
    let end : c.loop-number.number ≡ 4 * (m.side - 1) = omega (arith, rim) in
    partly_all m c.args.corner c.loop-number.heights (laws.is_mosaic now honest_now) there (subst (λ k. IsPartly m c.args.corner k c.loop-number.heights) end (so.partly honest own))
