use Rattle.catalogue.proofs.Prelude.{Adjacent, Contains, Corner, Holds, List, None, ap, differ, subst, sym, ◌↔◌, ◌∙◌}
use Rattle.catalogue.proofs.Reading.{reads_nothing}
use Rattle.catalogue.proofs.Holders.{itself, samples_from_holders}
use Rattle.catalogue.proofs.seams_between.disagrees.Goals as goal

pub loop-corner-init : goal.loop-corner-init
loop-corner-init g c =
    let laws = g.met.S.Samples in
    let now = c.args.samples.now in
    record {
      reads = reads_nothing g.S.Samples laws.keeps_itself now None;
      found = λ honest.
          let m = g.S.Samples.mosaic now in
          let side = laws.same_side now honest ∙ sym c.side.ensures in
          let items = c.as_slice-corner-items.ensures.value in
          let exactly = subst (λ n. (d : Corner) → Contains c.holders-corners.result.items d ↔ Holds n d c.args.point) (sym side) c.holders-corners.ensures.exactly in
          ap differ (sym (samples_from_holders m c.args.point c.as_slice-corner-items.result.now (laws.is_mosaic now honest)
          (subst (Adjacent itself) (sym items) c.holders-corners.ensures.in_order)
          (subst (λ (cs : List Corner). (d : Corner) → Contains cs d ↔ Holds m.side d c.args.point) (sym items) exactly)));
    }
