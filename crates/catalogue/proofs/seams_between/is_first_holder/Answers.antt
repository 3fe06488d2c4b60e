use Rattle.catalogue.proofs.Prelude.{Adjacent, Contains, Corner, Holds, List, ap, is_first, is_present, subst, sym, ◌↔◌, ◌∙◌}
use Rattle.std.proofs.lemmas.Bool.{cond-true, cond-false, false≢true, false_from_ne_true}
use Rattle.catalogue.proofs.Presence.{present_iff}
use Rattle.catalogue.proofs.Holders.{itself}
use Rattle.catalogue.proofs.PresentHolders.{present_holders_are, first_step}
use Rattle.catalogue.proofs.seams_between.is_first_holder.Goals as goal

pub loop-holder-init : goal.loop-holder-init
loop-holder-init g c honest =
    let laws = g.met.S.Samples in
    let now = c.args.samples.now in
    let m = g.S.Samples.mosaic now in
    let side = laws.same_side now honest ∙ sym c.side.ensures in
    let items = c.as_slice-holder-items.ensures.value in
    let exactly = subst (λ n. (d : Corner) → Contains c.holders-corners.result.items d ↔ Holds n d c.args.point) (sym side) c.holders-corners.ensures.exactly in
    ap (is_first c.args.corner) (present_holders_are m c.args.point c.as_slice-holder-items.result.now (laws.is_mosaic now honest)
    (subst (Adjacent itself) (sym items) c.holders-corners.ensures.in_order)
    (subst (λ (cs : List Corner). (d : Corner) → Contains cs d ↔ Holds m.side d c.args.point) (sym items) exactly))

pub loop-holder-preserved : goal.loop-holder-preserved
loop-holder-preserved g c honest =
    let laws = g.met.S.Samples in
    let now = c.args.samples.now in
    let m = g.S.Samples.mosaic now in
    let h : Corner = c.holder-item.result in
    let absent = false_from_ne_true (is_present m h) (λ there.
    false≢true (sym c.if-present.false ∙ c.present.ensures.answer.1 (subst (λ (cs : List Corner). Contains cs h) (laws.same_corners now honest) ((present_iff m h).0 there)))) in
    c.loop-holder.invariant honest
    ∙ first_step (λ d. is_present m d) c.args.corner h c.as_slice-holder-items.result.now c.loop-holder.holder-index c.loop-holder-test.true c.holder-item.is
    ∙ cond-false (is_present m h) _ _ absent

pub returns-then-present : goal.returns-then-present
returns-then-present g c honest =
    let laws = g.met.S.Samples in
    let now = c.args.samples.now in
    let m = g.S.Samples.mosaic now in
    let h : Corner = c.holder-item.result in
    let there = (present_iff m h).1 (subst (λ (cs : List Corner). Contains cs h) (sym (laws.same_corners now honest)) (c.present.ensures.answer.0 c.if-present.true)) in
    c.eq.ensures
    ∙ sym (cond-true (is_present m h) _ _ there)
    ∙ sym (first_step (λ d. is_present m d) c.args.corner h c.as_slice-holder-items.result.now c.loop-holder.holder-index c.loop-holder-test.true c.holder-item.is)
    ∙ sym (c.loop-holder.invariant honest)
