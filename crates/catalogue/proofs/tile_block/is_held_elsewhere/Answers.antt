use Rattle.catalogue.proofs.Prelude.{Contains, Corner, Holds, List, ap, arith, cases_eq, false, false_from_ne_true, false≢true, get_or, get_or_read, inl, inr, not, same_corner, subst, sym, ◌∙◌, ◌≡◌}
use Rattle.catalogue.proofs.Elsewhere.{elsewhere_from, not_elsewhere}
use Rattle.catalogue.proofs.tile_block.is_held_elsewhere.Goals as goal
use Rattle.catalogue.proofs.tile_block.is_held_elsewhere.Goals.{else-ne-via-then-ne+else-present, else-ne-via-else-ne}

pub returns-then-present : goal.returns-then-present
returns-then-present g c honest =
    let laws = g.met.S.Samples in
    let now = c.args.samples.now in
    let m = g.S.Samples.mosaic now in
    let corner : Corner = c.holder-item.result in
    let side = laws.same_side now honest ∙ sym c.side.ensures in
    let there = subst (λ (cs : List Corner). Contains cs corner) (sym (laws.same_corners now honest)) (c.present.ensures.answer.0 c.if-present.true) in
    let among = subst (λ (cs : List Corner). Contains cs corner) c.as_slice-holder-items.ensures.value (c.loop-holder.holder-index, c.loop-holder-test.true, sym c.holder-item.is) in
    let other : same_corner corner c.args.corner ≡ false = false_from_ne_true (same_corner corner c.args.corner) (λ same. false≢true (ap not (sym same) ∙ sym c.ne.ensures ∙ c.if-ne.true)) in
    sym (elsewhere_from m c.args.corner c.args.point (laws.is_mosaic now honest) corner there other
    (subst (λ n. Holds n corner c.args.point) (sym side) ((c.holders-corners.ensures.exactly corner).0 among)))

pub loop-holder-preserved : goal.loop-holder-preserved
loop-holder-preserved g c k d below other present =
    let items = c.as_slice-holder-items.result.now in
    elim (cases_eq k c.loop-holder.holder-index) [
      | inl this ↦
          let is : get_or items k d ≡ c.holder-item.result = ap (λ i. get_or items i d) this ∙ sym (get_or_read items c.loop-holder.holder-index c.holder-item.result c.loop-holder-test.true c.holder-item.is d) in
          let present_here = subst (λ (e : Corner). Contains (g.S.Samples.corners c.args.samples.now) e) is present in
          let other_here = subst (λ (e : Corner). same_corner e c.args.corner ≡ false) is other in
          elim c.else-ne.branch [
            | else-ne-via-then-ne+else-present w ↦ false≢true (sym w.if-present.false ∙ w.present.ensures.answer.1 present_here)
            | else-ne-via-else-ne w ↦ false≢true (sym w.if-ne.false ∙ c.ne.ensures ∙ ap not other_here)
          ]
      | inr apart ↦ c.loop-holder.invariant k d (omega arith) other present
    ]

pub returns : goal.returns
returns g c honest =
    let laws = g.met.S.Samples in
    let now = c.args.samples.now in
    let m = g.S.Samples.mosaic now in
    let items = c.as_slice-holder-items.result.now in
    let side = laws.same_side now honest in
    sym (not_elsewhere m c.args.corner c.args.point (laws.is_mosaic now honest) items
    (λ corner held. subst (λ (cs : List Corner). Contains cs corner) (sym c.as_slice-holder-items.ensures.value)
    ((c.holders-corners.ensures.exactly corner).1 (subst (λ n. Holds n corner c.args.point) (side ∙ sym c.side.ensures) held)))
    (λ k d below other present. c.loop-holder.invariant k d (omega (arith, below)) other
    (subst (λ (cs : List Corner). Contains cs (get_or items k d)) (laws.same_corners now honest) present)))
