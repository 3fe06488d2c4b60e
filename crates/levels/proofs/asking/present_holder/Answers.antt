use Rattle.levels.proofs.Prelude.{Contains, Corner, Holds, List, ap, arith, cases_eq, false≢true, get_or, get_or_read, inl, inr, subst, sym, ◌∙◌, ◌≡◌}
use Rattle.levels.proofs.asking.present_holder.Goals as goal

pub returns-then-present-clause-some : goal.returns-then-present-clause-some
returns-then-present-clause-some g c =
    let corner : Corner = c.corner-item.result in
    let among = subst (λ (cs : List Corner). Contains cs corner) c.as_slice-corner-items.ensures.value (c.loop-corner.corner-index, c.loop-corner-test.true, sym c.corner-item.is) in
    (c.present.ensures.answer.0 c.if-present.true, subst (λ n. Holds n corner c.args.point) c.side.ensures ((c.holders-corners.ensures.exactly corner).0 among))

pub loop-corner-preserved : goal.loop-corner-preserved
loop-corner-preserved g c k d below present =
    let items = c.as_slice-corner-items.result.now in
    elim (cases_eq k c.loop-corner.corner-index) [
      | inl this ↦
          let is : get_or items k d ≡ c.corner-item.result = ap (λ i. get_or items i d) this ∙ sym (get_or_read items c.loop-corner.corner-index c.corner-item.result c.loop-corner-test.true c.corner-item.is d) in
          false≢true (sym c.if-present.false ∙ c.present.ensures.answer.1 (subst (λ (e : Corner). Contains (g.S.Samples.corners c.args.samples.now) e) is present))
      | inr other ↦ c.loop-corner.invariant k d (omega arith) present
    ]

pub returns-clause-none : goal.returns-clause-none
returns-clause-none g c = λ corner there held.
    let items = c.as_slice-corner-items.result.now in
    let among : Contains items corner = subst (λ (cs : List Corner). Contains cs corner) (sym c.as_slice-corner-items.ensures.value) ((c.holders-corners.ensures.exactly corner).1 (subst (λ n. Holds n corner c.args.point) (sym c.side.ensures) held)) in
    c.loop-corner.invariant among.0 corner (omega (arith, among.1)) (subst (λ (e : Corner). Contains (g.S.Samples.corners c.args.samples.now) e) (sym among.2) there)
