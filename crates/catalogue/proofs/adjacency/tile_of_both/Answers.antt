use Rattle.catalogue.proofs.Prelude.{Contains, Corner, Holds, List, ap, arith, cases_eq, false≢true, get_or, get_or_read, inl, inr, subst, sym, ◌∙◌, ◌≡◌}
use Rattle.catalogue.proofs.Sharing.{not_shared}
use Rattle.catalogue.proofs.adjacency.tile_of_both.Goals as goal
use Rattle.catalogue.proofs.adjacency.tile_of_both.Goals.{else-present-via-then-present+else-is_some, else-present-via-else-present}

pub loop-corner-preserved : goal.loop-corner-preserved
loop-corner-preserved g c k d below present held =
    let items = c.as_slice-corner-items.result.now in
    elim (cases_eq k c.loop-corner.corner-index) [
      | inl this ↦
          let is : get_or items k d ≡ c.corner-item.result = ap (λ i. get_or items i d) this ∙ sym (get_or_read items c.loop-corner.corner-index c.corner-item.result c.loop-corner-test.true c.corner-item.is d) in
          let present_here = subst (λ (e : Corner). Contains (g.S.Samples.corners c.args.samples.now) e) is present in
          let held_here = subst (λ (e : Corner). Holds (g.S.Samples.side_of c.args.samples.now) e c.args.q) is held in
          elim c.else-present.branch [
            | else-present-via-then-present+else-is_some w ↦
                let found = w.index_in.ensures.held.1 (subst (λ n. Holds n c.corner-item.result c.args.q) (sym c.side-side.ensures) held_here) in
                false≢true (sym w.if-is_some.false ∙ w.is_some.ensures ∙ found)
            | else-present-via-else-present w ↦ false≢true (sym w.if-present.false ∙ c.present.ensures.answer.1 present_here)
          ]
      | inr other ↦ c.loop-corner.invariant k d (omega arith) present held
    ]

pub returns-clause-none : goal.returns-clause-none
returns-clause-none g c honest =
    let laws = g.met.S.Samples in
    let now = c.args.samples.now in
    let m = g.S.Samples.mosaic now in
    let items = c.as_slice-corner-items.result.now in
    let side = laws.same_side now honest in
    not_shared m c.args.p c.args.q items (laws.is_mosaic now honest)
    (λ corner held. subst (λ (cs : List Corner). Contains cs corner) (sym c.as_slice-corner-items.ensures.value)
    ((c.holders-corners.ensures.exactly corner).1 (subst (λ n. Holds n corner c.args.p) (side ∙ sym c.side-side.ensures) held)))
    (λ k d below present held. c.loop-corner.invariant k d (omega (arith, below))
    (subst (λ (cs : List Corner). Contains cs (get_or items k d)) (laws.same_corners now honest) present)
    (subst (λ n. Holds n (get_or items k d) c.args.q) side held))
