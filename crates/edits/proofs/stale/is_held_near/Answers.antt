use Rattle.edits.proofs.Prelude.{Corner, Holds, List, ap, are_neighbours, arith, cases_eq, false≢true, get_or, inl, inr, subst, sym, true, ◌∙◌, ◌≡◌, ◌≤◌}
use Rattle.std.specs.Prelude.{Contains}
use Rattle.std.proofs.lemmas.List.{get_or_read}
use Rattle.edits.proofs.EditStale.{held_near, not_held_near}
use Rattle.edits.proofs.stale.is_held_near.Goals as goal
use Rattle.edits.proofs.stale.is_held_near.Goals.{else-are_neighbours-via-then-are_neighbours+else-present, else-are_neighbours-via-else-are_neighbours}

pub returns-then-present : goal.returns-then-present
returns-then-present g c =
    let now = c.args.samples.now in
    let n = g.S.Samples.side_of now in
    let cs = g.S.Samples.corners now in
    let holder : Corner = c.holder-item.result in
    let there : Contains cs holder = c.present.ensures.answer.0 c.if-present.true in
    let among = subst (λ (l : List Corner). Contains l holder) c.as_slice-holder-items.ensures.value (c.loop-holder.holder-index, c.loop-holder-test.true, sym c.holder-item.is) in
    let held = subst (λ k. Holds k holder c.args.point) c.side-side.ensures ((c.holders-corners.ensures.exactly holder).0 among) in
    sym (held_near n (subst (λ k. 3 ≤ k) c.side-side.ensures c.edge-edge.ensures.low) cs c.requires c.args.point c.args.corner holder there held (sym c.are_neighbours.ensures ∙ c.if-are_neighbours.true))

pub loop-holder-preserved : goal.loop-holder-preserved
loop-holder-preserved g c k d below present close =
    let items = c.as_slice-holder-items.result.now in
    elim (cases_eq k c.loop-holder.holder-index) [
      | inl this ↦
          let is : get_or items k d ≡ c.holder-item.result = ap (λ i. get_or items i d) this ∙ sym (get_or_read items c.loop-holder.holder-index c.holder-item.result c.loop-holder-test.true c.holder-item.is d) in
          let present_here = subst (λ (e : Corner). Contains (g.S.Samples.corners c.args.samples.now) e) is present in
          let close_here : are_neighbours c.holder-item.result c.args.corner ≡ true = ap (λ (e : Corner). are_neighbours e c.args.corner) (sym is) ∙ close in
          elim c.else-are_neighbours.branch [
            | else-are_neighbours-via-then-are_neighbours+else-present w ↦ false≢true (sym w.if-present.false ∙ w.present.ensures.answer.1 present_here)
            | else-are_neighbours-via-else-are_neighbours w ↦ false≢true (sym w.if-are_neighbours.false ∙ c.are_neighbours.ensures ∙ close_here)
          ]
      | inr other ↦ c.loop-holder.invariant k d (omega arith) present close
    ]

pub returns : goal.returns
returns g c =
    let now = c.args.samples.now in
    let n = g.S.Samples.side_of now in
    let cs = g.S.Samples.corners now in
    let items = c.as_slice-holder-items.result.now in
    sym (not_held_near n (subst (λ k. 3 ≤ k) c.side-side.ensures c.edge-edge.ensures.low) cs c.requires c.args.point c.args.corner items
    (λ corner held. subst (λ (l : List Corner). Contains l corner) (sym c.as_slice-holder-items.ensures.value)
    ((c.holders-corners.ensures.exactly corner).1 (subst (λ k. Holds k corner c.args.point) (sym c.side-side.ensures) held)))
    (λ k d below. c.loop-holder.invariant k d (omega (arith, below))))
