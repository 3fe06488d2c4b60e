use Rattle.border_graph.proofs.Prelude.{IsThere, [], across, pos, refl, subst, sym, ◌∙◌, ◌∷◌}
use Rattle.border_graph.proofs.Listing.{listed_more, listed_less}
use Rattle.border_graph.proofs.Told.{there_if, not_there_if}
use Rattle.border_graph.proofs.tile_graph.push_across.Goals as goal
use Rattle.border_graph.proofs.tile_graph.push_across.Goals.{then-is_some+in_ok-push, else-is_some}

pub loop-spill-preserved : goal.loop-spill-preserved
loop-spill-preserved c =
    let there = c.ground_rim_point.ensures in
    elim c.if-is_some.branch [
      | then-is_some+in_ok-push w ↦ rw w.into-is (listed_more (λ s. IsThere c.args.side (c.args.summary.now ∷ []) 0 s.b) (across c.args.first) c.args.row.now c.loop-spill.spill-index _ (record { a = 0; b = 0; level = pos 0 }) c.loop-spill-test.true refl c.args.into.now.items
          c.loop-spill.into.items c.loop-spill.invariant w.push.new.self.items w.across.result
          (subst (IsThere c.args.side (c.args.summary.now ∷ []) 0) c.from.ensures (there_if (IsThere c.args.side (c.args.summary.now ∷ []) 0 c.from.result) _ c.ground_rim_point.result there.some (sym c.is_some.ensures ∙ w.if-is_some.true))) w.across.ensures w.in_ok-push.ensures.items)
      | else-is_some w ↦ rw w.into-is (listed_less (λ s. IsThere c.args.side (c.args.summary.now ∷ []) 0 s.b) (across c.args.first) c.args.row.now c.loop-spill.spill-index _ (record { a = 0; b = 0; level = pos 0 }) c.loop-spill-test.true refl c.args.into.now.items
          c.loop-spill.into.items c.loop-spill.invariant
          (λ on. not_there_if (IsThere c.args.side (c.args.summary.now ∷ []) 0 c.from.result) c.ground_rim_point.result there.none (sym c.is_some.ensures ∙ w.if-is_some.false) (subst (IsThere c.args.side (c.args.summary.now ∷ []) 0) (sym c.from.ensures) on)))
    ]
