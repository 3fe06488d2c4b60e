use Rattle.border_graph.proofs.Prelude.{OUT, out_at, pos, refl, ◌≡◌}
use Rattle.border_graph.proofs.Listing.{listed_more, listed_less}
use Rattle.border_graph.proofs.tile_graph.push_out.Goals as goal
use Rattle.border_graph.proofs.tile_graph.push_out.Goals.{then-spill+in_ok-push, else-spill}

pub loop-spill-preserved : goal.loop-spill-preserved
loop-spill-preserved c = elim c.if-spill.branch [
  | then-spill+in_ok-push w ↦ rw w.into-is (listed_more (λ s. s.b ≡ OUT) out_at c.args.row.now c.loop-spill.spill-index _ (record { a = 0; b = 0; level = pos 0 }) c.loop-spill-test.true refl c.args.into.now.items c.loop-spill.into.items c.loop-spill.invariant
      w.push.new.self.items w.out_at.result w.if-spill.true w.out_at.ensures w.in_ok-push.ensures.items)
  | else-spill w ↦ rw w.into-is (listed_less (λ s. s.b ≡ OUT) out_at c.args.row.now c.loop-spill.spill-index _ (record { a = 0; b = 0; level = pos 0 }) c.loop-spill-test.true refl c.args.into.now.items c.loop-spill.into.items c.loop-spill.invariant w.if-spill.false)
]
