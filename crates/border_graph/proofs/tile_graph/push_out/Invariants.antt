use Rattle.border_graph.proofs.Prelude.{AreListed, OUT, out_at, ◌≡◌}
use Rattle.border_graph.proofs.tile_graph.push_out.Given as goal

abbrev pub invariant-loop-spill : goal.invariant-loop-spill
invariant-loop-spill l = AreListed (λ s. s.b ≡ OUT) out_at l.row l.spill-index l.fn.into.items l.into.items
