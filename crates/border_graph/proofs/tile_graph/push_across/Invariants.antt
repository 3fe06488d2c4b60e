use Rattle.border_graph.proofs.Prelude.{AreListed, IsThere, [], across, ◌∷◌}
use Rattle.border_graph.proofs.tile_graph.push_across.Given as goal

abbrev pub invariant-loop-spill : goal.invariant-loop-spill
invariant-loop-spill l = AreListed (λ s. IsThere l.side (l.summary ∷ []) 0 s.b) (across l.first) l.row l.spill-index l.fn.into.items l.into.items
