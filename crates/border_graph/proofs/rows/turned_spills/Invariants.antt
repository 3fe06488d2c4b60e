use Rattle.border_graph.proofs.Prelude.{map, take, turned, ◌≡◌}
use Rattle.border_graph.proofs.rows.turned_spills.Given as goal

abbrev pub invariant-loop-spill : goal.invariant-loop-spill
invariant-loop-spill l = l.back.items ≡ map turned (take l.spill-index l.spills)
