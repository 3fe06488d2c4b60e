use Rattle.border_graph.proofs.Prelude.{map, spill_of, take, ◌≡◌}
use Rattle.border_graph.proofs.reducing.spills_of.Given as goal

abbrev pub invariant-loop-pass : goal.invariant-loop-pass
invariant-loop-pass l = l.spills.items ≡ map (spill_of l.size) (take l.pass-index l.passes)
