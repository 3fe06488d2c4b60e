use Rattle.border_graph.proofs.Forests.Others.{AddsThose}
use Rattle.border_graph.proofs.seams.edges_to_others.Given as goal

abbrev pub invariant-loop-corner : goal.invariant-loop-corner
invariant-loop-corner l = AddsThose l.side l.corners l.t l.point l.height l.corner-items l.corner-index l.fn.into.items l.into.items
