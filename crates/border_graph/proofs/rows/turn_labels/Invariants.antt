use Rattle.border_graph.specs.Rows.{AreLabelsTurned}
use Rattle.border_graph.proofs.rows.turn_labels.Given as goal

abbrev pub invariant-loop-number : goal.invariant-loop-number
invariant-loop-number l = AreLabelsTurned l.side l.summary l.number l.fn.back.items l.back.items
