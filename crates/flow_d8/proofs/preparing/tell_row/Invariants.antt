use Rattle.flow_d8.proofs.Prelude.{AreEnded, length, ◌*◌, ◌+◌, ◌≡◌}
use Rattle.flow_d8.proofs.preparing.tell_row.Given as goal

abbrev pub invariant-loop-column : goal.invariant-loop-column
invariant-loop-column l = record {
  whole : length l.flows.items ≡ l.row * l.tile.side + l.column;
  ended : AreEnded l.tile.side l.tile.levels.now l.around (l.row * l.tile.side + l.column) l.flows.items;
}
