use Rattle.flow_d8.proofs.Prelude.{AreEnded, length, ◌*◌, ◌≡◌}
use Rattle.flow_d8.proofs.preparing.told_samples.Given as goal

abbrev pub invariant-loop-row : goal.invariant-loop-row
invariant-loop-row l = record {
  whole : length l.flows.items ≡ l.row * l.tile.side;
  ended : AreEnded l.tile.side l.tile.levels.now l.around (l.row * l.tile.side) l.flows.items;
}
