use Rattle.std.proofs.Common.{◌≡◌, ℕ, ◌+◌, ◌<◌, ◌≤◌, length}
use Rattle.flow_d8.specs.Preparing.{flow_in, IsPlaceFlow}
use Rattle.flow_d8.proofs.preparing.tell_places.Given as goal

abbrev pub invariant-loop-k : goal.invariant-loop-k
invariant-loop-k l = record {
  whole : length l.flows ≡ length l.tile.levels.now;
  told : (j : ℕ) → l.width + 1 ≤ j → j < l.k → IsPlaceFlow l.tile.levels.now l.width j (flow_in l.flows j);
}
