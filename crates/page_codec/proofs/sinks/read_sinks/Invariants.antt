use Rattle.page_codec.proofs.Prelude.{All, AllAdjacentBelow, IsHeld, flat_map, length, ◌*◌, ◌++◌, ◌+◌, ◌≡◌}
use Rattle.page_codec.specs.Sinks.{SinkIsBefore, sink_bytes}
use Rattle.page_codec.proofs.sinks.read_sinks.Given as goal

abbrev pub invariant-loop : goal.invariant-loop
invariant-loop l = record {
  len : length l.sinks.items ≡ l.counter;
  each : All (IsHeld l.side) l.sinks.items;
  in_order : AllAdjacentBelow SinkIsBefore l.sinks.items (length l.sinks.items);
  parts : l.bytes ≡ flat_map sink_bytes l.sinks.items ++ l.rest;
  behind : length l.rest + 8 * l.counter ≡ length l.bytes;
}
