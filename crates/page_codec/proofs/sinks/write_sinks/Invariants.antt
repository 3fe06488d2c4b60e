use Rattle.page_codec.proofs.Prelude.{flat_map, length, take, ◌*◌, ◌≡◌}
use Rattle.page_codec.specs.Sinks.{sink_bytes}
use Rattle.page_codec.proofs.sinks.write_sinks.Given as goal

abbrev pub invariant-loop-sink : goal.invariant-loop-sink
invariant-loop-sink l = record {
  written : l.writer ≡ flat_map sink_bytes (take l.sink-index l.sinks);
  len : length l.writer ≡ 8 * l.sink-index;
}
