use Rattle.page_codec.proofs.Prelude.{entry_bytes, flat_map, length, take, ◌*◌, ◌≡◌}
use Rattle.page_codec.proofs.entries.write_entries.Given as goal

abbrev pub invariant-loop-entry : goal.invariant-loop-entry
invariant-loop-entry l = record {
  written : l.writer ≡ flat_map entry_bytes (take l.entry-index l.entries);
  len : length l.writer ≡ 16 * l.entry-index;
}
