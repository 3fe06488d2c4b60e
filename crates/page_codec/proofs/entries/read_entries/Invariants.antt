use Rattle.page_codec.proofs.Prelude.{All, AreInOrder, IsEntry, entry_bytes, flat_map, length, ◌*◌, ◌++◌, ◌+◌, ◌≡◌}
use Rattle.page_codec.proofs.entries.read_entries.Given as goal

abbrev pub invariant-loop : goal.invariant-loop
invariant-loop l = record {
  len : length l.entries.items ≡ l.counter;
  each : All IsEntry l.entries.items;
  in_order : AreInOrder l.entries.items;
  parts : l.bytes ≡ flat_map entry_bytes l.entries.items ++ l.rest;
  behind : length l.rest + 16 * l.counter ≡ length l.bytes;
}
