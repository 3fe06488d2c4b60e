use Rattle.page_codec.proofs.Prelude.{IsRecord, flat_map, length, ◌*◌, ◌++◌, ◌+◌, ◌≡◌}
use Rattle.page_codec.specs.Numbers.{u32_bytes}
use Rattle.page_codec.proofs.record.split_pages.Given as goal

abbrev pub invariant-loop : goal.invariant-loop
invariant-loop l = record {
  parts : l.bytes ≡ flat_map u32_bytes l.pages.items ++ l.rest;
  pages : IsRecord l.counter l.pages.items;
  behind : length l.rest + 4 * l.counter ≡ length l.bytes;
}
