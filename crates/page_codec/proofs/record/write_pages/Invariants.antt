use Rattle.page_codec.proofs.Prelude.{flat_map, length, take, ◌*◌, ◌≡◌}
use Rattle.page_codec.specs.Numbers.{u32_bytes}
use Rattle.page_codec.proofs.record.write_pages.Given as goal

abbrev pub invariant-loop-page : goal.invariant-loop-page
invariant-loop-page l = record {
  written : l.writer ≡ flat_map u32_bytes (take l.page-index l.pages);
  len : length l.writer ≡ 4 * l.page-index;
}
