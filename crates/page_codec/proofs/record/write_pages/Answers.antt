use Rattle.page_codec.proofs.Prelude.{ap, flat_map, take_all, ◌∙◌}
use Rattle.page_codec.specs.Numbers.{u32_bytes, padded}
use Rattle.page_codec.specs.Records.{record_bytes}
use Rattle.page_codec.proofs.record.write_pages.Goals as goal

pub returns : goal.returns
unfolding record_bytes
returns c = c.finish.ensures ∙ ap (padded 4096) (c.loop-page.invariant.written ∙ ap (flat_map u32_bytes) (take_all c.loop-page.page-index c.args.pages.now c.loop-page-test.false))
