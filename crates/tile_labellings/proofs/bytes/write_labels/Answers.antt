use Rattle.std.proofs.Common.{◌∙◌, ap, refl}
use Rattle.tile_flood.specs.Kept.{labels_in}
use Rattle.tile_labellings.proofs.LittleBytes.{labels_back}
use Rattle.tile_labellings.proofs.bytes.write_labels.Goals as goal

pub returns : goal.returns
returns c = ap labels_in c.write_u16_into.ensures ∙ labels_back _ (λ n. refl) c.args.labels.now c.labels_in_range.ensures
