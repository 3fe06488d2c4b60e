use Rattle.std.proofs.Common.{◌∙◌, ap, refl}
use Rattle.tile_flood.specs.Kept.{levels_in}
use Rattle.tile_labellings.proofs.LittleBytes.{levels_back}
use Rattle.tile_labellings.proofs.bytes.write_levels.Goals as goal

pub returns : goal.returns
returns c = ap levels_in c.write_i16_into.ensures ∙ levels_back _ (λ z. refl) c.args.levels.now c.samples_in_range.ensures
