use Rattle.std.proofs.Common.{◌∙◌, refl}
use Rattle.hgt.proofs.BytesLemmas.{hgt_bytes-flat_map}
use Rattle.hgt.proofs.bytes.write_samples.Goals as goal

pub returns : goal.returns
returns c = c.write_i16_into.ensures ∙ hgt_bytes-flat_map _ c.args.samples.now (λ s. refl)
