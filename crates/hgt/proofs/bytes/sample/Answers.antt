use Rattle.std.proofs.Common.{◌≡◌, ◌*◌, ◌+◌, ◌∙◌, sym, get_or, of_z, to_z, w16, arith}
use Rattle.std.proofs.lemmas.Grind.{common_steps}
use Rattle.hgt.specs.Bytes.{sample_of}
use Rattle.hgt.proofs.BytesLemmas.{get_or-samples_in}
use Rattle.hgt.proofs.bytes.sample.Goals as goal

pub returns-clause-listed : goal.returns-clause-listed
returns-clause-listed c d =
    let value : to_z w16 (of_z w16 c.read_i16.result) ≡ sample_of (get_or c.args.bytes.now (2 * c.args.i) 0) (get_or c.args.bytes.now (2 * c.args.i + 1) 0) = grind (arith, common_steps) in
    get_or-samples_in c.args.bytes.now c.args.i d c.requires ∙ sym value
