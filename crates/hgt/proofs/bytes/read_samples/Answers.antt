use Rattle.std.proofs.Common.{◌∙◌, ◌*◌, ◌+◌, arith}
use Rattle.hgt.proofs.BytesLemmas.{samples_in_are}
use Rattle.hgt.proofs.Words.{sample_of_reads}
use Rattle.hgt.proofs.bytes.read_samples.Goals as goal

pub returns : goal.returns
returns c =
    samples_in_are c.args.bytes.now c.read_i16_into.new.dst (omega arith)
    (λ e d below. c.read_i16_into.ensures d e below ∙ sample_of_reads c.args.bytes.now (2 * e) (omega (arith, c.type_inv.bytes (2 * e))) (omega (arith, c.type_inv.bytes (2 * e + 1))))
