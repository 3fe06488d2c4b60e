use Rattle.std.proofs.Common.{◌≡◌, ◌∙◌, ap, w16, of_z}
use Rattle.std.proofs.lemmas.Int.{to_z-of_z}
use Rattle.hgt.specs.Bytes.{unsigned_of}
use Rattle.hgt.proofs.BytesLemmas.{samples_in-set}
use Rattle.hgt.proofs.Words.{IsSample-from_fits, word_of_sample}
use Rattle.hgt.proofs.bytes.put_sample.Goals as goal

pub returns-clause-bytes : goal.returns-clause-bytes
returns-clause-bytes c =
    let word : c.cast_unsigned.result ≡ unsigned_of c.args.sample =
    c.cast_unsigned.ensures ∙ ap (of_z w16) (to_z-of_z w16 c.args.sample c.ranges.sample) ∙ word_of_sample c.args.sample in
    rw (c.to_be_bytes.ensures, word)

pub returns-clause-samples : goal.returns-clause-samples
returns-clause-samples c =
    rw (returns-clause-bytes c) (samples_in-set c.args.bytes.now c.args.i c.args.sample (IsSample-from_fits c.args.sample c.ranges.sample) c.requires)
