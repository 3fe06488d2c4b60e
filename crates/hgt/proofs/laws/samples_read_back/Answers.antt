use Rattle.hgt.proofs.BytesLemmas.{samples_in-hgt_bytes}
use Rattle.hgt.proofs.laws.samples_read_back.Goals as goal

pub returns : goal.returns
returns c = samples_in-hgt_bytes
