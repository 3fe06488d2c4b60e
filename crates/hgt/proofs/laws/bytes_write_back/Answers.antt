use Rattle.hgt.proofs.BytesLemmas.{hgt_bytes-samples_in}
use Rattle.hgt.proofs.laws.bytes_write_back.Goals as goal

pub returns : goal.returns
returns c = hgt_bytes-samples_in
