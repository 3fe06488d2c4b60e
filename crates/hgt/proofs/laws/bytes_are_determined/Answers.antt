use Rattle.hgt.proofs.BytesLemmas.{bytes_are_hgt_bytes}
use Rattle.hgt.proofs.laws.bytes_are_determined.Goals as goal

pub returns : goal.returns
returns c = bytes_are_hgt_bytes
