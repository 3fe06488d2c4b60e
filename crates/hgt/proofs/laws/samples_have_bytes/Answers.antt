use Rattle.hgt.proofs.BytesLemmas.{AreHgtBytes-hgt_bytes}
use Rattle.hgt.proofs.laws.samples_have_bytes.Goals as goal

pub returns : goal.returns
returns c = AreHgtBytes-hgt_bytes
