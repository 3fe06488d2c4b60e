use Rattle.hgt.proofs.BytesLemmas.{samples_are_samples_in}
use Rattle.hgt.proofs.laws.samples_are_determined.Goals as goal

pub returns : goal.returns
returns c = samples_are_samples_in
