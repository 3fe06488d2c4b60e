use Rattle.hgt.proofs.NameLemmas.{IsName-same}
use Rattle.hgt.proofs.laws.names_are_of_one.Goals as goal

pub returns : goal.returns
returns c = IsName-same
