use Rattle.hgt.proofs.NameLemmas.{IsName-name_bytes}
use Rattle.hgt.proofs.laws.corners_have_names.Goals as goal

pub returns : goal.returns
returns c = IsName-name_bytes
