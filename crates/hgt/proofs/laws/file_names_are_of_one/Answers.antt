use Rattle.std.proofs.Common.{take}
use Rattle.hgt.specs.Names.{base_name}
use Rattle.hgt.proofs.NameLemmas.{IsName-same}
use Rattle.hgt.proofs.laws.file_names_are_of_one.Goals as goal

pub returns : goal.returns
returns c path d e is_d is_e = IsName-same (take 7 (base_name path)) d e is_d.name is_e.name
