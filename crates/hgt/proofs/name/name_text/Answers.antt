use Rattle.std.proofs.Common.{arith, rules}
use Rattle.std.proofs.lemmas.Grind.{common_steps}
use Rattle.hgt.proofs.NameLemmas.{IsName-name_bytes, IsName-same}
use Rattle.hgt.proofs.name.name_text.Goals as goal

pub returns-clause-value : goal.returns-clause-value
returns-clause-value c = grind (arith, common_steps)

pub returns-clause-name : goal.returns-clause-name
returns-clause-name c = rw (returns-clause-value c) (IsName-name_bytes c.args.corner (search rules))

pub returns-clause-only : goal.returns-clause-only
returns-clause-only c d is = IsName-same c.push_two_digits-2.new.text.bytes d c.args.corner is (returns-clause-name c)
