use Rattle.std.proofs.Common.{◌≡◌, ◌<◌, ◌+◌, ◌-◌, rules, length, get_or, arith, ◌∙◌, ap}
use Rattle.std.proofs.lemmas.List.{take_rest}
use Rattle.hgt.proofs.NameLemmas.{base_name_from}
use Rattle.hgt.proofs.name.after_slash.Goals as goal

pub returns-in-Some : goal.returns-in-Some
returns-in-Some c =
    let inside : c.in-Some.i < length c.args.path.now = search rules in
    let here : get_or c.args.path.now c.in-Some.i 0 ≡ 47 = search rules in
    let before : get_or c.args.path.now (c.in-Some.i + 1 - 1) 0 ≡ 47 = ap (λ k. get_or c.args.path.now k 0) (omega arith) ∙ here in
    let base = base_name_from c.args.path.now (c.in-Some.i + 1) (omega arith) (λ _. before) (search rules) in
    rw (take_rest) base

pub returns-in-None : goal.returns-in-None
returns-in-None c = base_name_from c.args.path.now 0 (omega arith) (λ some. absurd (omega arith)) (search rules)
