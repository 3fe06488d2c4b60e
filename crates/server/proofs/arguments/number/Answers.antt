use Rattle.std.proofs.Common.{rules, ◌≡◌, ◌∙◌, sym, Some, None}
use Rattle.clap.specs.Words.{first_of, found_of, rows_of}
use Rattle.clap.proofs.WalkLemmas.{first_value-rows}
use Rattle.server.proofs.arguments.number.Goals as goal

pub returns-in_err-text : goal.returns-in_err-text
returns-in_err-text c =
    let none : first_of c.args.name.now (rows_of (found_of c.args.found.now)) ≡ None =
    sym (first_value-rows (found_of c.args.found.now) c.args.name.now) ∙ search rules in
    rw none (search rules)

pub returns : goal.returns
returns c =
    let some : first_of c.args.name.now (rows_of (found_of c.args.found.now)) ≡ Some c.in_ok-text.text.now =
    sym (first_value-rows (found_of c.args.found.now) c.args.name.now) ∙ search rules in
    rw some (search rules)
