use Rattle.std.proofs.lemmas.Bool.{both_ways}
use Rattle.lines.proofs.GrammarLaws.{only_one}
use Rattle.lines.proofs.RequestLemmas.{no_command, no_such, parsed}
use Rattle.lines.proofs.grammar.request_of.Goals as goal

pub returns-in_err-command-clause-exact : goal.returns-in_err-command-clause-exact
returns-in_err-command-clause-exact c =
    rw c.from_residual.ensures (no_command c.args.language _ c.text_of.result.now _ _ c.text_of.ensures c.first_word-arguments.ensures (λ k spelt has. c.in_err-command.ensures k spelt))

pub returns-then-not-has-clause-exact : goal.returns-then-not-has-clause-exact
returns-then-not-has-clause-exact c =
    no_such c.args.language _ c.text_of.result.now _ _ c.in_ok-command.command c.text_of.ensures c.first_word-arguments.ensures c.in_ok-command.ensures (λ has. both_ways c.has.result c.if-not-has.true (c.has.ensures.1 has))

pub returns-clause-exact : goal.returns-clause-exact
returns-clause-exact c =
    parsed c.args.language _ c.text_of.result.now _ _ c.in_ok-command.command _ c.requires c.text_of.ensures c.first_word-arguments.ensures c.in_ok-command.ensures (c.has.ensures.0 c.if-not-has.false) c.with_arguments.ensures

pub returns-clause-only : goal.returns-clause-only
returns-clause-only c =
    only_one c.args.language c.args.line.now c.with_arguments.result
    (parsed c.args.language _ c.text_of.result.now _ _ c.in_ok-command.command _ c.requires c.text_of.ensures c.first_word-arguments.ensures c.in_ok-command.ensures (c.has.ensures.0 c.if-not-has.false) c.with_arguments.ensures)
