use Rattle.std.proofs.Common.{rules, ◌≡◌, ◌∙◌, ap, sym, true, map, []}
use Rattle.std.proofs.lemmas.Bool.{both_ways}
use Rattle.clap.specs.Faults.{fault_of, is_simple_and_free}
use Rattle.clap.specs.Words.{App, is_simple, subcommand_of, subcommand_rows_of, takes}
use Rattle.server.specs.Subcommands.{program_app, texts_of}
use Rattle.server.proofs.CommandLineLemmas.{free_app, no_options, read_bad, read_ok, simple_app, some_option, takes_asked}
use Rattle.server.proofs.arguments.Arguments.parse.Goals as goal

pub returns-then-has_option-clause-bad : goal.returns-then-has_option-clause-bad
returns-then-has_option-clause-bad g c = λ e a asked.
    some_option g.S.AsStr.text c.args.words.now (c.has_option.ensures.0 c.if-has_option.true) asked.0

pub returns-in-Ok-try_get_matches_from-clause-ok :
    goal.returns-in-Ok-try_get_matches_from-clause-ok
returns-in-Ok-try_get_matches_from-clause-ok g c =
    let words = map g.S.AsStr.text c.args.words.now in
    let app_is = c.in-Ok.ensures in
    let found = c.in-Ok-try_get_matches_from in
    let rows = (found.ensures.matches (ap is_simple app_is ∙ simple_app)).1 ∙ ap (λ (a : App). subcommand_of a words) app_is in
    let faultless : fault_of program_app words ≡ [] =
    ap (λ (a : App). fault_of a words) (sym app_is) ∙ found.ensures.kinds (ap is_simple_and_free app_is ∙ free_app) in
    rw c.ok_or.ensures.value
    (read_ok words c.asked.result (texts_of (subcommand_rows_of found.matches)) (ap texts_of rows) c.asked.ensures
    (no_options g.S.AsStr.text c.args.words.now (λ some. both_ways _ c.if-has_option.false (c.has_option.ensures.1 some))) faultless)

pub returns-in-Ok-try_get_matches_from-clause-bad :
    goal.returns-in-Ok-try_get_matches_from-clause-bad
returns-in-Ok-try_get_matches_from-clause-bad g c = λ e.
    let words = map g.S.AsStr.text c.args.words.now in
    let app_is = c.in-Ok.ensures in
    let found = c.in-Ok-try_get_matches_from in
    let rows = (found.ensures.matches (ap is_simple app_is ∙ simple_app)).1 ∙ ap (λ (a : App). subcommand_of a words) app_is in
    read_bad words c.asked.result (texts_of (subcommand_rows_of found.matches)) (ap texts_of rows) c.asked.ensures (sym c.ok_or.ensures.value ∙ e)

pub returns-clause-bad : goal.returns-clause-bad
returns-clause-bad g c = λ e a asked.
    let words = map g.S.AsStr.text c.args.words.now in
    let memory = c.in-Err-2.ensures.passes (ap (λ (p : App). takes p words) c.in-Ok.ensures ∙ takes_asked words a asked) in
    let same : c.eq.result ≡ true = search rules in
    both_ways _ c.if-eq.false same
