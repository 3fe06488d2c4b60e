use Rattle.std.proofs.Common.{◌∙◌, ap₂, sym}
use Rattle.std.specs.Borrow.{Bor}
use Rattle.std.proofs.lemmas.List.Sums.{fold_more}
use Rattle.clap.specs.Words.{App, Text, new_app, with_rule}
use Rattle.server.specs.Subcommands.{required_text}
use Rattle.server.proofs.arguments.words.Goals as goal

abbrev step : App → Bor Text → App
step a text = with_rule a (required_text text.now)

pub loop-text-preserved : goal.loop-text-preserved
loop-text-preserved c =
    c.in_ok-command.ensures.shape c.required.ensures.local
    ∙ ap₂ with_rule c.loop-text.invariant c.required.ensures.rule
    ∙ sym (fold_more step (new_app c.args.name.now) c.args.texts.now c.loop-text.text-index _ c.loop-text-test.true)
