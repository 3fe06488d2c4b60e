use Rattle.std.proofs.Common.{ap, ◌∙◌}
use Rattle.lines.specs.Grammar.{AskEvent, AskNoTile}
use Rattle.lines.specs.Requests.{asked}
use Rattle.windows.proofs.Lines.{asked_for, imports, quits}
use Rattle.windows.proofs.line.question_of.Goals as goal

pub returns-in-Some-Ask : goal.returns-in-Some-Ask
returns-in-Some-Ask c =
    asked_for c.args.line.now c.in-Some-Ask.field-0 c.in-Some-Ask.event c.only_question.result (ap asked c.in-Some-Ask.field-0-is) c.in-Some-Ask.ensures.exact c.in-Some-Ask.ensures.only c.only_question.ensures

pub returns-in-Some-Import : goal.returns-in-Some-Import
returns-in-Some-Import c = imports c.args.line.now c.in-Some-Import.field-0-0.now c.in-Some-Import.field-0-1 (λ a asks. c.in-Some-Import.ensures.only a asks ∙ ap asked c.in-Some-Import.field-0-is)

pub returns-in-Some-Quit : goal.returns-in-Some-Quit
returns-in-Some-Quit c = quits c.args.line.now (λ a asks. c.in-Some-Quit.ensures.only a asks ∙ ap asked c.in-Some-Quit.field-0-is)

pub returns-in-None : goal.returns-in-None
returns-in-None c = ((λ event asks. c.in-None.ensures.exact (AskEvent event) asks.0), (λ none. c.in-None.ensures.exact AskNoTile none))
