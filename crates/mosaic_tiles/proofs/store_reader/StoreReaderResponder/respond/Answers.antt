use Rattle.std.proofs.Common.{◌≡◌, refl, subst}
use Rattle.std.specs.Prelude.{Option, Some, None}
use Rattle.lattice.specs.declared.refusal.Refusal.TheVariants.{BadLine, BadName}
use Rattle.lines.specs.Grammar.{Asked, AskImport, AskEvent, AskNoTile, AskQuit}
use Rattle.serving.specs.Answers.{End, Refuse}
use Rattle.mosaic_tiles.specs.Reading.{ComesTo}
use Rattle.mosaic_tiles.proofs.store_reader.StoreReaderResponder.respond.Goals as goal

pub returns-in-Some-Ask : goal.returns-in-Some-Ask
returns-in-Some-Ask g c = λ language i holds.
    let asked : Some (AskEvent c.in-Some-Ask.event) ≡ i.asked = rw (c.in-Some-Ask.is, c.in-Some-Ask.field-0-is) at holds.asked in
    (c.answer.ensures.0, subst (λ (o : Option Asked). ComesTo o c.answer.ensures.0) asked c.answer.ensures.1, c.answer.ensures.2)

pub returns-in-Some-Import : goal.returns-in-Some-Import
returns-in-Some-Import g c = λ language i holds.
    let asked : Some (AskImport c.in-Some-Import.field-0-0.now c.in-Some-Import.field-0-1) ≡ i.asked = rw (c.in-Some-Import.is, c.in-Some-Import.field-0-is) at holds.asked in
    (Refuse BadLine, subst (λ (o : Option Asked). ComesTo o (Refuse BadLine)) asked refl, c.refused.ensures)

pub returns-in-Some-BadName : goal.returns-in-Some-BadName
returns-in-Some-BadName g c = λ language i holds.
    let asked : Some AskNoTile ≡ i.asked = rw (c.in-Some-BadName.is, c.in-Some-BadName.field-0-is) at holds.asked in
    (Refuse BadName, rw (← asked) refl, c.refused-in-Some-BadName.ensures)

pub returns-in-Some-Quit : goal.returns-in-Some-Quit
returns-in-Some-Quit g c = λ language i holds.
    let asked : Some AskQuit ≡ i.asked = rw (c.in-Some-Quit.is, c.in-Some-Quit.field-0-is) at holds.asked in
    (End, rw (← asked) refl, c.done.ensures)

pub returns : goal.returns
returns g c = λ language i holds.
    let asked : None ≡ i.asked = rw (c.in-None.is) at holds.asked in
    (Refuse BadLine, rw (← asked) refl, c.refused-in-None.ensures)
