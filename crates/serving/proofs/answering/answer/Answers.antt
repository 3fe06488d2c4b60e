use Rattle.std.proofs.Common.{◌≡◌, length, refl, sym, subst}
use Rattle.std.specs.Prelude.{Option, Some, None}
use Rattle.lattice.specs.declared.refusal.Refusal.TheVariants.{BadLine, BadName}
use Rattle.lines.specs.Grammar.{Asked, AskImport, AskEvent, AskNoTile}
use Rattle.serving.specs.Answers.{ComesTo, Ask, Refuse}
use Rattle.serving.specs.Items.{Came, payload_len}
use Rattle.serving.proofs.SessionLemmas.{came_cut, came_whole}
use Rattle.serving.proofs.answering.answer.Goals as goal

pub returns-in-Some-Ask : goal.returns-in-Some-Ask
returns-in-Some-Ask g c = λ language i holds.
    let asked : Some (AskEvent c.in-Some-Ask.event) ≡ i.asked = rw (c.in-Some-Ask.is, c.in-Some-Ask.field-0-is) at holds.asked in
    (Ask c.in-Some-Ask.event, rw (← asked) refl, (_, c.answer.ensures, c.format_reply.ensures))

pub returns-in-Some-Import : goal.returns-in-Some-Import
returns-in-Some-Import g c = λ language i holds.
    let asked : Some (AskImport c.in-Some-Import.name.now c.in-Some-Import.len) ≡ i.asked = rw (c.in-Some-Import.is, c.in-Some-Import.field-0-is) at holds.asked in
    let came : Came i.fed c.args.item.extent (length i.payload) c.in-Some-Import.len =
    subst (λ (o : Option Asked). Came i.fed c.args.item.extent (length i.payload) (payload_len o)) (sym asked) holds.item.came in
    let out = c.answer_import.ensures i.payload holds.payload (came_whole i.fed c.args.item.extent (length i.payload) c.in-Some-Import.len came) (came_cut i.fed c.args.item.extent (length i.payload) c.in-Some-Import.len came) in
    (out.0, subst (λ (o : Option Asked). ComesTo (g.E.Engine.side_of c.args.engine.now) o i.payload out.0) asked out.1, out.2)

pub returns-in-Some-BadName : goal.returns-in-Some-BadName
returns-in-Some-BadName g c = λ language i holds.
    let asked : Some AskNoTile ≡ i.asked = rw (c.in-Some-BadName.is, c.in-Some-BadName.field-0-is) at holds.asked in
    (Refuse BadName, rw (← asked) refl, (c.refused.ensures, refl))

pub returns-in-None : goal.returns-in-None
returns-in-None g c = λ language i holds.
    let asked : None ≡ i.asked = rw (c.in-None.is) at holds.asked in
    (Refuse BadLine, rw (← asked) refl, (c.refused-in-None.ensures, refl))
