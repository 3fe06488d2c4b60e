use Rattle.std.proofs.Common.{◌≡◌, ◌∙◌, inl, inr, refl, sym, false}
use Rattle.std.specs.Prelude.{Result, Ok, Err, is_ok}
use Rattle.engine.specs.declared.event.Reply.{Reply}
use Rattle.mosaic_tiles.specs.declared.store_reader.Unanswered.{Unanswered}
use Rattle.mosaic_tiles.proofs.reading.read_store.Goals as goal

refused : (r : Result Reply Unanswered) → is_ok r ≡ false → (why : Unanswered) × (r ≡ Err why)
refused (Ok answer) none = absurd (cc)
refused (Err why) none = (why, refl)

pub returns-then-not-is_there : goal.returns-then-not-is_there
returns-then-not-is_there g c = inl (refl, c.tell_fault.ensures)

pub returns-then-has_failed : goal.returns-then-has_failed
returns-then-has_failed g c =
    inr (
      c.ask-first.result,
      c.answer_text.result,
      c.ask-first.ensures,
      c.answer_text.ensures,
      inr (g.O.Output.stream c.put_reply-2.new.self, c.put_reply-2.ensures, inl (refl, c.has_failed.ensures.0 c.if-has_failed.true, c.end_fault.ensures.line, c.end_fault.ensures.status)),
    )

pub returns-then-not-opened : goal.returns-then-not-opened
returns-then-not-opened g c =
    let why = refused c.ask-first.result (sym c.is_ok-opened.ensures.value ∙ c.if-not-opened.true) in
    inr (c.ask-first.result, c.answer_text.result, c.ask-first.ensures, c.answer_text.ensures, inl (why.0, why.1, refl, c.put_reply-2.ensures, refl))

pub returns : goal.returns
returns g c =
    let served = c.serve_items-served.ensures in
    inr (
      c.ask-first.result,
      c.answer_text.result,
      c.ask-first.ensures,
      c.answer_text.ensures,
      inr (
        g.O.Output.stream c.put_reply-2.new.self,
        c.put_reply-2.ensures,
        inr (g.O.Output.stream c.serve_items-served.new.writer, c.ask-first.new.self, served.calls.0, c.serve_items-served.result, served.calls.1.1, c.end_session.ensures served.output.caused),
      ),
    )
