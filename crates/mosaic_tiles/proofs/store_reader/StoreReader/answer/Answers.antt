use Rattle.std.proofs.Common.{◌≡◌, inl, inr, refl, subst, ap, ◌∙◌}
use Rattle.engine.specs.declared.event.Event.{Event}
use Rattle.lattice.specs.declared.refusal.Refusal.TheVariants.{BadLine}
use Rattle.lines.specs.Replies.{refusal_text}
use Rattle.serving.specs.Answers.{Ask, Refuse}
use Rattle.mosaic_tiles.specs.Reading.{AnswersOrNot}
use Rattle.mosaic_tiles.proofs.store_reader.StoreReader.answer.Goals as goal

pub returns-in-Ok : goal.returns-in-Ok
returns-in-Ok g c =
    let same : c.in-Ok.question ≡ c.args.event = c.in-Ok.ensures.0 in (
      Ask c.args.event,
      inl (c.in-Ok.ensures.1, refl),
      (c.ask.result, subst (λ (event : Event). AnswersOrNot g.D.Disk event c.ask.result) same c.ask.ensures, c.answer_text.ensures),
    )

pub returns-in-Err : goal.returns-in-Err
returns-in-Err g c = (Refuse BadLine, inr (c.in-Err.ensures.1, refl), c.refused.ensures ∙ ap refusal_text c.in-Err.ensures.0)
