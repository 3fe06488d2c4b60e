use Rattle.tile_flood.proofs.Prelude.{ap, arith, get_or, inl, inr, sym, true, true≢false, ◌/◌, ◌∙◌}
use Rattle.tile_flood.proofs.SameBands.{band_of_row}
use Rattle.tile_flood.proofs.flood.Flood.look_at_affected.Goals as goal

pub returns-clause-off : goal.returns-clause-off
returns-clause-off c b off e z low high before beside =
    let side = c.requires.marks.side.0 in
    absurd (elim (band_of_row c.args.n b e c.args.affected.point (omega arith) low high before beside) [
      | inl here ↦ true≢false (sym c.set_changed.ensures.set ∙ (ap (λ k. get_or c.set_changed.new.changed.items k true) (sym here) ∙ c.set_changed-2.ensures.still b off))
      | inr above ↦ true≢false (sym c.set_changed-2.ensures.set ∙ (ap (λ k. get_or c.set_changed-2.new.changed.items k true) (ap (λ r. r / 32) c.saturating_sub.ensures ∙ sym above) ∙ off))
    ])
