use Rattle.std.proofs.Common.{ℕ, ℤ, List, true≢false, sym, ◌∙◌, subst}
use Rattle.labelling.specs.Blocks.{LabelledGround, block_of}
use Rattle.tile_flood.specs.Kept.{levels_in}
use Rattle.labelling.specs.Labelling.{IsLabelling}
use Rattle.tile_labellings.specs.Labellings.{AreLevelsOfRim}
use Rattle.tile_labellings.proofs.Fitting.{marks_fit}
use Rattle.tile_labellings.proofs.reading.labelled_from.Goals as goal

pub returns-else-do_marks_fit-clause-sound : goal.returns-else-do_marks_fit-clause-sound
returns-else-do_marks_fit-clause-sound c b side is least =
    let l = c.in-Some.labelled in
    let bad = c.do_marks_fit.ensures.no (λ on. true≢false (sym on ∙ c.if-do_marks_fit.false)) in
    let of_rim : AreLevelsOfRim l.side l.levels c.deref.result.now = subst (λ (rim : List ℤ). AreLevelsOfRim l.side l.levels rim) (sym c.deref.ensures.value) c.in_ok-rim.ensures in
    let as_read : IsLabelling (block_of l.side b.heights b.sinks) l.levels l.labels =
    subst (λ (g : LabelledGround). IsLabelling (block_of g.side b.heights b.sinks) g.levels g.labels) (sym c.in-Some.ensures.1)
    (subst (λ (n : ℕ). IsLabelling (block_of n b.heights b.sinks) c.in_ok-levels.levels.items c.in_ok-labels.labels.items) side
    (subst (λ (ls : List ℤ). IsLabelling b ls c.in_ok-labels.labels.items) (sym c.in_ok-levels.ensures)
    (subst (λ (ks : List ℕ). IsLabelling b (levels_in c.args.levels.now) ks) (sym c.in_ok-labels.ensures) is))) in
    absurd (marks_fit l.side b.heights b.sinks l.levels l.labels c.do_marks_fit.ensures.low c.do_marks_fit.ensures.high least as_read c.deref.result.now of_rim bad.0 bad.1.0 bad.1.1)
