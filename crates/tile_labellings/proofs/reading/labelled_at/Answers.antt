use Rattle.std.proofs.Common.{ℕ, ℤ, get_or, true≢false, sym, ◌∙◌, subst, rules, SFits, w16}
use Rattle.std.proofs.lemmas.Int.{to_z-of_z}
use Rattle.labelling.specs.Blocks.{block_of}
use Rattle.tile_flood.specs.Kept.{labels_in, levels_in}
use Rattle.labelling.specs.Labelling.{IsLabelling}
use Rattle.lattice.specs.Mosaic.{void}
use Rattle.tile_labellings.specs.Spots.{DoMarksFitAt}
use Rattle.tile_labellings.proofs.LabelledAt.{label_there, level_there, spot_fits}
use Rattle.tile_labellings.proofs.reading.labelled_at.Goals as goal

pub returns-then-do_marks_fit_at-clause-level : goal.returns-then-do_marks_fit_at-clause-level
returns-then-do_marks_fit_at-clause-level c bytes e stands =
    let fits : SFits w16 c.level_from-level.result = search rules in
    level_there bytes c.args.level.now e c.level_from-level.result stands c.level_from-level.ensures ∙ sym (to_z-of_z w16 c.level_from-level.result fits)

pub returns-then-do_marks_fit_at-clause-label : goal.returns-then-do_marks_fit_at-clause-label
returns-then-do_marks_fit_at-clause-label c bytes e stands = label_there bytes c.args.label.now e c.label_from-label.result stands c.label_from-label.ensures

pub returns-else-do_marks_fit_at-clause-sound : goal.returns-else-do_marks_fit_at-clause-sound
returns-else-do_marks_fit_at-clause-sound c b levels labels e side is least small at_level at_label =
    let n = c.args.side in
    let test = c.do_marks_fit_at.ensures in
    let as_read : IsLabelling (block_of n b.heights b.sinks) (levels_in levels) (labels_in labels) = subst (λ (k : ℕ). IsLabelling (block_of k b.heights b.sinks) (levels_in levels) (labels_in labels)) side is in
    let fits = spot_fits n b.heights b.sinks (levels_in levels) (labels_in labels) test.low test.high least as_read e small in
    let in_range : SFits w16 c.level_from-level.result = search rules in
    let level = level_there levels c.args.level.now e c.level_from-level.result at_level c.level_from-level.ensures ∙ sym (to_z-of_z w16 c.level_from-level.result in_range) in
    let label = label_there labels c.args.label.now e c.label_from-label.result at_label c.label_from-label.ensures in
    let fit = subst (λ (v : ℤ). DoMarksFitAt n v c.label_from-label.result) level (subst (λ (k : ℕ). DoMarksFitAt n (get_or (levels_in levels) e void) k) label fits) in
    absurd (true≢false (sym (test.no fit) ∙ c.if-do_marks_fit_at.false))
