use Rattle.std.proofs.Common.{◌≡◌, ℤ, IsTrue, sym, ◌∙◌, subst, slice_index, slice_index_or, Option, IsSomeAnd}
use Rattle.tile_flood.proofs.Prelude.{IsFilledLevel, is_ground, point_of, raised_level, terrain, void}
use Rattle.tile_flood.proofs.Raised.{rim_filled_at}
use Rattle.tile_flood.proofs.raising.raise_at.Goals as goal

pub returns-clause-filled : goal.returns-clause-filled
returns-clause-filled c m corner filled =
    let labelled = c.args.labelled.now in
    let e = c.args.index in
    let at : c.raised.result ≡ raised_level c.args.rim.now (slice_index_or labelled.levels e void) (slice_index labelled.labels e) =
    subst (λ ls. c.raised.result ≡ raised_level c.args.rim.now (slice_index_or ls e void) (slice_index labelled.labels e)) c.levels-levels.ensures.value
    (subst (λ bs. c.raised.result ≡ raised_level c.args.rim.now (slice_index_or c.levels-levels.result.now e void) (slice_index bs e)) c.labels-labels.ensures.value c.raised.ensures) in
    let here = rim_filled_at m corner labelled.side labelled.levels labelled.labels c.args.rim.now e filled c.requires in
    subst (λ (r : Option ℤ). IsSomeAnd r (λ level. IsTrue (is_ground m (point_of m.side corner e)) → IsFilledLevel (terrain m) (point_of m.side corner e) level)) (sym (at ∙ here.1.0)) here.1.1
