use Rattle.edits.proofs.WholeTiles.{remove_refused, remove_accepted}
use Rattle.edits.proofs.tiles.can_remove.Goals as goal

pub returns-then-not-present-clause-refused : goal.returns-then-not-present-clause-refused
returns-then-not-present-clause-refused g c = λ capacity m corners.
    remove_refused m (g.S.Samples.corners c.args.samples.now) corners c.args.corner c.present.result c.present.ensures.answer capacity c.if-not-present.true

pub returns-clause-accepted : goal.returns-clause-accepted
returns-clause-accepted g c = λ capacity m corners.
    remove_accepted m (g.S.Samples.corners c.args.samples.now) corners c.args.corner c.present.result c.present.ensures.answer capacity c.if-not-present.false
