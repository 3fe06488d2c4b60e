use Rattle.edits.proofs.NewMosaics.{new_is_mosaic, new_side, new_within}
use Rattle.edits.proofs.laws.commands_make_mosaics.Goals as goal

pub returns-clause-mosaic : goal.returns-clause-mosaic
returns-clause-mosaic c = new_is_mosaic

pub returns-clause-side : goal.returns-clause-side
returns-clause-side c = new_side

pub returns-clause-capacity : goal.returns-clause-capacity
returns-clause-capacity c = new_within
