use Rattle.stored_mosaic.proofs.Edits.NewHeights.{heightened_once}
use Rattle.stored_mosaic.proofs.heights.PointHeightsPageEdit.edit_page.Goals as goal

pub returns-clause-once : goal.returns-clause-once
returns-clause-once c m p s = heightened_once c.args.self.now.heights.now p s
