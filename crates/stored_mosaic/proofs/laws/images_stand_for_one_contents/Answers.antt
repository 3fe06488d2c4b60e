use Rattle.stored_mosaic.proofs.Reading.Holding.{one_contents}
use Rattle.stored_mosaic.proofs.laws.images_stand_for_one_contents.Goals as goal

pub returns : goal.returns
returns c = one_contents
