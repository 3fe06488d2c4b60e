use Rattle.cow_tree.proofs.OneStored.{one_stored}
use Rattle.cow_tree.proofs.laws.images_stand_for_one.Goals as goal

pub returns : goal.returns
returns c = one_stored
