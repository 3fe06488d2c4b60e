use Rattle.cow_tree.proofs.Opened.{no_tiles_stand}
use Rattle.cow_tree.proofs.laws.no_tiles_stand.Goals as goal

pub returns : goal.returns
returns c = no_tiles_stand
