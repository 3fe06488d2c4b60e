use Rattle.edits.proofs.Untouched.{untouched_stays}
use Rattle.edits.proofs.laws.untouched_tiles_stay.Goals as goal

pub returns : goal.returns
returns c = untouched_stays
