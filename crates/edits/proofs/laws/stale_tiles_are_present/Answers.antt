use Rattle.edits.proofs.Untouched.{stale_is_present, stale_in_order}
use Rattle.edits.proofs.laws.stale_tiles_are_present.Goals as goal

pub returns-clause-present : goal.returns-clause-present
returns-clause-present c = stale_is_present

pub returns-clause-in_order : goal.returns-clause-in_order
returns-clause-in_order c = stale_in_order
