use Rattle.edits.proofs.Untouched.{fresh_stays}
use Rattle.edits.proofs.FreshSinks.{sinks_stay, block_stays}
use Rattle.edits.proofs.laws.fresh_blocks_stay.Goals as goal

pub returns-clause-heights : goal.returns-clause-heights
returns-clause-heights c = fresh_stays

pub returns-clause-sinks : goal.returns-clause-sinks
returns-clause-sinks c = sinks_stay

pub returns-clause-blocks : goal.returns-clause-blocks
returns-clause-blocks c = block_stays
