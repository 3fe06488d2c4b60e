use Rattle.edits.proofs.SinkLists.{sunk_makes, unsunk_leaves}
use Rattle.edits.proofs.laws.sinks_make_mosaics.Goals as goal

pub returns-clause-declared : goal.returns-clause-declared
returns-clause-declared c = sunk_makes

pub returns-clause-taken : goal.returns-clause-taken
returns-clause-taken c = unsunk_leaves
