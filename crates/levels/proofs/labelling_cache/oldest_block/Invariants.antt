use Rattle.levels.proofs.Prelude.{count_by, has_block, take, ◌<◌, ◌≡◌}
use Rattle.levels.proofs.labelling_cache.oldest_block.Given as goal

abbrev pub invariant-loop-at : goal.invariant-loop-at
invariant-loop-at l = (l.count ≡ count_by has_block (take l.at l.held)) × (l.count < l.room)
