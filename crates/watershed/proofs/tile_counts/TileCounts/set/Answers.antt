use Rattle.watershed.proofs.Known.{count_set, known_more}
use Rattle.watershed.proofs.tile_counts.TileCounts.set.Goals as goal

pub returns-in-Some-clause-counted : goal.returns-in-Some-clause-counted
returns-in-Some-clause-counted c t level = known_more t level c.args.self.now c.args.point c.in-Some.index c.args.count _ c.in-Some.ensures.index

pub returns-in-Some-clause-set : goal.returns-in-Some-clause-set
returns-in-Some-clause-set c e at = count_set c.args.self.now c.args.point e c.in-Some.index c.args.count at c.in-Some.ensures.index
