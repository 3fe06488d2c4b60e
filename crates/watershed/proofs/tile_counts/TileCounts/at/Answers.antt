use Rattle.watershed.proofs.Known.{count_found, known_at}
use Rattle.watershed.proofs.tile_counts.TileCounts.at.Goals as goal

pub returns-in-Some-clause-right : goal.returns-in-Some-clause-right
returns-in-Some-clause-right c t level = known_at t level c.args.self.now c.args.point c.in-Some.index c.index.result.now c.in-Some.ensures.index c.index.ensures

pub returns-in-Some-clause-found : goal.returns-in-Some-clause-found
returns-in-Some-clause-found c e at = count_found c.args.self.now c.args.point e c.in-Some.index c.index.result.now at c.in-Some.ensures.index c.index.ensures
