use Rattle.levels.proofs.Prelude.{All-contains_itself, HasSide}
use Rattle.levels.proofs.Caches.Caching.{all_among}
use Rattle.levels.proofs.labelling_cache.LabellingCache.use_again.Goals as goal

pub invariant_of-self-clause-sides : goal.invariant_of-self-clause-sides
invariant_of-self-clause-sides c = all_among (HasSide c.args.self.now.side) c.args.self.now.held.items c.move_first.new.held.items c.move_first.ensures.only c.args.self.now.sides

pub returns-in_default-clause-only : goal.returns-in_default-clause-only
returns-in_default-clause-only c = All-contains_itself c.args.self.now.held.items

pub returns-in_default-clause-all : goal.returns-in_default-clause-all
returns-in_default-clause-all c = All-contains_itself c.args.self.now.held.items
