use Rattle.levels.proofs.labelling_cache.LabellingCache.note_changed.Goals as goal

pub invariant_of-self-clause-sides : goal.invariant_of-self-clause-sides
invariant_of-self-clause-sides c = c.retain_noted.ensures.sides c.args.self.now.side c.args.self.now.sides
