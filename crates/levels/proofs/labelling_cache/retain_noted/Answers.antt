use Rattle.std.proofs.Common.{rules}
use Rattle.levels.proofs.Caches.Caching.{AreNoted, noted_in_turn, noted_right, noted_kept, noted_still, noted_sides, noted_blocks}
use Rattle.levels.proofs.labelling_cache.retain_noted.Goals as goal
use Rattle.levels.proofs.labelling_cache.retain_noted.Goals.{After-retain_mut}

module _ (c : After-retain_mut) where
  noted : AreNoted c.args.side c.args.corners.now c.args.height.now c.args.held.now.items c.retain_mut.new.self.items
  noted = noted_in_turn c.args.side c.args.corners.now c.args.height.now _ _ (λ x b f' y call. search rules) c.args.held.now.items c.retain_mut.new.self.items c.retain_mut.ensures.filtered

pub returns-clause-noted : goal.returns-clause-noted
returns-clause-noted c m new t differ set_from same =
    noted_right c.args.side c.args.corners.now c.args.height.now m new differ set_from same t c.args.held.now.items c.retain_mut.new.self.items (noted (goal.at.returns-clause-noted c).After-retain_mut)

pub returns-clause-kept : goal.returns-clause-kept
returns-clause-kept c t below out l =
    noted_kept c.args.side c.args.corners.now c.args.height.now t below out l c.args.held.now.items c.retain_mut.new.self.items (noted (goal.at.returns-clause-kept c).After-retain_mut)

pub returns-clause-mended : goal.returns-clause-mended
returns-clause-mended c t below l at can =
    noted_still c.args.side c.args.corners.now c.args.height.now t below l can c.args.held.now.items c.retain_mut.new.self.items (noted (goal.at.returns-clause-mended c).After-retain_mut) at

pub returns-clause-sides : goal.returns-clause-sides
returns-clause-sides c n = noted_sides c.args.side c.args.corners.now c.args.height.now n c.args.held.now.items c.retain_mut.new.self.items (noted (goal.at.returns-clause-sides c).After-retain_mut)

pub returns-clause-blocks : goal.returns-clause-blocks
returns-clause-blocks c = noted_blocks c.args.side c.args.corners.now c.args.height.now c.args.held.now.items c.retain_mut.new.self.items (noted (goal.at.returns-clause-blocks c).After-retain_mut)
