use Rattle.memory_store.proofs.two_sessions.cut.Goals as goal

pub returns-in-Ok-clause-cut : goal.returns-in-Ok-clause-cut
returns-in-Ok-clause-cut c = record { torn_so = c.in-Ok.ensures.left; settled = c.in-Ok.ensures.settled; none_new = c.in-Ok.ensures.may; sectors = c.in-Ok.ensures.sectors }
