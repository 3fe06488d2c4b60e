use Rattle.std.specs.Prelude.{IfSome}
use Rattle.store.proofs.Prelude.{IsFlooded, IsHeldOf, IsInState}
use Rattle.stored_mosaic.proofs.KeptPlanes.SteppedTrees.{stepped_by}
use Rattle.store.proofs.stepping.step_tree.Goals as goal

pub returns-in-None-clause-stepped : goal.returns-in-None-clause-stepped
returns-in-None-clause-stepped g c =
    stepped_by g.D.Disk g.met.D.Disk.seen_may (λ m. Unit {0}) (λ s. IsInState g.D.Disk c.args.tree.now s × IsHeldOf s.contents.mosaic c.args.held.now) c.args.tree.now c.step-in-None.new.tree (λ s was. (was.0, tt)) c.step-in-None.result c.step-in-None.ensures.failed c.step-in-None.ensures.stepped

pub returns-in-Some-clause-stepped : goal.returns-in-Some-clause-stepped
returns-in-Some-clause-stepped g c =
    stepped_by g.D.Disk g.met.D.Disk.seen_may (λ m. IfSome c.labelling.result (λ l. IsFlooded m c.in-Some.corner l.now)) (λ s. IsInState g.D.Disk c.args.tree.now s × IsHeldOf s.contents.mosaic c.args.held.now) c.args.tree.now c.step.new.tree (λ s was. (was.0, c.labelling.ensures.flooded s.contents.mosaic was.1)) c.step.result
    c.step.ensures.failed c.step.ensures.stepped
