use Rattle.std.proofs.Common.{refl}
use Rattle.engine.proofs.Questions.{levels_asked}
use Rattle.store.proofs.Reading.AskedTrees.{no_tile, water_asked}
use Rattle.store.proofs.store.Store.levels.Goals as goal

pub returns-in_err-check_present-clause-call : goal.returns-in_err-check_present-clause-call
returns-in_err-check_present-clause-call g c =
    no_tile g.D.Disk g.met.D.Disk.only_now c.args.self.now (levels_asked c.args.corner) refl c.args.corner c.in_ok-check_working.ensures.works (λ s is. is)
    c.from_residual-in_err-check_present.result c.in_err-check_present.field-0.0 c.from_residual-in_err-check_present.ensures.1 c.in_err-check_present.ensures.refused

pub returns-clause-call : goal.returns-clause-call
returns-clause-call g c = let is = c.ask_levels.ensures in water_asked g.D.Disk c.args.self.now _ (levels_asked c.args.corner) c.ask_levels.result is.causes c.in_ok-check_working.ensures.works is.asked
