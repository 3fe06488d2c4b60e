use Rattle.page_map.proofs.PlaneChanges.{already_fresh, record_balanced}
use Rattle.page_map.proofs.plane_entry.PlaneEntry.prepare.Goals as goal

pub returns-in-Fresh-clause-staged : goal.returns-in-Fresh-clause-staged
returns-in-Fresh-clause-staged c = already_fresh c.args.self.now c.in-Fresh.field-0 c.in-Fresh.is

pub returns-in_ok-location-in-Some-clause-balanced : goal.returns-in_ok-location-in-Some-clause-balanced
returns-in_ok-location-in-Some-clause-balanced c =
    record_balanced c.args.self.now c.in-Some.committed c.in-AsCommitted.is c.in-Some.is c.in_ok-location-in-Some.location _ _ c.in_ok-location-in-Some.ensures.same c.in_ok-location-in-Some.ensures.taken
