use Rattle.watershed.proofs.Prelude.{ground_fits, inr, refl, step}
use Rattle.watershed.proofs.donors.add_donor.Goals as goal

pub returns-in_default : goal.returns-in_default
returns-in_default c m level is told = inr (refl, λ drains. c.in_default.ensures (ground_fits m is (step c.args.direction c.args.point) drains.0))
