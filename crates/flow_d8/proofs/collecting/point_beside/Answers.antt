use Rattle.flow_d8.proofs.Prelude.{IsTrue, fits_point, step, subst, sym}
use Rattle.flow_d8.proofs.Steps.StepFits.{step_fits}
use Rattle.flow_d8.proofs.collecting.point_beside.Goals as goal

pub unreachable-requires : goal.unreachable-requires
unreachable-requires c = c.in-None.ensures (subst (λ p. IsTrue (fits_point (step c.args.direction p))) (sym c.point.ensures) (step_fits c.args.tiles.now c.tiles-valid.ensures.valid c.args.k c.requires c.args.direction))
