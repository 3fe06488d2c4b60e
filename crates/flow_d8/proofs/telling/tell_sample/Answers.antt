use Rattle.flow_d8.proofs.Prelude.{Tells, set, subst, sym}
use Rattle.flow_d8.proofs.Samples.TwinFlows.{told_one}
use Rattle.flow_d8.proofs.telling.tell_sample.Goals as goal

pub returns-then-is_of_flat-clause-tells : goal.returns-then-is_of_flat-clause-tells
returns-then-is_of_flat-clause-tells c =
    let flows = c.args.flows.now in
    subst (λ f. Tells flows (set flows c.args.e f)) (sym c.of.ensures) (told_one flows c.args.e c.args.flow c.requires.e c.requires.told (c.is_of_flat.ensures.0 c.if-is_of_flat.true))
