use Rattle.flow_d8.proofs.Prelude.{IsFalse, IsTellingAll, NoGround, ap, is_ground, subst, sym, ◌↔◌, ◌∙◌, ◌≡◌}
use Rattle.flow_d8.specs.Directions.{flow_at, flow_in}
use Rattle.flow_d8.proofs.Paths.Crossing.{told_in}
use Rattle.flow_d8.proofs.Paths.Tracing.{none_is_off}
use Rattle.flow_d8.proofs.directions.Directions.flow.Goals as goal

pub returns-clause-all : goal.returns-clause-all
returns-clause-all c =
    let d = c.args.self.now in
    let same : c.flow_at.result ≡ flow_in d c.args.point = c.flow_at.ensures.value ∙ ap (λ k. flow_at d k) c.number.ensures in
    subst IsTellingAll (sym same) (told_in d c.flow_at.ensures.valid c.args.point)

pub returns-clause-elsewhere : goal.returns-clause-elsewhere
returns-clause-elsewhere c m level are =
    let d = c.args.self.now in
    let same : c.flow_at.result ≡ flow_in d c.args.point = c.flow_at.ensures.value ∙ ap (λ k. flow_at d k) c.number.ensures in
    subst (λ f. (f ≡ NoGround) ↔ IsFalse (is_ground m c.args.point)) (sym same) (none_is_off m level d are c.flow_at.ensures.valid c.args.point)
