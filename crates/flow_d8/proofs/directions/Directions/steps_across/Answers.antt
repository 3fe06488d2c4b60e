use Rattle.flow_d8.proofs.Prelude.{arith, count_of, refl, sym, ◌<◌, ◌∙◌, ◌≤◌}
use Rattle.water.specs.declared.flow.Flow.TheVariants.{Unknown, NoGround, Outlet, To, Beside, Flat}
use Rattle.flow_d8.specs.Directions.{walk}
use Rattle.flow_d8.proofs.Paths.Crossing.{ends_here, ends_nowhere, walks_on, walked_all}
use Rattle.flow_d8.proofs.directions.Directions.steps_across.Goals as goal

pub returns-in-Outlet : goal.returns-in-Outlet
returns-in-Outlet c =
    let d = c.args.self.now in
    let count = count_of d.tiles in
    let steps = c.loop-steps.steps in
    let low : steps < count = omega (arith, c.loop-steps-test.true, c.count-steps-end.ensures.value) in
    ends_here d count steps c.loop-steps.at low (walk d count c.args.number) Outlet 0 _ c.loop-steps.invariant (sym c.in-Outlet.is ∙ c.flow_at.ensures.value) refl (omega arith)

pub returns-in-To : goal.returns-in-To
returns-in-To c =
    let d = c.args.self.now in
    let count = count_of d.tiles in
    let steps = c.loop-steps.steps in
    let low : steps < count = omega (arith, c.loop-steps-test.true, c.count-steps-end.ensures.value) in
    ends_here d count steps c.loop-steps.at low (walk d count c.args.number) (To c.in-To.field-0) 0 _ c.loop-steps.invariant (sym c.in-To.is ∙ c.flow_at.ensures.value) refl (omega arith)

pub returns-in-Beside : goal.returns-in-Beside
returns-in-Beside c =
    let d = c.args.self.now in
    let count = count_of d.tiles in
    let steps = c.loop-steps.steps in
    let low : steps < count = omega (arith, c.loop-steps-test.true, c.count-steps-end.ensures.value) in
    ends_here d count steps c.loop-steps.at low (walk d count c.args.number) (Beside c.in-Beside.field-0) 1 _ c.loop-steps.invariant (sym c.in-Beside.is ∙ c.flow_at.ensures.value) refl (omega arith)

pub returns-in-Unknown : goal.returns-in-Unknown
returns-in-Unknown c =
    let d = c.args.self.now in
    let count = count_of d.tiles in
    let low : c.loop-steps.steps < count = omega (arith, c.loop-steps-test.true, c.count-steps-end.ensures.value) in
    ends_nowhere d count c.loop-steps.steps c.loop-steps.at low (walk d count c.args.number) Unknown c.loop-steps.invariant (sym c.in-Unknown.is ∙ c.flow_at.ensures.value) refl

pub returns-in-NoGround : goal.returns-in-NoGround
returns-in-NoGround c =
    let d = c.args.self.now in
    let count = count_of d.tiles in
    let low : c.loop-steps.steps < count = omega (arith, c.loop-steps-test.true, c.count-steps-end.ensures.value) in
    ends_nowhere d count c.loop-steps.steps c.loop-steps.at low (walk d count c.args.number) NoGround c.loop-steps.invariant (sym c.in-NoGround.is ∙ c.flow_at.ensures.value) refl

pub returns-in-Flat : goal.returns-in-Flat
returns-in-Flat c =
    let d = c.args.self.now in
    let count = count_of d.tiles in
    let low : c.loop-steps.steps < count = omega (arith, c.loop-steps-test.true, c.count-steps-end.ensures.value) in
    ends_nowhere d count c.loop-steps.steps c.loop-steps.at low (walk d count c.args.number) Flat c.loop-steps.invariant (sym c.in-Flat.is ∙ c.flow_at.ensures.value) refl

pub loop-steps-preserved : goal.loop-steps-preserved
loop-steps-preserved c =
    let d = c.args.self.now in
    let count = count_of d.tiles in
    let low : c.loop-steps.steps < count = omega (arith, c.loop-steps-test.true, c.count-steps-end.ensures.value) in
    walks_on d count c.loop-steps.steps c.loop-steps.at low (walk d count c.args.number) c.in-FlatTo.direction c.beside-at.result c.loop-steps.invariant (sym c.in-FlatTo.is ∙ c.flow_at.ensures.value) c.beside-at.ensures

pub returns : goal.returns
returns c =
    let d = c.args.self.now in
    let count = count_of d.tiles in
    let past : count ≤ c.loop-steps.steps = omega (arith, c.loop-steps-test.false, c.count-steps-end.ensures.value) in
    walked_all d count c.loop-steps.steps c.loop-steps.at (walk d count c.args.number) past c.loop-steps.invariant
