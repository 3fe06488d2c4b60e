use Rattle.watershed.proofs.Prelude.{IsToldOf, Point, ground_fits, step, subst, sym, terrain, true≢false}
use Rattle.watershed.proofs.Feeding.{back_drains, drains_back}
use Rattle.watershed.proofs.donors.is_donor.Goals as goal

pub returns-in_default-clause-donor : goal.returns-in_default-clause-donor
returns-in_default-clause-donor g c m level tells =
    let is = g.met.F.FlowSource.is_mosaic c.args.flows.now m level tells in
    (λ yes. absurd (true≢false (sym yes)), λ drains. absurd (c.in_default.ensures (ground_fits m is (step c.args.direction c.args.point) drains.0)))

pub returns-clause-donor : goal.returns-clause-donor
returns-clause-donor g c m level tells =
    let p = c.args.point in
    let d = c.args.direction in
    let flow = c.in_ok-flow.flow in
    let told : IsToldOf (terrain m) level (step d p) flow = subst (λ (q : Point). IsToldOf (terrain m) level q flow) c.in-Some.ensures.1 (c.in_ok-flow.ensures.flow m level tells) in
    (λ yes. back_drains (terrain m) level p d flow told (c.leads_back.ensures.0 yes), λ drains. c.leads_back.ensures.1 (drains_back (terrain m) level p d flow told drains))
