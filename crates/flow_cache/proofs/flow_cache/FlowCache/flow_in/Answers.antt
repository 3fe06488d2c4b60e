use Rattle.flow_cache.proofs.Prelude.{FlowGrid, IsFlow, NoGround, Unknown, get_or, get_or_default, subst, sym, terrain, ◌<◌, ◌∙◌, ◌≡◌, ap}
use Rattle.flow_d8.specs.Tiles.{IsSampleOf, place_of}
use Rattle.flow_cache.proofs.flow_cache.FlowCache.flow_in.Goals as goal

-- a sample's flow is read the same with NoGround and with Unknown as the default
read : (grid : FlowGrid) (p : _) (k : _) → IsSampleOf grid.tiles p k → get_or grid.flows.items k NoGround ≡ get_or grid.flows.items k Unknown
read grid p k sample = get_or_default grid.flows.items k NoGround Unknown (subst (λ n. k < n) (sym grid.whole) sample.small)

pub returns-in-Unknown-clause-none : goal.returns-in-Unknown-clause-none
returns-in-Unknown-clause-none c small known =
    let grid = c.args.self.now.grid in
    let k = c.in_ok-number.number in
    let said = c.in_ok-number.ensures.some in
    let same : known.0 ≡ k = said.1 known.0 known.1.0 known.1.1 in
    known.1.2 (ap (λ j. get_or grid.flows.items j Unknown) same ∙ (sym (c.sample_flow.ensures ∙ read grid c.args.point k said.0) ∙ c.in-Unknown.is))

pub returns-in_default-clause-flow : goal.returns-in_default-clause-flow
returns-in_default-clause-flow c m right level filled =
    let grid = c.args.self.now.grid in
    let k = c.in_ok-number.number in
    let sample = c.in_ok-number.ensures.some.0 in
    subst (λ q. IsFlow (terrain m) level q c.sample_flow.result) sample.here
    (subst (IsFlow (terrain m) level (place_of grid.tiles k)) (sym (c.sample_flow.ensures ∙ read grid c.args.point k sample)) (right.grid.told level filled k))

pub returns-in_default-clause-known : goal.returns-in_default-clause-known
returns-in_default-clause-known c = c.in_default.not-Unknown
