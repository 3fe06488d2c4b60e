use Rattle.std.proofs.Common.{◌≡◌, Some, rules, subst, sym}
use Rattle.std.proofs.lemmas.Option.{IfSome_then}
use Rattle.std.specs.Prelude.{IfSome}
use Rattle.flow_cache.specs.FlowCaches.{flow_cache_right}
use Rattle.flow_d8.specs.FlowGrids.{IsResolvedAround}
use Rattle.flow_d8.proofs.Sayings.Draining.{IfNone_then}
use Rattle.drainage.proofs.drainage_cache.DrainageCache.donors_around.Goals as goal

pub returns-clause-right : goal.returns-clause-right
returns-clause-right c m held =
    let same : c.args.self.now.flow_cache ≡ Some c.in_ok-flow_cache.flow_cache.now = search rules in
    let right = subst (flow_cache_right m) same held.flow_cache in
    IfSome_then c.donors_around.result c.donors_around.ensures.right (λ donors told level filled. told m level (right.grid.told level filled))

pub returns-clause-none : goal.returns-clause-none
returns-clause-none c =
    let same : c.args.self.now.flow_cache ≡ Some c.in_ok-flow_cache.flow_cache.now = search rules in
    IfNone_then c.donors_around.result c.donors_around.ensures.none (λ unresolved.
    subst (λ there. IfSome there (λ cache. IsResolvedAround cache.grid.tiles cache.grid.flows.items cache.last c.args.point → ⊥)) (sym same) unresolved)
