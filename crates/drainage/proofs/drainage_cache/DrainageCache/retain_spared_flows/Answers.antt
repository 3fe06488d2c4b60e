use Rattle.drainage.proofs.Prelude.{FlowCache, IsSparedFrom, Option, SFits, Some, are_spared, of_z, refl, rules, subst, to_z, to_z-of_z, w16, ℤ}
use Rattle.drainage.proofs.drainage_cache.DrainageCache.retain_spared_flows.Goals as goal

pub returns-clause-left : goal.returns-clause-left
returns-clause-left c =
    let had : SFits w16 c.args.was = search rules in
    let fits : SFits w16 c.args.is = search rules in
    let old = c.in-Some.flow_cache in
    let left = c.retain_spared.new.self in
    let spared = subst (λ (u : ℤ). IsSparedFrom u c.args.is old left) (to_z-of_z w16 c.args.was had)
    (subst (λ (v : ℤ). IsSparedFrom (to_z w16 (of_z w16 c.args.was)) v old left) (to_z-of_z w16 c.args.is fits) c.retain_spared.ensures) in
    subst (λ (o : Option FlowCache). are_spared c.args.was c.args.is o (Some left)) c.in-Some.ensures.value (left, (refl, spared))
