use Rattle.border_graph.proofs.Prelude.{IsRimAt, [], ap, map, subst, ◌∙◌, ◌∷◌}
use Rattle.std.proofs.lemmas.List.{length-map, map-append}
use Rattle.border_graph.proofs.MosaicGraphs.{each_more, one_longer}
use Rattle.border_graph.proofs.joining.rims_of.Goals as goal

pub loop-t-preserved : goal.loop-t-preserved
loop-t-preserved c =
    let same = c.loop-t.invariant.same in
    let rims = c.loop-t.rims.items in
    record {
      same = c.in_ok-rim.ensures.same ∙ same;
      whole = one_longer rims c.push.new.items.items c.in_ok-rim.rim c.loop-t.t c.loop-t.invariant.whole c.in_ok-push.ensures.pushed;
      rims = each_more (IsRimAt c.args.graph.now) (map (λ v. v.items) rims) (map (λ v. v.items) c.push.new.items.items) c.in_ok-rim.rim.items [] c.loop-t.t (length-map rims (λ v. v.items) ∙ c.loop-t.invariant.whole)
          (ap (map (λ v. v.items)) c.in_ok-push.ensures.pushed ∙ map-append (λ v. v.items) rims (c.in_ok-rim.rim ∷ [])) c.loop-t.invariant.rims
          (subst (λ g. IsRimAt g c.loop-t.t c.in_ok-rim.rim.items) same c.in_ok-rim.ensures.rim);
    }
