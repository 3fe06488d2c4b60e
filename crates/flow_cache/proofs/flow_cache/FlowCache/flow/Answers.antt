use Rattle.flow_cache.proofs.Prelude.{FlowCache, IsKnownIn, IsCacheOf, ap, arith, cases_lt, inl, inr, length, subst, sym, ◌<◌, ◌≡◌}
use Rattle.flow_cache.proofs.flow_cache.FlowCache.flow.Goals as goal

pub returns-in-Some-flow_in-clause-flow : goal.returns-in-Some-flow_in-clause-flow
returns-in-Some-flow_in-clause-flow c m right level filled = c.in-Some-flow_in.ensures.flow m (subst (IsCacheOf m) (sym c.loop-slot.invariant.same) right) level filled

pub loop-slot-preserved : goal.loop-slot-preserved
loop-slot-preserved c =
    let so = c.loop-slot.invariant in
    let slot = c.loop-slot.slot in
    record {
      same = so.same;
      none = λ tile below left. elim (cases_lt tile slot) [
        | inl before ↦ so.none tile before left
        | inr past ↦
            let at : tile ≡ slot = omega (arith, below, past) in
            let tiles : length c.loop-slot.self.grid.tiles.corners ≡ length c.args.self.now.grid.tiles.corners = ap (λ (cache : FlowCache). length cache.grid.tiles.corners) so.same in
            let small : slot < length c.loop-slot.self.grid.tiles.corners = omega (arith, c.loop-slot-test.true, c.len-slot-end.ensures, c.args.self.now.same, tiles) in
            c.in_default-flow_in.ensures.none small (subst (λ (cache : FlowCache). IsKnownIn cache.grid c.args.point slot) (sym so.same) (subst (IsKnownIn c.args.self.now.grid c.args.point) at left))
      ];
    }

pub returns-clause-found : goal.returns-clause-found
returns-clause-found c has unknown =
    c.loop-slot.invariant.none has.0 (omega (arith, has.1.0, c.loop-slot-test.false, c.len-slot-end.ensures, c.args.self.now.same)) has.1.1
