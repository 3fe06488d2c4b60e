use Rattle.flow_cache.proofs.Prelude.{FlowCache, arith, length, subst, sym, ◌≤◌}
use Rattle.flow_cache.proofs.flow_cache.FlowCache.keep.Goals as goal

pub tiles-preserved : goal.tiles-preserved
tiles-preserved c = record {
  right = λ m right. c.give_up_oldest.ensures.flows m (c.tiles.invariant.right m right);
  kept = λ few.
      let here = subst (λ (cache : FlowCache). length cache.grid.flows.items ≤ c.args.most) (sym (c.tiles.invariant.kept few)) few in
      let more = c.tiles-test.true in
      let count = c.samples.ensures in
      absurd (omega (arith, here, more, count));
}
