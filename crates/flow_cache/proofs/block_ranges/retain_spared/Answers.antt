use Rattle.flow_cache.proofs.Prelude.{None, SFits, ℤ, ap, arith, cases_lt, get_or_past, inl, inr, length, of_z, range_at, rules, spared_of, subst, sym, to_z, to_z-of_z, w16, ◌∙◌, ◌≡◌, ◌≤◌}
use Rattle.flow_cache.proofs.block_ranges.retain_spared.Goals as goal

pub returns : goal.returns
returns c = record {
  whole = c.loop-block.invariant.whole;
  each = λ b. elim (cases_lt b c.loop-block.block) [
    | inl below ↦
        let had : SFits w16 c.args.was = search rules in
        let fits : SFits w16 c.args.is = search rules in
        subst (λ (u : ℤ). range_at c.loop-block.ranges b ≡ spared_of u c.args.is (range_at c.args.ranges.now b)) (to_z-of_z w16 c.args.was had)
        (subst (λ (v : ℤ). range_at c.loop-block.ranges b ≡ spared_of (to_z w16 (of_z w16 c.args.was)) v (range_at c.args.ranges.now b)) (to_z-of_z w16 c.args.is fits) (c.loop-block.invariant.done b below))
    | inr past ↦
        let old : length c.args.ranges.now ≤ b = omega (arith, past, c.loop-block-test.false) in
        c.loop-block.invariant.rest b past ∙ (get_or_past c.args.ranges.now b None old ∙ sym (ap (spared_of c.args.was c.args.is) (get_or_past c.args.ranges.now b None old)))
  ];
}
