use Rattle.std.proofs.Common.{◌≡◌, ◌<◌, ◌≤◌, None, length, inl, inr, sym, ◌∙◌, subst, arith, rules, true≢false}
use Rattle.flow_cache.proofs.Prelude.{IsAffected, cases_eq, cases_lt, get_or_past, of_z, range_at, to_z, w16}
use Rattle.flow_cache.proofs.Caches.Blocks.{as_passed}
use Rattle.flow_cache.proofs.block_ranges.has_affected.Goals as goal

pub loop-block-preserved : goal.loop-block-preserved
loop-block-preserved c b below affected = elim (cases_eq b c.loop-block.block) [
  | inl at ↦ true≢false (sym (c.is_affected.ensures.1 (subst (λ k. IsAffected (to_z w16 (of_z w16 c.args.was)) (to_z w16 (of_z w16 c.args.is)) (range_at c.args.ranges.now k)) at affected)) ∙ c.if-is_affected.false)
  | inr off ↦ c.loop-block.invariant b (omega (arith, below, off)) affected
]

pub returns : goal.returns
returns c _ b affected = as_passed (λ u v. IsAffected u v (range_at c.args.ranges.now b) → ⊥) c.args.was c.args.is (search rules) (search rules)
    (λ is_so. elim (cases_lt b (length c.args.ranges.now)) [
      | inl small ↦ c.loop-block.invariant b (omega (arith, small, c.loop-block-test.false)) is_so
      | inr past ↦ is_so.0 (get_or_past c.args.ranges.now b None past)
    ]) affected
