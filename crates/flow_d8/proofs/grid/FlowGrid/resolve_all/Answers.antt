use Rattle.flow_d8.proofs.Prelude.{AreCrossed, IsTellingAll, Tiles, arith, cases_lt, get_or, inl, inr, subst, sym, ◌∙◌, ◌≡◌}
use Rattle.water.specs.declared.flow.Flow.TheVariants.{Unknown}
use Rattle.flow_d8.proofs.Sayings.Draining.{known_still}
use Rattle.flow_d8.proofs.Sayings.Told.{telling_still}
use Rattle.flow_d8.proofs.grid.FlowGrid.resolve_all.Goals as goal

pub returns-in_err-resolve_at-clause-flows : goal.returns-in_err-resolve_at-clause-flows
returns-in_err-resolve_at-clause-flows c t level full are = c.resolve_at.ensures.flows t level full (c.loop-k.invariant.flows t level full are)

pub returns-then-not-branch-clause-flows : goal.returns-then-not-branch-clause-flows
returns-then-not-branch-clause-flows c t level full are = c.resolve_at.ensures.flows t level full (c.loop-k.invariant.flows t level full are)

pub returns-then-not-branch-clause-failed : goal.returns-then-not-branch-clause-failed
returns-then-not-branch-clause-failed c _ t level full are crossed =
    c.in_ok-resolve_at.ensures.failed c.if-not-branch.true t level full (c.loop-k.invariant.flows t level full are) (subst (λ (s : Tiles). AreCrossed s t level) (sym c.loop-k.invariant.tiles) crossed)

pub loop-k-preserved : goal.loop-k-preserved
loop-k-preserved c =
    let was = c.loop-k.invariant in
    let k = c.loop-k.k in
    let e = c.resolve_at.ensures in
    record {
      tiles = e.tiles ∙ was.tiles;
      known = known_still c.loop-k.self.flows.items c.resolve_at.new.self.flows.items was.known e.tells;
      whole = e.tells.whole ∙ was.whole;
      flows = λ t level full are. e.flows t level full (was.flows t level full are);
      told = λ i low. elim (cases_lt i k) [
        | inl before ↦ telling_still c.loop-k.self.flows.items c.resolve_at.new.self.flows.items e.tells i (was.told i before)
        | inr after ↦
            let same : i ≡ k = omega arith in
            subst (λ j. IsTellingAll (get_or c.resolve_at.new.self.flows.items j Unknown)) (sym same) (c.in_ok-resolve_at.ensures.told c.if-not-branch.false)
      ];
    }
