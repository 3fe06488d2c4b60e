use Rattle.std.proofs.Common.{◌*◌, ◌<◌, inl, inr, ⊎_elim, sym, ◌∙◌, subst, arith, true≢false}
use Rattle.water.specs.Counts.{AreUpstreamCounts}
use Rattle.watershed.proofs.Prelude.{cases_eq, terrain}
use Rattle.watershed.proofs.counting.upstream_counts.Goals as goal

pub loop-index-preserved : goal.loop-index-preserved
loop-index-preserved g c =
    let laws = g.met.F.FlowSource in
    let inv = c.loop-index.invariant in
    let told = c.in_ok-count_sample.ensures in
    let mid = c.loop-index.flows in
    let end = c.count_sample.new.flows in
    record {
      ready = told.ready;
      follows = laws.follows_on c.args.flows.now mid end inv.follows told.follows;
      keeps = laws.keeps_on c.args.flows.now mid end inv.keeps told.keeps;
      tile = (told.tile.0 ∙ inv.tile.0, told.tile.1 ∙ inv.tile.1);
      counted = λ m level tells filled.
          (told.counted m level tells filled (inv.counted m level (laws.told_before mid end m level told.follows tells) filled)).right;
      known = λ m level tells filled e below on none.
          let before = laws.told_before mid end m level told.follows tells in
          let known = inv.counted m level before filled in
          elim (cases_eq e c.loop-index.index) [
            | inl this ↦
                told.known m level tells filled known (cc (on, this, inv.tile.0, inv.tile.1)) (cc (this, none))
            | inr other ↦
                inv.known m level before filled e (omega (arith, below)) on ((told.counted m level tells filled known).still e none)
          ];
    }

pub returns-then-not-branch-clause-round : goal.returns-then-not-branch-clause-round
returns-then-not-branch-clause-round g c _ m level tells filled =
    let laws = g.met.F.FlowSource in
    let inv = c.loop-index.invariant in
    let told = c.in_ok-count_sample.ensures in
    let round = c.if-not-branch.true in
    let was = c.in_ok-count_sample.was in
    told.round (cc) m level tells filled (inv.counted m level (laws.told_before c.loop-index.flows c.count_sample.new.flows m level told.follows tells) filled)

pub returns-clause-counts : goal.returns-clause-counts
returns-clause-counts g c m level tells filled =
    let inv = c.loop-index.invariant in
    let counts = c.loop-index.counts in
    let counted = inv.counted m level tells filled in
    subst (λ n. AreUpstreamCounts (terrain m) level n c.args.corner counts.counts.items) inv.tile.0
    (subst (λ k. AreUpstreamCounts (terrain m) level counts.side k counts.counts.items) inv.tile.1 (record {
      whole = counts.whole;
      each = λ e within. record {
        on_ground = λ on. ⊎_elim
            (λ none. absurd (inv.known m level tells filled e (omega (arith, subst (λ n. e < n * n) inv.tile.0 within, c.loop-index-test.false, c.area-area.ensures.value)) (cc (on, inv.tile.0, inv.tile.1)) none))
            (λ some. some.count)
            (counted e within);
        elsewhere = λ off. ⊎_elim (λ none. none) (λ some. absurd (true≢false (sym some.on_ground ∙ off))) (counted e within);
      };
    }))
