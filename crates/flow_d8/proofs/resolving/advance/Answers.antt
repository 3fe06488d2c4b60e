use Rattle.flow_d8.proofs.Prelude.{arith, back_of, cases_eq, get_or, inl, inr, mark_at, order_of, subst, sym, ◌<◌, ◌≡◌}
use Rattle.flow_d8.specs.Tiles.{by_of}
use Rattle.water.proofs.Compass.{dir_at_place, order_at, order_below}
use Rattle.water.proofs.StepBack.{back_twice}
use Rattle.flow_d8.proofs.Waves.Advancing.{advances_on}
use Rattle.flow_d8.proofs.Waves.Marking.{reaches_two}
use Rattle.flow_d8.proofs.resolving.advance.Goals as goal

pub loop-i-preserved : goal.loop-i-preserved
loop-i-preserved c =
    let was = c.loop-i.invariant in
    let by = by_of c.args.tiles.now in
    let wave = c.args.samples.now in
    record {
      advances = advances_on by c.args.marks.now wave c.args.flows.now c.requires.reached c.requires.frontier c.requires.back c.loop-i.marks c.loop-i.next.items c.loop-i.flows was.advances _
          (λ j e less small. was.passed j e (subst (λ n. order_of e < n) (order_at c.loop-i.i _ c.loop-i-test.true) less) small)
          c.reach.new.marks c.reach.new.next.items c.reach.new.flows c.reach.ensures.reaches;
      passed = λ j d less small two. elim (cases_eq (order_of d) c.loop-i.i) [
        | inl same ↦ c.in_ok-reach.ensures.passed j small (subst (λ e. mark_at c.reach.new.marks (by (get_or wave j 0) (back_of e)) ≡ 2) (sym (dir_at_place d _ c.loop-i.i same)) two)
        | inr other ↦ was.passed j d (omega arith) small (reaches_two by wave _ c.loop-i.marks c.loop-i.next.items c.loop-i.flows
            c.reach.new.marks c.reach.new.next.items c.reach.new.flows c.reach.ensures.reaches (by (get_or wave j 0) (back_of d)) two)
      ];
    }

pub returns-in_err-reach-clause-advances : goal.returns-in_err-reach-clause-advances
returns-in_err-reach-clause-advances c =
    let was = c.loop-i.invariant in
    advances_on (by_of c.args.tiles.now) c.args.marks.now c.args.samples.now c.args.flows.now c.requires.reached c.requires.frontier c.requires.back c.loop-i.marks c.loop-i.next.items c.loop-i.flows was.advances _
    (λ j e less small. was.passed j e (subst (λ n. order_of e < n) (order_at c.loop-i.i _ c.loop-i-test.true) less) small)
    c.reach.new.marks c.reach.new.next.items c.reach.new.flows c.reach.ensures.reaches

pub returns-clause-passed : goal.returns-clause-passed
returns-clause-passed c j d small two = c.loop-i.invariant.passed j (back_of d) (omega (arith, order_below (back_of d), c.loop-i-test.false)) small
    (subst (λ e. mark_at c.loop-i.marks (by_of c.args.tiles.now (get_or c.args.samples.now j 0) e) ≡ 2) (sym (back_twice d)) two)
