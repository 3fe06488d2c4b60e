use Rattle.flow_d8.proofs.Prelude.{IsPassed, arith, refl, subst, ◌∙◌}
use Rattle.flow_d8.proofs.Waves.Advancing.{waves_begun, round_on, so_on, tells, waves_on, all_named}
use Rattle.flow_d8.proofs.Samples.TwinFlows.{tells_same, tells_on}
use Rattle.flow_d8.specs.Tiles.{by_of}
use Rattle.flow_d8.proofs.resolving.spread.Goals as goal

pub waves-init : goal.waves-init
waves-init c = record {
  tells = tells_same c.args.flows.now;
  kept = λ k out. refl;
  round = c.requires.round;
  told = λ t level place full laid so. waves_begun c.args.flows.now (by_of c.args.tiles.now) c.args.marks.now c.requires.members t level place full laid so c.requires.begun;
}

pub returns-in_err-advance-clause-tells : goal.returns-in_err-advance-clause-tells
returns-in_err-advance-clause-tells c =
    let was = c.waves.invariant in
    tells_on c.args.flows.now c.waves.flows c.advance.new.flows was.tells
    (tells c.args.flows.now (by_of c.args.tiles.now) c.args.marks.now c.requires.members c.waves.marks c.waves.wave.items c.waves.flows c.advance.new.marks c.advance.new.next.items c.advance.new.flows was.round c.advance.ensures.advances was.tells)

pub returns-in_err-advance-clause-facts : goal.returns-in_err-advance-clause-facts
returns-in_err-advance-clause-facts c t level place full laid so =
    let was = c.waves.invariant in
    so_on c.args.flows.now (by_of c.args.tiles.now) c.args.marks.now c.requires.members t level place full laid so c.waves.marks c.waves.wave.items c.waves.flows was.round (was.told t level place full laid so)
    c.advance.new.marks c.advance.new.next.items c.advance.new.flows c.advance.ensures.advances

pub waves-preserved : goal.waves-preserved
waves-preserved c =
    let was = c.waves.invariant in
    let by = by_of c.args.tiles.now in
    let go = c.advance.ensures.advances in
    let passed = subst (λ wave. IsPassed by c.advance.new.marks wave) c.deref.ensures.value c.in_ok-advance.ensures.passed in
    record {
      tells = tells_on c.args.flows.now c.waves.flows c.advance.new.flows was.tells
          (tells c.args.flows.now by c.args.marks.now c.requires.members c.waves.marks c.waves.wave.items c.waves.flows c.advance.new.marks c.advance.new.next.items c.advance.new.flows was.round go was.tells);
      kept = λ k out. go.kept k (λ two. absurd (omega (arith, was.round.outside k out))) ∙ was.kept k out;
      round = round_on c.args.flows.now by c.args.marks.now c.requires.members c.waves.marks c.waves.wave.items c.waves.flows c.advance.new.marks c.advance.new.next.items c.advance.new.flows was.round go passed;
      told = λ t level place full laid so. waves_on c.args.flows.now by c.args.marks.now c.requires.members t level place full laid so
          c.waves.marks c.waves.wave.items c.waves.flows was.round (was.told t level place full laid so) c.advance.new.marks c.advance.new.next.items c.advance.new.flows go passed;
    }

pub returns-clause-facts : goal.returns-clause-facts
returns-clause-facts c t level place full laid so k = (c.waves.invariant.told t level place full laid so).so k

pub returns-clause-resolved : goal.returns-clause-resolved
returns-clause-resolved c k member t level place full laid so j crosses =
    let was = c.waves.invariant in
    all_named c.args.flows.now (by_of c.args.tiles.now) c.args.marks.now c.requires.members t level place full laid so c.waves.marks c.waves.wave.items c.waves.flows was.round (was.told t level place full laid so)
    (omega (arith, c.len.ensures, c.waves-test.false)) k j member crosses
