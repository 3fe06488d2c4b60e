use Rattle.flow_d8.proofs.Prelude.{Flow, List, Unknown, ap, arith, cases_eq, get_or, get_or-set_other, get_or-set_same, inl, inr, length, length-set, refl, set, ◌+◌, ◌<◌, ◌∙◌, ◌≢◌}
use Rattle.flow_d8.proofs.grid.invalidate.Goals as goal

pub loop-i-init : goal.loop-i-init
loop-i-init c = record { whole = refl; run = λ k from to. absurd (omega (arith, from, to)); others = λ k off. refl }

pub loop-i-preserved : goal.loop-i-preserved
loop-i-preserved c =
    let old = c.loop-i.flows in
    let new = c.set_flow.new.flows in
    let at = c.args.first + c.loop-i.i in
    let so = c.loop-i.invariant in
    let is = c.set_flow.ensures in
    let inside : at < length old = omega (arith, so.whole, c.requires, c.loop-i-test.true) in
    record {
      whole = ap (λ (l : List Flow). length l) is ∙ (length-set old at Unknown ∙ so.whole);
      run = λ k from to. elim (cases_eq k at) [
        | inl here ↦ ap (λ (l : List Flow). get_or l k Unknown) is ∙ (ap (λ j. get_or (set old at Unknown) j Unknown) here ∙ get_or-set_same old at Unknown Unknown inside)
        | inr off ↦ ap (λ (l : List Flow). get_or l k Unknown) is ∙ (get_or-set_other old at k Unknown Unknown off ∙ so.run k from (omega (arith, to, off)))
      ];
      others = λ k off.
          let apart : k ≢ at = λ same. off (omega (arith, same)) (omega (arith, same)) in
          ap (λ (l : List Flow). get_or l k Unknown) is ∙ (get_or-set_other old at k Unknown Unknown apart ∙ so.others k (λ from to. off from (omega (arith, to))));
    }
