use Rattle.flow_d8.proofs.Prelude.{Flow, List, Unknown, ap, arith, cases_eq, get_or, get_or-set_other, get_or-set_same, inl, inr, length, length-set, refl, set, subst, sym, ◌+◌, ◌<◌, ◌∙◌, ◌≡◌, ◌≢◌}
use Rattle.flow_d8.specs.FlowGrids.{AreFilledIn}
use Rattle.flow_d8.proofs.Sayings.Draining.{decide_known}
use Rattle.flow_d8.proofs.grid.fill.Goals as goal

pub loop-i-init : goal.loop-i-init
loop-i-init c = record { whole = refl; known = λ k some. refl; filled = λ e small. absurd (omega (arith, small)); others = λ k off. refl }

pub loop-i-preserved : goal.loop-i-preserved
loop-i-preserved c =
    let start = c.args.flows.now in
    let old = c.loop-i.flows in
    let new = c.fill_at.new.flows in
    let i = c.loop-i.i in
    let at = c.args.first + i in
    let so = c.loop-i.invariant in
    let byte = c.flow_at.result in
    let inside : at < length old = omega (arith, so.whole, c.requires, c.loop-i-test.true) in
    -- the sample's flow before this step is that at the start
    let was : get_or old at Unknown ≡ get_or start at Unknown = so.others at (λ from to. omega (arith, to)) in
    elim (decide_known (get_or old at Unknown)) [
      | inl nothing ↦
          let is : new ≡ set old at byte = c.fill_at.ensures.unknown nothing in
          let elsewhere : (k : _) → k ≢ at → get_or new k Unknown ≡ get_or old k Unknown = λ k off. ap (λ (l : List Flow). get_or l k Unknown) is ∙ get_or-set_other old at k byte Unknown off in
          record {
            whole = ap (λ (l : List Flow). length l) is ∙ (length-set old at byte ∙ so.whole);
            known = λ k some. elsewhere k (λ same. some (ap (λ j. get_or start j Unknown) same ∙ (sym was ∙ nothing))) ∙ so.known k some;
            filled = λ e small none. elim (cases_eq e i) [
              | inl here ↦
                  ap (λ j. get_or new (c.args.first + j) Unknown) here ∙ (ap (λ (l : List Flow). get_or l at Unknown) is ∙ (get_or-set_same old at byte Unknown inside
                  ∙ (c.flow_at.ensures ∙ ap (λ j. get_or c.args.tile.now j Unknown) (sym here))))
              | inr other ↦ elsewhere (c.args.first + e) (λ same. other (omega (arith, same))) ∙ so.filled e (omega (arith, small, other)) none
            ];
            others = λ k off. elsewhere k (λ same. off (omega (arith, same)) (omega (arith, same))) ∙ so.others k (λ from to. off from (omega (arith, to)));
          }
      | inr some ↦
          let is : new ≡ old = c.fill_at.ensures.known some in
          subst (AreFilledIn c.args.first (i + 1) c.args.tile.now start) (sym is) (record {
            whole = so.whole;
            known = so.known;
            filled = λ e small none. elim (cases_eq e i) [
              | inl here ↦ absurd (some (was ∙ (ap (λ j. get_or start (c.args.first + j) Unknown) (sym here) ∙ none)))
              | inr other ↦ so.filled e (omega (arith, small, other)) none
            ];
            others = λ k off. so.others k (λ from to. off from (omega (arith, to)));
          })
    ]
