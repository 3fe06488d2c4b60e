use Rattle.flow_d8.proofs.Prelude.{FlatTo, Reaches, ap, arith, back_of, cases_eq, get_or, get_or-set_same, inl, inr, mark_at, refl, set, subst, sym, ◌∙◌, ◌≡◌}
use Rattle.flow_d8.specs.Tiles.{by_of}
use Rattle.water.proofs.StepBack.{back_twice}
use Rattle.flow_d8.proofs.Waves.Listing.{IsLonger, longer_of}
use Rattle.flow_d8.proofs.Waves.Marking.{reaches_one, reaches_on, reaches_two, in_range}
use Rattle.flow_d8.proofs.spreading.reach.Goals as goal

pub loop-i-preserved-then-mark-ne-MEMBER : goal.loop-i-preserved-then-mark-ne-MEMBER
loop-i-preserved-then-mark-ne-MEMBER c =
    let was = c.loop-i.invariant in
    let by = by_of c.args.wave.now.tiles.now in
    let wave = c.args.wave.now.samples.now in
    let value = c.step-to.ensures.value ∙ ap (by (get_or wave c.loop-i.i 0)) c.back-to_wave.ensures in
    record {
      reaches = was.reaches;
      passed = λ j less two. elim (cases_eq j c.loop-i.i) [
        | inl same ↦ absurd (c.if-mark-ne-MEMBER.true (c.mark.ensures ∙ ap (mark_at c.loop-i.marks) value ∙ subst (λ n. mark_at c.loop-i.marks (by (get_or wave n 0) (back_of c.args.direction)) ≡ 2) same two))
        | inr other ↦ was.passed j (omega arith) two
      ];
    }

pub loop-i-preserved : goal.loop-i-preserved
loop-i-preserved c =
    let was = c.loop-i.invariant in
    let by = by_of c.args.wave.now.tiles.now in
    let wave = c.args.wave.now.samples.now in
    let d = c.args.direction in
    let from = get_or wave c.loop-i.i 0 in
    let to = by from (back_of d) in
    let marks = c.loop-i.marks in
    let flows = c.loop-i.flows in
    let next = c.loop-i.next.items in
    let value : c.step-to.result ≡ to = c.step-to.ensures.value ∙ ap (by from) c.back-to_wave.ensures in
    let two : mark_at marks to ≡ 2 = ap (mark_at marks) (sym value) ∙ sym c.mark.ensures ∙ c.if-mark-ne-MEMBER.false in
    let home = ap (by to) (sym (back_twice d)) ∙ c.requires.back c.loop-i.i c.loop-i-test.true (back_of d) (omega (arith, in_range marks to 2 two (omega arith), was.reaches.whole)) in
    let step : Reaches by wave d marks next flows (set marks c.step-to.result 0) c.push.new.self.items (set flows c.step-to.result c.of.result) =
    subst (λ f. Reaches by wave d marks next flows (set marks c.step-to.result 0) c.push.new.self.items (set flows c.step-to.result f)) (sym c.of.ensures)
    (subst (λ n. Reaches by wave d marks next flows (set marks n 0) c.push.new.self.items (set flows n (FlatTo d))) (sym value)
    (reaches_one by marks next c.push.new.self.items flows from d home (omega (arith, was.reaches.whole, was.reaches.flows_whole, c.requires.whole)) two
    (subst (IsLonger next c.push.new.self.items) (c.short.ensures ∙ value) (longer_of next c.push.new.self.items c.short.result c.in_ok-push.ensures.items)) wave (c.loop-i.i, (c.loop-i-test.true, refl)))) in
    let here : mark_at (set marks c.step-to.result 0) to ≡ 0 = subst (λ n. mark_at (set marks n 0) to ≡ 0) (sym value) (get_or-set_same marks to 0 3 (in_range marks to 2 two (omega arith))) in
    rw c.set.ensures (record {
      reaches = reaches_on by wave d c.args.marks.now c.args.next.now.items c.args.flows.now marks next flows _ _ _ was.reaches step;
      passed = λ j less held. elim (cases_eq j c.loop-i.i) [
        | inl same ↦ absurd (omega (arith, here, subst (λ n. mark_at (set marks c.step-to.result 0) (by (get_or wave n 0) (back_of d)) ≡ 2) same held))
        | inr other ↦ was.passed j (omega arith) (reaches_two by wave d marks next flows _ _ _ step (by (get_or wave j 0) (back_of d)) held)
      ];
    })
