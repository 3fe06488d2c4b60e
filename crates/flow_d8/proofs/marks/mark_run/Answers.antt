use Rattle.flow_d8.proofs.Prelude.{ap, arith, cases_eq, get_or-set_other, get_or-set_same, inl, inr, length, length-set, mark_at, sum_by-set, ◌<◌, ◌∙◌, ◌≡◌, ◌≤◌}
use Rattle.flow_d8.proofs.marks.mark_run.Goals as goal

pub loop-k-preserved : goal.loop-k-preserved
loop-k-preserved c =
    let was = c.loop-k.invariant in
    let marks = c.loop-k.marks in
    let k = c.loop-k.k in
    let run = c.args.run in
    let in_run : k ≤ run.last = omega (arith, c.loop-k-test.true) in
    let small : k < length marks = omega (arith, was.whole, c.requires.last, in_run) in
    rw c.set.ensures (record {
      whole = length-set marks k c.args.mark ∙ was.whole;
      here = λ j from less. elim (cases_eq j k) [
        | inl same ↦ ap (mark_at _) same ∙ get_or-set_same marks k c.args.mark 3 small
        | inr other ↦ get_or-set_other marks k j c.args.mark 3 other ∙ was.here j from (omega arith)
      ];
      others = λ j apart. get_or-set_other marks k j c.args.mark 3 (λ same. apart (record { from = omega (arith, same, c.loop-k.auto.k); to = omega (arith, same, in_run) })) ∙ was.others j apart;
      later = λ j from. get_or-set_other marks k j c.args.mark 3 (λ same. absurd (omega arith)) ∙ was.later j (omega arith);
      fewer = λ less free.
          let at : mark_at marks k ≡ 3 = was.later k (omega arith) ∙ free k (record { from = c.loop-k.auto.k; to = in_run }) in
          omega (arith, was.fewer less free, at, less, c.loop-k.auto.k, sum_by-set (λ x. x) marks k c.args.mark 3 small);
    })
