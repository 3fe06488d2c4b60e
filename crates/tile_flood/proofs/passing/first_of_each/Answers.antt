use Rattle.std.proofs.Common.{arith, sym, ◌∙◌, true≢false}
use Rattle.labelling.proofs.Passages.{first_taken, same_passed}
use Rattle.tile_flood.proofs.passing.first_of_each.Goals as goal
use Rattle.tile_flood.proofs.passing.first_of_each.Goals.{then-k-eq0+in_ok-push, then-k-eq0-via-then-k-eq0, then-k-eq0-via-else-k-eq0+then-not-have_same_labels, else-k-eq0+else-not-have_same_labels}

pub loop-k-preserved : goal.loop-k-preserved
loop-k-preserved c =
    let sorted = c.args.sorted.now in
    let k = c.loop-k.k in
    elim c.if-k-eq0.branch [
      | then-k-eq0+in_ok-push w ↦ rw w.firsts-is (first_taken sorted c.loop-k.firsts.items k c.requires c.loop-k-test.true c.loop-k.invariant w.push.new.self.items _ w.in_ok-push.ensures.items
          (elim w.then-k-eq0.branch [
            | then-k-eq0-via-then-k-eq0 v ↦ λ some _. let at = v.if-k-eq0.true in absurd (omega arith)
            | then-k-eq0-via-else-k-eq0+then-not-have_same_labels v ↦ λ some same. true≢false (sym (v.have_same_labels.ensures.1 same) ∙ v.if-not-have_same_labels.true)
          ]))
      | else-k-eq0+else-not-have_same_labels w ↦ let first = w.if-k-eq0.false in rw w.firsts-is (same_passed sorted c.loop-k.firsts.items k c.requires c.loop-k-test.true c.loop-k.invariant _ (omega arith)
          (w.have_same_labels.ensures.0 w.if-not-have_same_labels.false))
    ]
