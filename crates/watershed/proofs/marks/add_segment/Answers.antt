use Rattle.watershed.proofs.Prelude.{AreRuns, Cover, IsInSegment, IsInWord, arith, inl, inr, subst, sym, ⊎_elim, ◌*◌, ◌+◌, ◌⊎◌}
use Rattle.watershed.proofs.Found.{runs_alike}
use Rattle.watershed.proofs.Marked.{segment_before, segment_more}
use Rattle.watershed.proofs.marks.add_segment.Goals as goal

pub add_word-requires-clause-past : goal.add_word-requires-clause-past
add_word-requires-clause-past c q has = ⊎_elim
    (λ old. let before = c.requires.past q old in (before.0, (before.1.0, omega (arith, before.1.1))))
    (λ new. segment_before c.args.words.now c.args.number c.args.place c.loop-i.i c.loop-i-test.true q new)
    ((c.loop-i.invariant.covers q).0 has)

pub loop-i-preserved : goal.loop-i-preserved
loop-i-preserved c =
    let words = c.args.words.now in
    let number = c.args.number in
    let place = c.args.place in
    let i = c.loop-i.i in
    let start = c.args.runs.now.items in
    let runs = c.loop-i.runs.items in
    let inv = c.loop-i.invariant in
    let first = number * 4096 + i * 64 in
    let is = c.word_at-bits.ensures in
    runs_alike (λ q. Cover runs q ⊎ IsInWord c.word_at-bits.result first 64 q) (λ q. Cover start q ⊎ IsInSegment words number place ((i + 1) * 64) q) c.add_word.new.runs.items
    (λ q.
    let more = segment_more words number place i c.loop-i-test.true q in (
      (λ has. ⊎_elim
          (λ before. ⊎_elim (λ old. inl old) (λ told. inr (more.1 (inl told))) ((inv.covers q).0 before))
          (λ new. inr (more.1 (inr (subst (λ b. IsInWord b first 64 q) is new))))
          has),
      (λ has. ⊎_elim
          (λ old. inl ((inv.covers q).1 (inl old)))
          (λ told. ⊎_elim (λ before. inl ((inv.covers q).1 (inr before))) (λ new. inr (subst (λ b. IsInWord b first 64 q) (sym is) new)) (more.0 told))
          has),
    )) c.in_ok-add_word.ensures

pub returns : goal.returns
returns c = subst (λ n. AreRuns (λ q. Cover c.args.runs.now.items q ⊎ IsInSegment c.args.words.now c.args.number c.args.place n q) c.loop-i.runs.items) (let end = c.loop-i-test.false in let most = c.loop-i.auto.i-end in omega arith) c.loop-i.invariant
