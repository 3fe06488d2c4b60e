use Rattle.watershed.proofs.Prelude.{AreRuns, Cover, IsInWord, IsRank, arith, bit_at, inl, inr, subst, ⊎_elim, ◌+◌, ◌≡◌, ◌⊎◌}
use Rattle.watershed.proofs.Found.{runs_alike}
use Rattle.watershed.proofs.Marked.{word_before, word_more}
use Rattle.watershed.proofs.marks.add_word.Goals as goal

pub add_bit-requires-clause-past : goal.add_bit-requires-clause-past
add_bit-requires-clause-past c q has = ⊎_elim
    (λ old. let before = c.requires.past q old in (before.0, (before.1.0, omega (arith, before.1.1))))
    (λ new. word_before c.args.bits c.args.first c.loop-bit.bit q new)
    ((c.loop-bit.invariant.covers q).0 has)

pub loop-bit-preserved : goal.loop-bit-preserved
loop-bit-preserved c =
    let bits = c.args.bits in
    let first = c.args.first in
    let bit = c.loop-bit.bit in
    let start = c.args.runs.now.items in
    let runs = c.loop-bit.runs.items in
    let inv = c.loop-bit.invariant in
    runs_alike (λ q. Cover runs q ⊎ ((bit_at bits bit ≡ 1) × IsRank q (first + bit))) (λ q. Cover start q ⊎ IsInWord bits first (bit + 1) q) c.add_bit.new.runs.items
    (λ q.
    let more = word_more bits first bit q in (
      (λ has. ⊎_elim
          (λ before. ⊎_elim (λ old. inl old) (λ told. inr (more.1 (inl told))) ((inv.covers q).0 before))
          (λ new. inr (more.1 (inr new)))
          has),
      (λ has. ⊎_elim
          (λ old. inl ((inv.covers q).1 (inl old)))
          (λ told. ⊎_elim (λ before. inl ((inv.covers q).1 (inr before))) (λ new. inr new) (more.0 told))
          has),
    )) c.in_ok-add_bit.ensures

pub returns : goal.returns
returns c = subst (λ n. AreRuns (λ q. Cover c.args.runs.now.items q ⊎ IsInWord c.args.bits c.args.first n q) c.loop-bit.runs.items) (let end = c.loop-bit-test.false in let most = c.loop-bit.auto.bit-end in omega arith) c.loop-bit.invariant
