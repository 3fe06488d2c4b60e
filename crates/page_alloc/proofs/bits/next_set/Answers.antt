use Rattle.std.proofs.Common.{◌≢◌, get_or, arith}
use Rattle.std.proofs.Math.Facts.{Fits-lt-pow}
use Rattle.page_alloc.proofs.BitLemmas.{has_bit-lowest, has_bit-none}
use Rattle.page_alloc.proofs.bits.next_set.Goals as goal
use Rattle.page_alloc.proofs.bits.next_set.Goals.{in-Some, in-None+in_ok-word-in-None}

pub returns-in_err-word-in-None-clause-none : goal.returns-in_err-word-in-None-clause-none
returns-in_err-word-in-None-clause-none c =
    rw c.from_residual.ensures (has_bit-none c.args.words.now (λ word inside. c.in_err-word-in-None.ensures.none word (omega arith) inside))

pub returns-clause-found : goal.returns-clause-found
returns-clause-found c =
    let some : get_or c.args.words.now c.match-next_word.word 0 ≢ 0 =
    elim c.match-next_word.branch [
      | in-Some w ↦ rw w.word-is w.in-Some.ensures.found
      | in-None+in_ok-word-in-None w ↦ rw w.word-is w.in_ok-word-in-None.ensures.found
    ] in
    has_bit-lowest c.args.words.now c.match-next_word.word (Fits-lt-pow (c.type_inv.words c.match-next_word.word)) some
