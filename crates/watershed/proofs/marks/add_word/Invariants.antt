use Rattle.watershed.proofs.Prelude.{AreRuns, Cover, IsInWord, ◌⊎◌}
use Rattle.watershed.proofs.marks.add_word.Given as goal

abbrev pub invariant-loop-bit : goal.invariant-loop-bit
invariant-loop-bit l = AreRuns (λ q. Cover l.fn.runs.items q ⊎ IsInWord l.bits l.first l.bit q) l.runs.items
