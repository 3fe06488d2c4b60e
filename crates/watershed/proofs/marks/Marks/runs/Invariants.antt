use Rattle.watershed.proofs.Marked.{AreDrawn}
use Rattle.watershed.proofs.marks.Marks.runs.Given as goal

abbrev pub invariant-loop-number : goal.invariant-loop-number
invariant-loop-number l = AreDrawn l.self l.runs.items l.number-iterator
