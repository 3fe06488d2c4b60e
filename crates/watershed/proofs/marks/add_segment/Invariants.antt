use Rattle.watershed.proofs.Prelude.{AreRuns, Cover, IsInSegment, ◌*◌, ◌⊎◌}
use Rattle.watershed.proofs.marks.add_segment.Given as goal

abbrev pub invariant-loop-i : goal.invariant-loop-i
invariant-loop-i l = AreRuns (λ q. Cover l.fn.runs.items q ⊎ IsInSegment l.words l.number l.place (l.i * 64) q) l.runs.items
