use Rattle.std.proofs.Common.{◌≡◌, List, ℕ, ◌++◌, length}
use Rattle.lines.specs.Grammar.{AreInts}
use Rattle.lines.proofs.number.integers.Given as goal

-- The words read so far are these numbers.
abbrev pub invariant-loop-word : goal.invariant-loop-word
invariant-loop-word l = (done : List (List ℕ)) × (l.fn.words ≡ done ++ l.words) × AreInts done l.numbers.items

abbrev pub decreases-loop-word : goal.decreases-loop-word
decreases-loop-word l = length l.words
