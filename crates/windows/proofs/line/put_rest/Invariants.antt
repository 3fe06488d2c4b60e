use Rattle.std.proofs.Common.{◌≡◌, ◌++◌, ℕ, List, length}
use Rattle.windows.specs.Lines.{IsPut}
use Rattle.windows.proofs.line.put_rest.Given as goal

-- the bytes made so far, and where they are written
abbrev pub invariant-loop-rest : goal.invariant-loop-rest
invariant-loop-rest l = (made : List ℕ) × ((made ++ l.rest ≡ l.fn.rest) × (IsPut made l.into l.at × (length l.into ≡ length l.fn.into)))

abbrev pub decreases-loop-rest : goal.decreases-loop-rest
decreases-loop-rest l = length l.rest
