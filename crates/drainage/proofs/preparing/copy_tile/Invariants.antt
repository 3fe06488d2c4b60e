use Rattle.drainage.specs.Padded.{IsTileCopied}
use Rattle.drainage.proofs.preparing.copy_tile.Given as goal

abbrev pub invariant-loop-row : goal.invariant-loop-row
invariant-loop-row l = IsTileCopied l.row l.fn.side l.tile l.fn.levels l.levels
