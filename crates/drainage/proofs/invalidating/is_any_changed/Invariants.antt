use Rattle.drainage.proofs.Prelude.{All, IsUnchanged, take}
use Rattle.drainage.proofs.invalidating.is_any_changed.Given as goal

abbrev pub invariant-loop-one : goal.invariant-loop-one
invariant-loop-one l = All IsUnchanged (take l.one-index l.heights)
