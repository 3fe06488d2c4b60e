use Rattle.std.proofs.Common.{◌≡◌, [], take}
use Rattle.derived.specs.Kept.{stale_among}
use Rattle.derived.proofs.stepping.first_stale.Given as goal

abbrev pub invariant-loop-entry : goal.invariant-loop-entry
invariant-loop-entry l = stale_among (take l.entry-index l.entries) ≡ []
