use Rattle.std.proofs.Common.{◌≡◌, ◌≤◌, filter, length, take}
use Rattle.std.specs.Option.{is_none}
use Rattle.derived.proofs.staleness.count_stale.Given as goal

abbrev pub invariant-loop-entry : goal.invariant-loop-entry
invariant-loop-entry l = (l.count ≡ length (filter (λ e. is_none e.kept) (take l.entry-index l.entries))) × (l.count ≤ l.entry-index)
