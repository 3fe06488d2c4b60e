use Rattle.std.proofs.Common.{◌≡◌, ◌++◌, map, take}
use Rattle.edits.proofs.Plans.Once.{set_to}
use Rattle.edits.proofs.listing.put.Given as goal

abbrev pub invariant-loop-place : goal.invariant-loop-place
invariant-loop-place g l = l.changes.items ≡ l.initial.changes.items ++ map (set_to l.sample) (take l.place-index l.place-items)
