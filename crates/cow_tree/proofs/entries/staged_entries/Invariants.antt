use Rattle.cow_tree.proofs.Prelude.{entry_of, map, take, ◌≡◌}
use Rattle.cow_tree.proofs.entries.staged_entries.Given as goal

abbrev pub invariant-loop-corner : goal.invariant-loop-corner
invariant-loop-corner l = l.entries.items ≡ map entry_of (take l.corner-index l.fn.page_map.staged)
