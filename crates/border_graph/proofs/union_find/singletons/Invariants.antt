use Rattle.std.proofs.Common.{◌≡◌, ℕ, ◌<◌, length, get_or}
use Rattle.border_graph.proofs.union_find.singletons.Given as goal

abbrev pub invariant-loop-x : goal.invariant-loop-x
invariant-loop-x l = record {
  whole : length l.parent.items ≡ l.x;
  roots : (y : ℕ) → y < l.x → get_or l.parent.items y 0 ≡ y;
}
