use Rattle.border_graph.proofs.Prelude.{AreJoined, AreOver, List, Pass, ℤ, length, ◌<◌, ◌≤◌}
use Rattle.border_graph.proofs.Forests.Roots.{IsHigher}
use Rattle.border_graph.proofs.union_find.find.Given as goal

abbrev pub invariant-up : goal.invariant-up
invariant-up l = record {
  higher : IsHigher l.fn.parent l.parent;
  inside : l.x < length l.parent;
  below : l.x ≤ l.from;
  joined : (passes : List Pass) (level : ℤ) → AreOver passes level l.fn.parent → AreJoined passes level l.from l.x;
}

abbrev pub decreases-up : goal.decreases-up
decreases-up l = l.x
