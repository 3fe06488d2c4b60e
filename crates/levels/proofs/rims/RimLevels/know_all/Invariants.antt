use Rattle.std.proofs.Common.{◌≡◌, ℕ, ◌<◌, ◌≤◌, ◌⊎◌, ℤ, Some, Contains, get_or, length}
use Rattle.levels.specs.Holding.{level_of}
use Rattle.levels.proofs.rims.RimLevels.know_all.Given as goal

abbrev pub invariant-loop-node : goal.invariant-loop-node
invariant-loop-node l = record {
  known : (k d : ℕ) → k < l.node-index → level_of l.self (get_or l.alike k d) ≡ Some l.level;
  only : (x : ℕ) (found : ℤ) → level_of l.self x ≡ Some found → (level_of l.fn.self x ≡ Some found) ⊎ (Contains l.alike x × (found ≡ l.level));
  few : (most : ℕ) → l.nodes ≤ most → length l.fn.self ≤ most → length l.self ≤ most;
}
