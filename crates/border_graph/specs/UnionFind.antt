-- Union-find: nodes are joined if they have the same root.
use Rattle.std.specs.Prelude.{◌≡◌, ◌==◌, ℕ, zero, suc, ◌+◌, ◌<◌, ◌≤◌, ℤ, Bool, true, false, List, length, slice_index_or}
use Rattle.border_graph.specs.declared.pass.Pass.{Pass}
use Rattle.border_graph.specs.Passes.{AreJoined}

-- no node has a later node as parent
abbrev pub IsFalling : List ℕ → Type 0
IsFalling parent = (x : ℕ) → x < length parent → slice_index_or parent x 0 ≤ x

-- the node is its own parent
abbrev pub IsRoot : List ℕ → ℕ → Type 0
IsRoot parent x = slice_index_or parent x 0 ≡ x

-- each node is joined with its parent
abbrev pub AreOver : List Pass → ℤ → List ℕ → Type 0
AreOver passes level parent = (x : ℕ) → x < length parent → AreJoined passes level x (slice_index_or parent x 0)

abbrev pub one_if : Bool → ℕ
one_if true = 1
one_if false = 0

-- how many of the first n nodes are roots
abbrev pub roots : ℕ → List ℕ → ℕ
roots zero parent = 0
roots (suc n) parent = one_if (slice_index_or parent n 0 == n) + roots n parent
