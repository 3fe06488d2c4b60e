-- How far a step leads over samples deep in a tile.
use Rattle.std.specs.Prelude.{◌≡◌, ℕ, ◌+◌, ◌-◌, ◌≤◌}
use Rattle.flow_d8.specs.Prelude.{Dir}
use Rattle.flow_d8.specs.declared.tiles.Stride.{Stride}
use Rattle.flow_d8.specs.Places.{place_by}

-- the stride gives the step as a number of samples ahead and a number behind
pub record IsStride (n : ℕ) (d : Dir) (s : Stride) : Type 0 where
  pub ahead : s.ahead ≤ n + 1
  pub behind : s.behind ≤ n + 1
  pub at : (k : ℕ) → n + 1 ≤ k → place_by n k d ≡ k + s.ahead - s.behind
