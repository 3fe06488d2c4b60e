-- The members of a flat while they are being found.
use Rattle.std.specs.Prelude.{◌≡◌, ℕ, ◌+◌, ◌<◌, ◌≤◌, length, sum, slice_index_or}
use Rattle.flow_d8.specs.Prelude.{Dir}
use Rattle.flow_d8.specs.declared.collecting.Members.{Members}
use Rattle.flow_d8.specs.declared.tile_flows.TileFlows.{TileFlows}
use Rattle.flow_d8.specs.Marks.{IsMember, IsSettled, AreFound, no_run}
use Rattle.flow_d8.specs.Tiles.{by_of}

abbrev pub AreFoundIn : TileFlows → Members → Type 0
AreFoundIn t m = AreFound t.tiles.now t.flows.now m.seed m.marks m.runs.items

abbrev pub IsSettledBeside : TileFlows → Members → ℕ → Dir → Type 0
IsSettledBeside t m k d = IsSettled t.flows.now m.marks (by_of t.tiles.now k d)

-- members are added, and their runs are appended to the list
pub record Grows (t : TileFlows) (old new : Members) : Type 0 where
  pub seed : new.seed ≡ old.seed
  pub found : AreFoundIn t new
  pub kept : (k : ℕ) → IsMember old.marks k → IsMember new.marks k
  pub runs : (i : ℕ) → i < length old.runs.items → (i < length new.runs.items) × (slice_index_or new.runs.items i no_run ≡ slice_index_or old.runs.items i no_run)
  pub fewer : sum new.marks + length new.runs.items ≤ sum old.marks + length old.runs.items
