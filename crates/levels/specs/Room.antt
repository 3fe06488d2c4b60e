-- How much is cached at most, kind by kind (defined by this product).
use Rattle.std.specs.Prelude.{◌≡◌, ◌≤◌, ℕ, ◌+◌, ◌*◌, ◌-◌, ◌/◌, Bool, List, Option, Some, None, count_by, length}
use Rattle.border_graph.specs.TileGraph.{TileGraph}
use Rattle.tile_labellings.specs.TileLabellings.{labelled_of, is_flooded}
use Rattle.levels.specs.declared.labelling_cache.HeldLabelling.{HeldLabelling}

-- how many labellings of tiles with side n fit into 230 MiB, at four bytes a sample
abbrev pub most_labellings : ℕ → ℕ
most_labellings n = 241172480 / (4 * (n * n))

-- how many blocks of tiles with side n fit into 50 MiB, at two bytes a sample
abbrev pub most_blocks : ℕ → ℕ
most_blocks n = 52428800 / (2 * (n * n))

-- so many rim points have so many tiles with this side, each on its own
abbrev pub rim_points : ℕ → ℕ → ℕ
rim_points n tiles = tiles * (4 * (n - 1))

-- the labelling belongs to a tile with side n
abbrev pub HasSide : ℕ → HeldLabelling → Type 0
HasSide n held = (labelled_of held.labelling).side ≡ n

-- the labelling is cached with its block
abbrev pub has_block : HeldLabelling → Bool
has_block held = is_flooded held.labelling

-- the bytes of the labellings: four a sample, and two more with a block
abbrev pub labelling_bytes : ℕ → List HeldLabelling → ℕ
labelling_bytes n held = 4 * (n * n) * length held + 2 * (n * n) * count_by has_block held

-- how many rim points and spills it has
abbrev pub graph_size : Option TileGraph → ℕ
graph_size None = 0
graph_size (Some graph) = length graph.summary.rim + length graph.summary.spills

-- a tile with this side has so many rim points, and as many spills
abbrev pub IsSmallGraph : ℕ → Option TileGraph → Type 0
IsSmallGraph n graph = graph_size graph ≤ 2 * (4 * (n - 1))
