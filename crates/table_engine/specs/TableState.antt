-- The state of an engine in memory (defined by this product).
use Rattle.std.specs.Prelude.{◌≡◌, ℕ, ◌<◌, ◌≤◌, false, not, List, filter, length, ⊤}
use Rattle.lattice.specs.Corners.{Corner}
use Rattle.lattice.specs.Mosaic.{Mosaic, IsMosaic}
use Rattle.catalogue.specs.Tiles.{corners_of, is_listed}
use Rattle.engine.specs.Engines.{Members}
use Rattle.engine.specs.State.{Contents, working}
use Rattle.drainage.specs.Between.{IsHeldOf}
use Rattle.drainage.specs.declared.drainage_cache.DrainageCache.{DrainageCache}

-- the capacity in tiles, the mosaic, and the rest of the engine's state
pub record TableState : Type 0 where
  pub capacity : ℕ
  pub contents : Contents

-- those corners that aren't fresh
abbrev pub stale_among : List Corner → List Corner → List Corner
stale_among corners fresh = filter (λ p. not (is_listed p fresh)) corners

-- The engine keeps no planes. A tile is fresh from the step that names it until a command makes it stale.
abbrev pub contents_of : Mosaic → List Corner → ℕ → ℕ → Contents
contents_of m fresh k g = record { version = 2; mosaic = m; count = k; number = g; stale = stale_among (corners_of m) fresh }

abbrev pub held_of : ℕ → Mosaic → List Corner → ℕ → ℕ → TableState
held_of capacity m fresh k g = record { capacity = capacity; contents = contents_of m fresh k g }

-- The engine has no disk: it never fails, and a stop leaves nothing.
abbrev pub table : Members TableState
table = record {
  is_honest = (λ _. ⊤);
  is_at = (λ held s. s ≡ working held.contents);
  leaves_only = (λ first last states. ⊤);
  side_of = (λ held. held.contents.mosaic.side);
  capacity_of = (λ held. held.capacity);
  has_failed = (λ _. false);
  failures = (λ _. 0);
  writes = (λ _. 0);
  sectors = (λ _. 0);
  known = (λ held. record { version = 2; count = held.contents.count; number = held.contents.number });
}

-- a mosaic with at most `capacity` tiles, and a right cache of its water; one commit more than commands
pub record IsKept (capacity : ℕ) (m : Mosaic) (found : DrainageCache) (k g : ℕ) : Type 0 where
  pub valid : IsMosaic m
  pub above : k < g
  pub within : length m.tiles ≤ capacity
  pub right : IsHeldOf m found
