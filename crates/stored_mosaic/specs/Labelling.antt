-- What a store's tree reads to flood a tile, or to get its kept labelling (defined by this product).
use Rattle.std.specs.Prelude.{◌≡◌, ℕ, List, All, Some, Result, Err, IsOk, IfErr}
use Rattle.page_map.specs.declared.plane.Plane.{Plane}
use Rattle.disk.specs.declared.disk.Disk.{Ghosts}
use Rattle.lattice.specs.Corners.{Corner}
use Rattle.lattice.specs.declared.refusal.Refusal.{Refusal}
use Rattle.catalogue.specs.Asked.{IsOwnRefusal}
use Rattle.cow_tree.specs.Planes.{stored_plane}
use Rattle.cow_tree.specs.Reading.{mosaic_of, IsReadable, Reads}
use Rattle.cow_tree.specs.Stored.{IsPage, PlanePages, StoredTile, plane_bytes}
use Rattle.cow_tree.specs.Trees.{staged_in}
use Rattle.cow_tree.specs.declared.tree.Tree.{Tree}
use Rattle.tile_labellings.specs.Spots.{StandsAt}
use Rattle.derived.specs.Kept.{KeepRight}
use Rattle.stored_mosaic.specs.Queried.{IsTileOf}

-- The samples of the tree are those of a mosaic, and the planes that each tile keeps are right in it.
pub record IsSure {D : Type 0} (g : Ghosts D) (tree : Tree D g) : Type 0 where
  pub readable : IsReadable g tree
  pub kept : KeepRight (mosaic_of g tree) (staged_in g tree)

-- The tree was only read. A refused read refuses the call. Otherwise the call is answered, or refused for another
-- reason.
pub record Consults {D T : Type 0} (g : Ghosts D) (old new : Tree D g) (result : Result T Refusal) : Type 0 where
  -- the result of the reads
  pub read : Result (Unit {0}) Refusal
  pub reads : Reads g old new read
  pub passed : IfErr read (λ r. result ≡ Err r)
  pub own : IsOk read → IfErr result IsOwnRefusal

-- These two bytes are the value with this index in the plane of the corner's tile, if its pages are whole.
abbrev pub IsKeptValue : ℕ → List StoredTile → Corner → Plane → ℕ → List ℕ → Type 0
IsKeptValue n tiles c plane e two = (t : StoredTile) (pages : PlanePages) → IsTileOf tiles c t → stored_plane plane t ≡ Some pages → All IsPage pages → StandsAt (plane_bytes n pages) e two
