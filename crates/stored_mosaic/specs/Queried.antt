-- How a query changes a store's tree: it only reads. The count of failures may rise, and the tree may fail.
use Rattle.std.specs.Prelude.{◌≡◌, ◌≢◌, ℕ, true, false, List, Contains, Result, Ok, Err, IfErr}
use Rattle.disk.specs.Stops.{AddsNothing}
use Rattle.disk.specs.declared.disk.Disk.{Ghosts}
use Rattle.lattice.specs.Corners.{Corner}
use Rattle.lattice.specs.declared.refusal.Refusal.{Refusal}
use Rattle.lattice.specs.declared.refusal.Refusal.TheVariants.{Device, Failed}
use Rattle.catalogue.specs.Seams.{IsSeamCount}
use Rattle.engine.specs.Outcomes.{Stays, ElevatesNot}
use Rattle.engine.specs.State.{State}
use Rattle.cow_tree.specs.Stored.{StoredTile}
use Rattle.cow_tree.specs.Trees.{disk_of, root_of, has_failed}
use Rattle.cow_tree.specs.Uncommitted.{Returns}
use Rattle.cow_tree.specs.declared.tree.Tree.{Tree}

-- The store's tree made the query, with this result.
pub record IsQueried {D T : Type 0} (g : Ghosts D) (old new : Tree D g) (result : Result T Refusal) : Type 0 where
  pub returns : Returns g old new result
  pub writes : g.writes (disk_of new) ≡ g.writes (disk_of old)
  pub root : root_of new ≡ root_of old
  -- The query fails the tree exactly if its answer is Device. It answers Failed only if the tree had failed before.
  pub quiet : has_failed old ≡ false → IfErr result (λ r. r ≢ Device → (r ≢ Failed) × (has_failed new ≡ false))
  -- A store that has failed makes no call of the disk, and stays failed.
  pub failed : has_failed old ≡ true → (result ≡ Err Failed) × (disk_of new ≡ disk_of old)
  pub still_failed : has_failed old ≡ true → has_failed new ≡ true
  -- A stop at any moment leaves no other image.
  pub nothing : g.honest (disk_of new) → AddsNothing g (disk_of old) (disk_of new)

-- the corner's only tile among these
pub record IsTileOf (tiles : List StoredTile) (c : Corner) (t : StoredTile) : Type 0 where
  pub there : Contains tiles t
  pub corner : t.corner ≡ c
  pub only : (other : StoredTile) → Contains tiles other → other.corner ≡ c → other ≡ t

-- the number of points at which seams of the mosaic disagree
abbrev pub CountsSeams : State → Result ℕ Refusal → State → Type 0
CountsSeams s (Ok count) t = Stays s t × IsSeamCount s.contents.mosaic count
CountsSeams s (Err r) t = ElevatesNot s r t
