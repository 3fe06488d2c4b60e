-- How reading changes a tree, and when the samples that it reads are those of a mosaic.
use Rattle.std.proofs.Common.{refl, ap, ◌∙◌, arith, ◌≡◌, ◌⊎◌, ℕ, ◌≤◌, true, false, List, [], ◌∷◌, map, Result, OnOk, OnErr, IfErr, IsErrOf}
use Rattle.disk.specs.Disk.{Image, HasRisen}
use Rattle.disk.specs.Stops.{AddsNothing, nothing_done, nothing_twice}
use Rattle.disk.specs.declared.disk.Disk.{Ghosts}
use Rattle.lattice.specs.Corners.{Corner}
use Rattle.lattice.specs.declared.point.Point.{Point}
use Rattle.lattice.specs.Mosaic.{Mosaic, IsMosaic}
use Rattle.lattice.specs.declared.refusal.Refusal.{Refusal}
use Rattle.lattice.specs.declared.refusal.Refusal.TheVariants.{Device, Failed}
use Rattle.catalogue.specs.Tiles.{corners_of as corners_in}
use Rattle.page_map.specs.TileLocations.{TileLocation}
use Rattle.cow_tree.specs.Layout.{tile_in}
use Rattle.cow_tree.specs.Stored.{Stored, AreWhole, mosaic_of_tiles}
use Rattle.cow_tree.specs.Trees.{disk_of, root_of, has_failed, has_begun, corners_of, sinks_of, staged_in, IsAt}
use Rattle.cow_tree.specs.declared.tree.Tree.{Tree}

-- the mosaic of the tiles as the next commit will store them
abbrev pub mosaic_of : {D : Type 0} (g : Ghosts D) → Tree D g → Mosaic
mosaic_of g tree = mosaic_of_tiles (root_of tree).side (sinks_of tree) (staged_in g tree)

-- The samples of the tree are those of a mosaic: the disk is honest, each page of heights is a whole page, and the
-- tiles make a mosaic. A refused call doesn't change that.
pub record IsReadable {D : Type 0} (g : Ghosts D) (tree : Tree D g) : Type 0 where
  pub honest : g.honest (disk_of tree)
  pub pages : AreWhole (staged_in g tree)
  pub valid : IsMosaic (mosaic_of g tree)

-- Only reads lead from the old tree to the new one, on any disk: nothing was staged or committed, and no image was
-- added. A tree that had failed has failed.
pub record HasOnlyRead {D : Type 0} (g : Ghosts D) (old new : Tree D g) : Type 0 where
  pub size : g.size (disk_of new) ≡ g.size (disk_of old)
  pub writes : g.writes (disk_of new) ≡ g.writes (disk_of old)
  pub later : g.failures (disk_of old) ≤ g.failures (disk_of new)
  pub root : root_of new ≡ root_of old
  pub page_map : new.page_map ≡ old.page_map
  pub corners : corners_of new ≡ corners_of old
  pub sinks : sinks_of new ≡ sinks_of old
  pub begun : has_begun new ≡ has_begun old
  pub works : has_failed new ≡ false → has_failed old ≡ false
  pub honest : g.honest (disk_of new) → g.honest (disk_of old)
  pub nothing : g.honest (disk_of new) → AddsNothing g (disk_of old) (disk_of new)
  pub staged : g.honest (disk_of new) → staged_in g new ≡ staged_in g old
  pub at : g.honest (disk_of new) → (s : Stored) → IsAt g old s → has_failed new ≡ false → IsAt g new s

-- A read is refused with Device, and then the tree fails, or with Failed if the tree had failed before.
pub record Reads {D T : Type 0} (g : Ghosts D) (old new : Tree D g) (result : Result T Refusal) : Type 0 where
  pub keeps : HasOnlyRead g old new
  pub refused : IfErr result (λ why. (why ≡ Device) ⊎ (why ≡ Failed))
  pub device : IsErrOf result Device → HasRisen (g.failures (disk_of old)) (g.failures (disk_of new))
  pub only_device : has_failed old ≡ false → IfErr result (λ why. why ≡ Device)
  pub not_failed : OnOk result (has_failed new ≡ false)
  pub failed : OnErr result (has_failed new ≡ true)

module _ {D : Type 0} (g : Ghosts D) where
  -- the case of no read
  pub read_nothing : ((disk : D) (image : Image) → g.honest disk → g.since disk (g.moment disk) image → g.may disk image) → (tree : Tree D g) → HasOnlyRead g tree tree
  read_nothing only_now tree = record {
    size = refl;
    writes = refl;
    later = omega arith;
    root = refl;
    page_map = refl;
    corners = refl;
    sinks = refl;
    begun = refl;
    works = λ works. works;
    honest = λ honest. honest;
    nothing = λ honest. nothing_done g (disk_of tree) (only_now (disk_of tree)) honest;
    staged = λ _. refl;
    at = λ _ s is _. is;
  }

  -- the case of one read after another
  pub read_again : (a b c : Tree D g) → HasOnlyRead g a b → HasOnlyRead g b c → HasOnlyRead g a c
  read_again a b c first second = record {
    size = second.size ∙ first.size;
    writes = second.writes ∙ first.writes;
    later = omega (arith, first.later, second.later);
    root = second.root ∙ first.root;
    page_map = second.page_map ∙ first.page_map;
    corners = second.corners ∙ first.corners;
    sinks = second.sinks ∙ first.sinks;
    begun = second.begun ∙ first.begun;
    works = λ works. first.works (second.works works);
    honest = λ honest. first.honest (second.honest honest);
    nothing = λ honest. nothing_twice g (disk_of a) (disk_of b) (disk_of c) (first.nothing (second.honest honest)) (second.nothing honest);
    staged = λ honest. second.staged honest ∙ first.staged (second.honest honest);
    at = λ honest s is works. second.at honest s (first.at (second.honest honest) s is (second.works works)) works;
  }

-- the mosaic has the corners of the staged tiles
pub corners_in_mosaic : (n : ℕ) (sinks : List Point) (image : Image) (tiles : List TileLocation) → corners_in (mosaic_of_tiles n sinks (map (tile_in image) tiles)) ≡ map (λ (t : TileLocation). t.corner) tiles
corners_in_mosaic n sinks image [] = refl
corners_in_mosaic n sinks image (t ∷ rest) = ap (λ (cs : List Corner). t.corner ∷ cs) (corners_in_mosaic n sinks image rest)
