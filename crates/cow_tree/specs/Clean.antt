-- When nothing is staged in a tree.
use Rattle.std.specs.Prelude.{◌≡◌, map}
use Rattle.disk.specs.declared.disk.Disk.{Ghosts}
use Rattle.lattice.specs.Corners.{Corner}
use Rattle.cow_tree.specs.Trees.{root_of, corners_of, records_due, HasStaged, IsUnstaged}
use Rattle.cow_tree.specs.declared.tree.Tree.{Tree}

-- The staged tiles are the committed ones, no page is to be written, and the corners are those of the root.
pub record IsClean {D : Type 0} {g : Ghosts D} (tree : Tree D g) : Type 0 where
  pub unstaged : IsUnstaged tree
  pub none_staged : (c : Corner) → ¬ HasStaged tree c
  pub none_due : records_due tree ≡ 0
  pub corners : corners_of tree ≡ map (λ e. e.corner) (root_of tree).entries
