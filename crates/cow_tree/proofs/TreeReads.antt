-- The state of a tree after a read.
use Rattle.std.proofs.Common.{rules}
use Rattle.cow_tree.proofs.Prelude.{AreWhole, Ghosts, HasOnlyRead, IsMosaic, IsReadable, List, Point, RootValue, Tree, ap, ap₂, mosaic_of, mosaic_of_tiles, subst, sym, ◌∙◌, ◌≡◌}
use Rattle.cow_tree.specs.Trees.{disk_of, root_of, sinks_of, staged_in}

module _ {D : Type 0} (g : Ghosts D) (old new : Tree D g) (kept : HasOnlyRead g old new) where
  pub same_mosaic : g.honest (disk_of new) → mosaic_of g new ≡ mosaic_of g old
  same_mosaic honest =
      ap₂ (λ (r : RootValue) (sinks : List Point). mosaic_of_tiles r.side sinks (staged_in g new)) kept.root kept.sinks
      ∙ ap (mosaic_of_tiles (root_of old).side (sinks_of old)) (kept.staged honest)

  pub was_readable : IsReadable g new → IsReadable g old
  was_readable readable = search rules

  pub still_readable : g.honest (disk_of new) → IsReadable g old → IsReadable g new
  still_readable honest was = search rules
