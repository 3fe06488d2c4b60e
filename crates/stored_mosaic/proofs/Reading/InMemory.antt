-- Commands on whole tiles in a state, from what the tree has in memory.
use Rattle.std.proofs.Common.{rules}
use Rattle.stored_mosaic.proofs.Prelude.{Command, Corner, Ghosts, Image, Info, IsInState, IsSound, List, Mosaic, Ok, State, TileLocation, Tree, ℕ, [], ap, ap₂, corners_of_stored, effect, false, last_number, length, length-map, map, number_of, refl, stale_in, sym, tile_in, ◌-◌, ◌∙◌, ◌∷◌, ◌≡◌}
use Rattle.catalogue.specs.Tiles.{corners_of}
use Rattle.engine.specs.Outcomes.{IsWorn, info_of}
use Rattle.engine.proofs.Infos.{same_info}
use Rattle.page_map.specs.PageMaps.{corners_of_locations}
use Rattle.cow_tree.specs.Trees.{disk_of, root_of, has_failed, corners_of as corners_under}
use Rattle.stored_mosaic.proofs.Reading.HeldTiles.{corners_held}
use Rattle.stored_mosaic.proofs.Reading.Holding.{held}

pub corners_kept : (image : Image) (tiles : List TileLocation) → corners_of_locations tiles ≡ corners_of_stored (map (tile_in image) tiles)
corners_kept image [] = refl
corners_kept image (t ∷ rest) = ap (λ (cs : List Corner). t.corner ∷ cs) (corners_kept image rest)

module _ {D : Type 0} (g : Ghosts D) (tree : Tree D g) (works : has_failed tree ≡ false) (s : State) (at : IsInState g tree s) where
  abbrev n : ℕ
  n = (root_of tree).side

  abbrev capacity : ℕ
  capacity = (root_of tree).capacity

  pub is_working : s.failed ≡ false
  is_working = sym at.failed_is ∙ works

  abbrev pub sound_at : IsSound g tree s
  sound_at = at.sound works

  pub side_is : s.contents.mosaic.side ≡ (root_of tree).side
  side_is = sound_at.holds.side_is

  pub corners_are : corners_under tree ≡ corners_of s.contents.mosaic
  corners_are =
      corners_kept (g.seen (disk_of tree)) tree.page_map.staged ∙ ap corners_of_stored sound_at.nothing_staged
      ∙ corners_held n sound_at.stored.tiles s.contents.mosaic (held n capacity sound_at.stored s.contents sound_at.holds)

  -- The info's numbers are the root's.
  pub info_is : (i : Info) → i.side ≡ n → i.capacity ≡ capacity → i.version ≡ number_of (root_of tree).version → i.count ≡ (root_of tree).count → i.commits ≡ (root_of tree).number
      → i.fresh ≡ length (corners_under tree) - length (stale_in (root_of tree)) → i.stale ≡ length (stale_in (root_of tree)) → i ≡ info_of capacity s.contents
  info_is i side room version count commits fresh stale =
      same_info i (info_of capacity s.contents) (side ∙ sym side_is) room (version ∙ at.version) (count ∙ at.count) (commits ∙ at.number)
      (fresh ∙ ap₂ (λ (a b : ℕ). a - b) (ap length corners_are ∙ length-map s.contents.mosaic.tiles (λ t. t.corner)) (ap length at.stale)) (stale ∙ ap length at.stale)

  pub worn_at : (command : Command) (made : Mosaic) → effect capacity s.contents.mosaic command ≡ Ok made → (root_of tree).number ≡ last_number → IsWorn capacity s command s
  worn_at command made makes worn = search rules
