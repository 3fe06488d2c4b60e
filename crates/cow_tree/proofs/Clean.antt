-- Trees whose staged tiles are the committed ones.
use Rattle.cow_tree.proofs.Prelude.{EntryValue, Ghosts, Tree, ap, map, subst, sym, ◌∙◌, ◌≡◌}
use Rattle.page_map.specs.PageMaps.{PageMapValue, corners_of_locations, IsClean as IsCleanPageMap}
use Rattle.cow_tree.specs.Clean.{IsClean}
use Rattle.cow_tree.specs.Trees.{page_map_of, IsUnstaged}
use Rattle.cow_tree.proofs.Writes.Dropping.{corners_of_entries, clean_is_committed}
use Rattle.cow_tree.proofs.Listed.Due.{none_due}

pub is_clean : {D : Type 0} {g : Ghosts D} (tree : Tree D g) → IsUnstaged tree → IsClean tree
is_clean tree unstaged = record {
  unstaged = unstaged;
  none_staged = clean_is_committed tree.page_map unstaged;
  none_due = none_due tree.page_map unstaged;
  corners = ap corners_of_locations unstaged ∙ corners_of_entries tree.page_map.committed ∙ ap (map (λ (e : EntryValue). e.corner)) tree.entries;
}

pub still_clean : {D : Type 0} {g : Ghosts D} (old new : Tree D g) → page_map_of new ≡ page_map_of old → IsClean old → IsClean new
still_clean old new same was = is_clean new (subst (λ (x : PageMapValue). IsCleanPageMap x) (sym same) was.unstaged)
