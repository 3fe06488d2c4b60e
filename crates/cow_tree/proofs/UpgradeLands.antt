-- What an upgrade leaves unchanged in the page map, and a bound on its writes.
use Rattle.cow_tree.proofs.Prelude.{All, All-head, All-tail, AreWholeKept, Bool, Corner, EntryValue, Format, IfSome, IsPageMap, IsWholeTile, KeptLocations, List, None, Option, PageMapValue, RootValue, Some, TileLocation, Two, ℕ, [], ap, arith, corners_of_locations, entry_of, false, format_of, if◌then◌else◌, index_pages_of, length, length-append, length-map, listing_of, map, refl, subst, sym, true, upgraded, ◌*◌, ◌+◌, ◌∙◌, ◌∷◌, ◌≡◌, ◌≤◌}
use Rattle.std.proofs.Math.Nat.{mul-add}
use Rattle.page_map.specs.Upgraded.{TileData, IsUpgraded, data_of, listing_of_kept, listing_of_tile, listings}

-- the next commit's root, in the second version
abbrev pub upgraded_root : RootValue → List EntryValue → RootValue
upgraded_root root entries = record root { version = Two; number = root.number + 1; entries = entries }

-- ---- how many records and index pages list the planes of whole tiles
module _ (format : Format) where
  few_of_kept : (kept : Option KeptLocations) → IfSome kept (AreWholeKept format) → length (listing_of_kept kept) ≤ 2 * (1 + index_pages_of format)
  few_of_kept None whole = omega arith
  few_of_kept (Some k) whole = omega (arith, length-append (listing_of k.levels) (listing_of k.labels), whole.levels.index_pages, whole.labels.index_pages)

  few_of_tile : (t : TileLocation) → IsWholeTile format t → length (listing_of_tile t) ≤ 3 * (1 + index_pages_of format)
  few_of_tile t whole = omega (arith, length-append (listing_of t.heights) (listing_of_kept t.kept), whole.heights.index_pages, few_of_kept t.kept whole.kept)

  few_of_tiles : (tiles : List TileLocation) → All (IsWholeTile format) tiles → length (listings tiles) ≤ 3 * (1 + index_pages_of format) * length tiles
  few_of_tiles [] whole = omega arith
  few_of_tiles (t ∷ rest) whole =
      let here = few_of_tile t (All-head (IsWholeTile format) t rest whole) in
      let later = few_of_tiles rest (All-tail (IsWholeTile format) t rest whole) in
      omega (arith, here, later, length-append (listing_of_tile t) (listings rest), mul-add (3 * (1 + index_pages_of format)) 1 (length rest))

-- ---- what stays in the page map, and a bound on the writes
corners_of_data : (tiles : List TileLocation) → corners_of_locations tiles ≡ map (λ (d : TileData). d.corner) (map data_of tiles)
corners_of_data [] = refl
corners_of_data (t ∷ rest) = ap (λ (cs : List Corner). t.corner ∷ cs) (corners_of_data rest)

module _ (old new : PageMapValue) (rules : IsPageMap new) (up : IsUpgraded old new) where
  pub corners_stay : old.staged ≡ old.committed → corners_of_locations new.staged ≡ corners_of_locations old.staged
  corners_stay clean =
      ap corners_of_locations up.clean ∙ corners_of_data new.committed ∙ ap (map (λ (d : TileData). d.corner)) up.stays
      ∙ sym (corners_of_data old.committed) ∙ ap corners_of_locations (sym clean)

  pub few_listed : (root : RootValue) → new.format ≡ upgraded (format_of root) → map entry_of old.committed ≡ root.entries
      → length (listings new.staged) ≤ 3 * (1 + index_pages_of (upgraded (format_of root))) * length root.entries
  few_listed root format entries =
      let same = ap (λ (tiles : List TileLocation). length (listings tiles)) up.clean in
      let few = subst (λ (f : Format). length (listings new.committed) ≤ 3 * (1 + index_pages_of f) * length new.committed) format (few_of_tiles new.format new.committed rules.committed.whole) in
      let count : length new.committed ≡ length root.entries =
      sym (length-map new.committed data_of) ∙ ap length up.stays ∙ length-map old.committed data_of ∙ sym (length-map old.committed entry_of) ∙ ap length entries in
      subst (λ (n : ℕ). length (listings new.staged) ≤ 3 * (1 + index_pages_of (upgraded (format_of root))) * n) count (omega (arith, same, few))

-- Besides these pages, a commit writes at most three.
pub three_more : (began : Bool) (before now most : ℕ) → now ≤ before + most + (if began then 2 else 3) → now ≤ before + (most + 3)
three_more true before now most few = omega (arith, few)
three_more false before now most few = omega (arith, few)
