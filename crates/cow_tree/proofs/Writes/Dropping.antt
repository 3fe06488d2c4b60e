-- A tile is removed, or everything staged is dropped.
use Rattle.cow_tree.proofs.Prelude.{All, AreStaged, Bool, Contains, Corner, EntryValue, Format, HasFreshHeights, Image, IsTileListed, List, PageMapValue, TileLocation, [], ap, cond, corners_of_locations, entry_of, false, filter, is_at, map, not, pages_behind, pages_of_kept, pages_of_tile, reached, refl, subst, true, without_location, ◌++◌, ◌∷◌, ◌≡◌}
use Rattle.std.proofs.lemmas.List.Elements.{All-head, All-contains, All-contains_itself, All-filter}
use Rattle.cow_tree.proofs.Standing.{each_tile}

pub filter-map : {X Y : Type 0} (test : Y → Bool) (f : X → Y) (xs : List X) → map f (filter (λ x. test (f x)) xs) ≡ filter test (map f xs)
filter-map test f [] = refl
filter-map {X} {Y} test f (x ∷ xs) =
    elim (test (f x)) as (λ (v : Bool). map f (cond v (x ∷ filter (λ y. test (f y)) xs) (filter (λ y. test (f y)) xs)) ≡ cond v (f x ∷ filter test (map f xs)) (filter test (map f xs))) [
      | true ↦ ap (λ (ys : List Y). f x ∷ ys) (filter-map test f xs)
      | false ↦ filter-map test f xs
    ]

pub corners_of_entries : (tiles : List TileLocation) → corners_of_locations tiles ≡ map (λ (e : EntryValue). e.corner) (map entry_of tiles)
corners_of_entries [] = refl
corners_of_entries (t ∷ rest) = ap (λ (cs : List Corner). t.corner ∷ cs) (corners_of_entries rest)

pub clean_is_committed : (page_map : PageMapValue) → page_map.staged ≡ page_map.committed → (c : Corner) → ¬ HasFreshHeights c page_map
clean_is_committed page_map clean c (t, (staged, corner, fresh)) =
    let among : Contains page_map.committed t = subst (λ (tiles : List TileLocation). Contains tiles t) clean staged in
    let all : All (Contains (reached page_map.committed)) (pages_of_tile t) = All-contains (λ u. All (Contains (reached page_map.committed)) (pages_of_tile u)) page_map.committed t (each_tile (Contains (reached page_map.committed)) page_map.committed (All-contains_itself (reached page_map.committed))) among in
    fresh.unreached (All-head (Contains (reached page_map.committed)) t.heights.record_page (pages_behind t.heights ++ pages_of_kept t.kept) all)

pub staged_without : (format : Format) (committed tiles : List TileLocation) (c : Corner) (image : Image) → AreStaged format committed tiles image → AreStaged format committed (without_location c tiles) image
staged_without format committed tiles c image had = All-filter (λ t. not (is_at c t)) (IsTileListed format committed image) tiles had
