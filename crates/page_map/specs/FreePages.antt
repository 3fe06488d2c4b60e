-- Taking and freeing pages.
use Rattle.std.specs.Prelude.{◌≡◌, ◌⊎◌, ℕ, ◌+◌, ◌/◌, ◌≤◌, ◌<◌, ◌&&◌, ◌==◌, not, Bool, nat_le, nat_lt, List, [], ◌∷◌, ◌++◌, length, if◌then◌else◌, refl}
use Rattle.std.specs.Ordering.{nat_cmp}
use Rattle.std.specs.FinSet.{FinSet, code, contains}
use Rattle.std.specs.Coded.{Coded, code_by, coded×, coded_list, coded_ℕ}
use Rattle.std.specs.BTreeSet as tree
use Rattle.std.specs.BTreeSet.{BTreeSet}
use Rattle.lattice.specs.declared.refusal.Refusal.{Refusal}
use Rattle.lattice.specs.declared.refusal.Refusal.TheVariants.{Damaged, NoMemory}
use Rattle.page_map.specs.declared.locations.TilePlanes.{TilePlanes}
use Rattle.page_map.specs.Locations.{PlaneLocation, pages_behind, pages_of_plane, moved_plane, times}
use Rattle.page_map.specs.TileLocations.{pages_of_kept}

-- the number of the disk's sectors, and the end of the window in which pages are taken
pub record PageRange : Type 0 where
  pub sectors : ℕ
  pub window : ℕ

-- the free pages of the window, and the pages in use after it
pub record FreePages : Type 0 where
  pub range : PageRange
  pub free : FinSet nat_cmp
  pub far : BTreeSet ℕ

-- the record's code: its fields as nested pairs
abbrev pub free_pages_code : Coded FreePages
free_pages_code =
    code_by (ℕ × (ℕ × (FinSet nat_cmp × List ℕ))) (coded× coded_ℕ (coded× coded_ℕ (coded× (code coded_ℕ) (coded_list coded_ℕ)))) (λ f. (f.range.sectors, (f.range.window, (f.free, f.far.keys))))
    (λ p. record { range = record { sectors = p.0; window = p.1.0 }; free = p.1.1.0; far = record { keys = p.1.1.1 } }) (λ _. refl)

abbrev pub is_free : FreePages → ℕ → Bool
is_free pages p = if nat_lt p pages.range.window then contains pages.free p else nat_lt p pages.range.sectors && not (tree.contains nat_cmp pages.far p)

-- 1 if the page is free, else 0
abbrev pub free_times : FreePages → ℕ → ℕ
free_times pages p = if is_free pages p then 1 else 0

-- 1 if the number is that of a page, else 0
abbrev pub page_times : PageRange → ℕ → ℕ
page_times range p = if nat_le 4 p && nat_lt p range.sectors then 1 else 0

-- The new pages replace the old ones: the free pages have changed by exactly the difference.
pub record AreBalanced (old_pages new_pages : List ℕ) (old new : FreePages) : Type 0 where
  pub same_range : new.range ≡ old.range
  pub each : (p : ℕ) → times p new_pages + free_times new p ≡ times p old_pages + free_times old p

-- The listed pages were free, each once, and aren't free any more.
abbrev pub AreTaken : List ℕ → FreePages → FreePages → Type 0
AreTaken listed old new = AreBalanced [] listed old new

-- The listed pages have become free.
abbrev pub AreGiven : List ℕ → FreePages → FreePages → Type 0
AreGiven listed old new = AreBalanced listed [] old new

-- The listed pages weren't all free, weren't all distinct, or there is no memory to mark them.
abbrev pub IsUnmarked : FreePages → List ℕ → Refusal → Type 0
IsUnmarked pages listed refusal = (refusal ≡ NoMemory) ⊎ ((refusal ≡ Damaged) × ((p : ℕ) × (free_times pages p < times p listed)))

-- The listed pages are in use, each once.
abbrev pub AreInUse : List ℕ → FreePages → Type 0
AreInUse listed pages = (p : ℕ) → times p listed + free_times pages p ≤ page_times pages.range p

-- the pages of the first list that the second doesn't have at the same index
abbrev pub differing : List ℕ → List ℕ → List ℕ
differing [] others = []
differing (p ∷ rest) [] = p ∷ rest
differing (p ∷ rest) (q ∷ others) = if p == q then differing rest others else p ∷ differing rest others

-- all pages of a tile's planes
abbrev pub pages_of_planes : TilePlanes → List ℕ
pages_of_planes planes = pages_of_plane planes.heights ++ pages_of_kept planes.kept

-- A page of a plane is now this page, which the committed plane doesn't have; the free pages have changed accordingly.
pub record IsOwned (committed : List ℕ) (page : ℕ) (old new : List ℕ) (was now : FreePages) : Type 0 where
  pub fresh : 1 ≤ times page (differing new committed)
  pub fewer : (p : ℕ) → free_times now p ≤ free_times was p
  pub balanced : AreBalanced (differing old committed) (differing new committed) was now

-- Page i of a plane is now this page. Neither it nor the index page that lists it belongs to the committed plane; the
-- free pages have changed accordingly.
pub record IsOwnedPage (committed : List ℕ) (i page : ℕ) (old new : PlaneLocation) (was now : FreePages) : Type 0 where
  pub index_page : ℕ
  pub moved : new ≡ moved_plane i page index_page old.record_page old
  pub fresh_page : 1 ≤ times page (differing (pages_behind new) committed)
  pub fresh_index : i / 1024 < length old.index_pages → 1 ≤ times index_page (differing (pages_behind new) committed)
  pub balanced : AreBalanced (differing (pages_behind old) committed) (differing (pages_behind new) committed) was now
