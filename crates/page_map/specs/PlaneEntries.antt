-- A plane as committed and as staged, and the pages that only one of the two has.
use Rattle.std.specs.Prelude.{◌≡◌, ℕ, ◌≤◌, ◌<◌, ◌+◌, ◌/◌, Bool, true, false, List, [], ◌∷◌, ◌++◌, length, Option, Some, None, IfSome, option_and_then, slice_get}
use Rattle.page_map.specs.declared.plane_entry.Ending.{Ending}
use Rattle.page_map.specs.declared.plane_entry.Ending.TheVariants.{Committed, RolledBack}
use Rattle.page_map.specs.declared.plane_entry.PlaneEntry.{PlaneEntry}
use Rattle.page_map.specs.declared.plane_entry.Staged.{Staged}
use Rattle.page_map.specs.declared.plane_entry.Staged.TheVariants.{AsCommitted, Dropped, Fresh}
use Rattle.page_map.specs.FreePages.{differing}
use Rattle.page_map.specs.Locations.{PlaneLocation, listing_of, moved_plane, pages_behind, pages_of_plane, times}

-- the plane with nothing staged
abbrev pub settled_plane : Option PlaneLocation → PlaneEntry
settled_plane location = record { committed = location; staged = AsCommitted }

-- the plane's location after a commit
abbrev pub staged_as : Option PlaneLocation → Staged → Option PlaneLocation
staged_as committed AsCommitted = committed
staged_as committed Dropped = None
staged_as committed (Fresh location) = Some location

abbrev pub staged_plane : PlaneEntry → Option PlaneLocation
staged_plane e = staged_as e.committed e.staged

-- the committed plane after a commit or a rollback
abbrev pub ended_plane : Ending → PlaneEntry → Option PlaneLocation
ended_plane Committed e = staged_plane e
ended_plane RolledBack e = e.committed

-- all pages of a plane, and those other than its record
abbrev pub pages_at : Option PlaneLocation → List ℕ
pages_at None = []
pages_at (Some location) = pages_of_plane location

abbrev pub behind_at : Option PlaneLocation → List ℕ
behind_at None = []
behind_at (Some location) = pages_behind location

-- the record of a plane, and its other pages that the given list or plane doesn't have at the same index
abbrev pub replaced_by : List ℕ → Option PlaneLocation → List ℕ
replaced_by others None = []
replaced_by others (Some location) = location.record_page ∷ differing (pages_behind location) others

abbrev pub replaced : Option PlaneLocation → Option PlaneLocation → List ℕ
replaced location other = replaced_by (behind_at other) location

-- the pages that only the staged plane has
abbrev pub fresh_as : Option PlaneLocation → Staged → List ℕ
fresh_as committed AsCommitted = []
fresh_as committed Dropped = []
fresh_as committed (Fresh location) = replaced (Some location) committed

abbrev pub fresh_in : PlaneEntry → List ℕ
fresh_in e = fresh_as e.committed e.staged

-- the plane's committed pages and its fresh ones
abbrev pub used_in : PlaneEntry → List ℕ
used_in e = pages_at e.committed ++ fresh_in e

abbrev pub is_fresh_as : Staged → Bool
is_fresh_as AsCommitted = false
is_fresh_as Dropped = false
is_fresh_as (Fresh location) = true

abbrev pub is_fresh : PlaneEntry → Bool
is_fresh e = is_fresh_as e.staged

-- a listing page of the plane, by its number
abbrev pub listed_at : ℕ → Option PlaneLocation → Option ℕ
listed_at i plane = option_and_then (λ (p : PlaneLocation). slice_get (listing_of p) i) plane

-- This many free pages suffice to move the whole plane.
abbrev pub HasRoom : PlaneEntry → ℕ → Type 0
HasRoom e left = IfSome (staged_plane e) (λ location. length (pages_of_plane location) ≤ length (fresh_in e) + left)

-- Page i of the plane is this fresh page, and its index page and the record are on fresh pages, too. The rest of the
-- plane is unchanged.
pub record IsPageRestaged (i page : ℕ) (old new : PlaneEntry) : Type 0 where
  pub location : PlaneLocation
  pub record_page : ℕ
  pub index_page : ℕ
  pub had : staged_plane old ≡ Some location
  pub has : staged_plane new ≡ Some (moved_plane i page index_page record_page location)
  pub fresh_record : 1 ≤ times record_page (fresh_in new)
  pub fresh_index : i / 1024 < length location.index_pages → 1 ≤ times index_page (fresh_in new)
  pub fresh_page : 1 ≤ times page (fresh_in new)

-- The plane is staged, with its record on a fresh page.
pub record IsRecordRestaged (old new : PlaneEntry) : Type 0 where
  pub location : PlaneLocation
  pub record_page : ℕ
  pub had : staged_plane old ≡ Some location
  pub has : new.staged ≡ Fresh (record location { record_page = record_page })
