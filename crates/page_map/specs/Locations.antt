-- The location of a plane on a disk (defined by this product).
use Rattle.std.specs.Prelude.{◌≡◌, ℕ, ◌+◌, ◌/◌, ◌==◌, List, [], ◌∷◌, ◌++◌, length, if◌then◌else◌, slice_set}
use Rattle.page_codec.specs.Formats.{Format}
use Rattle.page_codec.specs.Sizes.{pages_of, index_pages_of}

-- the page of a plane's record, its index pages (none in the first version), and the plane's pages in order
pub record PlaneLocation : Type 0 where
  pub record_page : ℕ
  pub index_pages : List ℕ
  pub pages : List ℕ

-- the index pages and the plane's pages
abbrev pub pages_behind : PlaneLocation → List ℕ
pages_behind p = p.index_pages ++ p.pages

-- the listing pages: the record, then the index pages
abbrev pub listing_of : PlaneLocation → List ℕ
listing_of p = p.record_page ∷ p.index_pages

-- all pages of the plane
abbrev pub pages_of_plane : PlaneLocation → List ℕ
pages_of_plane p = p.record_page ∷ pages_behind p

-- The plane has as many pages as its format needs.
pub record IsWholePlane (format : Format) (p : PlaneLocation) : Type 0 where
  pub index_pages : length p.index_pages ≡ index_pages_of format
  pub pages : length p.pages ≡ pages_of format.side

-- The plane with page i, its index page and the record at these pages. Without such an index page nothing changes
-- there.
abbrev pub moved_plane : (i page index_page record_page : ℕ) → PlaneLocation → PlaneLocation
moved_plane i page index_page record_page p =
    record { record_page = record_page; index_pages = slice_set p.index_pages (i / 1024) index_page; pages = slice_set p.pages i page }

-- One of the index pages or the plane's pages has moved.
pub record IsMovedBehind (at page : ℕ) (old new : PlaneLocation) : Type 0 where
  pub same_record : new.record_page ≡ old.record_page
  pub same_count : length new.index_pages ≡ length old.index_pages
  pub moved : pages_behind new ≡ slice_set (pages_behind old) at page

-- how often the list has the number
abbrev pub times : ℕ → List ℕ → ℕ
times p [] = 0
times p (q ∷ rest) = (if p == q then 1 else 0) + times p rest
