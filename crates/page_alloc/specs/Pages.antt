-- The pages of a store's disk and which of them are free (defined by this product). The first sectors of the disk are
-- the two roots and their gates; each later sector is a page.
use Rattle.std.specs.Prelude.{ℕ, ◌<◌, ◌≤◌, IsTrue, refl}
use Rattle.std.specs.Ordering.{nat_cmp}
use Rattle.std.specs.FinSet.{FinSet, code, contains, insert, remove}
use Rattle.std.specs.Coded.{Coded, code_by, coded×, coded_ℕ}
use Rattle.page_alloc.specs.declared.allocator.TheConstants.{FIRST_PAGE}

-- the number of the disk's sectors, and its free pages
pub record PageSet : Type 0 where
  pub total : ℕ
  pub free : FinSet nat_cmp

-- a page set is stored as the pair of its fields
abbrev pub page_set_code : Coded PageSet
page_set_code =
    code_by (ℕ × FinSet nat_cmp) (coded× coded_ℕ (code coded_ℕ)) (λ s. (s.total, s.free)) (λ p. record { total = p.0; free = p.1 }) (λ _. refl)

-- The number is that of a page on a disk with this many sectors.
abbrev pub IsPage : ℕ → ℕ → Type 0
IsPage total page = (FIRST_PAGE ≤ page) × (page < total)

-- the page is free
abbrev pub IsFree : PageSet → ℕ → Type 0
IsFree pages page = IsTrue (contains pages.free page)

-- the same disk with this page free, too
abbrev pub with_page : PageSet → ℕ → PageSet
with_page pages page = record pages { free = insert pages.free page }

-- the same disk with this page in use
abbrev pub without_page : PageSet → ℕ → PageSet
without_page pages page = record pages { free = remove pages.free page }
