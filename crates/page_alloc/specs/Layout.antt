-- How the free pages are stored: page p is free if bit p is set.
use Rattle.std.specs.Prelude.{◌≡◌, ℕ, zero, suc, ◌+◌, ◌/◌, ◌^◌, ◌<◌, List, length, if◌then◌else◌, IsTrue}
use Rattle.std.specs.Ordering.{nat_cmp}
use Rattle.std.specs.FinSet.{FinSet, empty, insert, len}
use Rattle.page_alloc.specs.Bits.{has_bit}
use Rattle.page_alloc.specs.Pages.{IsPage}

-- the numbers below a limit whose bits are set
unfoldable pub pages_below : ℕ → List ℕ → FinSet nat_cmp
pages_below zero words = empty
pages_below (suc limit) words =
    if has_bit words limit then insert (pages_below limit words) limit else pages_below limit words

-- Sectors have 32-bit numbers, with a word for each 64. Only pages have their bits set, and the count is that of the
-- free pages.
pub record IsSound (total : ℕ) (words : List ℕ) (free_count : ℕ) : Type 0 where
  pub fits : total < 2 ^ 32
  pub covers : length words ≡ (total + 63) / 64
  pub only_pages : (page : ℕ) → IsTrue (has_bit words page) → IsPage total page
  pub counted : free_count ≡ len (pages_below total words)
