-- The pages of a cache, and when the cache agrees with an image.
use Rattle.std.specs.Prelude.{◌≡◌, ℕ, ◌≤◌, List, Contains}
use Rattle.std.specs.Global.{Vec}
use Rattle.disk.specs.Disk.{Image}
use Rattle.cow_tree.specs.declared.cache.PageCache.{PageCache}

-- page numbers with their bytes
abbrev pub entries_of : PageCache → List (ℕ × Vec ℕ)
entries_of cache = cache.pages.entries

-- The page with this number is cached, with these bytes.
pub record IsHeld (cache : PageCache) (page : ℕ) (bytes : List ℕ) : Type 0 where
  pub entry : Vec ℕ
  pub there : Contains (entries_of cache) (page, entry)
  pub same : entry.items ≡ bytes

-- Each cached page has the bytes that the image has.
abbrev pub Agrees : PageCache → Image → Type 0
Agrees cache image = (page : ℕ) (bytes : List ℕ) → IsHeld cache page bytes → (4 ≤ page) × (image page ≡ bytes)
