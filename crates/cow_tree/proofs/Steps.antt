-- The steps of staging and of a commit, for page maps and images.
use Rattle.std.proofs.Common.{rules}
use Rattle.cow_tree.proofs.Prelude.{All, All-weaker, AreStaged, Bool, Contains, Corner, Device, Err, Format, IfErr, Image, IsErrOf, List, NoMemory, Ok, OnErr, OnOk, Refusal, Result, RootValue, SamePagesBut, Stands, Stored, StoresAt, TileLocation, ℕ, any_none, ap, arith, false, length, list_any, map, moved_plane, pages_of, reached, refl, subst, sym, tile_in, times, true, with_page, ◌/◌, ◌<◌, ◌==◌, ◌∙◌, ◌≡◌, ◌≤◌}
use Rattle.page_map.specs.PageMaps.{PageMapValue, IsPageMap, IsRewritten, IsLocated, IsWholeTile, corners_of_locations, with_page_location}
use Rattle.cow_tree.proofs.Listed.CornerChanges.{corners_still}
use Rattle.cow_tree.proofs.Writes.Staging.{IsWrittenAt, written_tiles, staged_pages, still_staged}
use Rattle.cow_tree.proofs.Tiles.{located_is}

-- A call after which its owner hasn't failed answered Ok.
pub ok_where_works : {T E : Type 0} {P : Type 0} (r : Result T E) (failed : Bool) → OnErr r (failed ≡ true) → failed ≡ false → OnOk r P → P
ok_where_works (Ok t) failed err works ok = ok
ok_where_works (Err e) failed err works ok = absurd (let no : true ≡ false = sym err ∙ works in cc)

-- A written page leaves the corners of the tiles.
pub corners_same : (c : Corner) (i p x r : ℕ) (tiles : List TileLocation) → corners_of_locations (with_page_location c i p x r tiles) ≡ corners_of_locations tiles
corners_same c i p x r = corners_still c (λ t. record t { heights = moved_plane i p x r t.heights }) (λ t. refl)

-- the case of one staged page
module _ (old new : PageMapValue) (c : Corner) (i p : ℕ) (page : List ℕ) (a b : Image) (rules : IsPageMap old) (after : IsPageMap new) (rw : IsRewritten c i p old new) where
  committed_same : new.committed ≡ old.committed
  committed_same = ap (λ (x : PageMapValue). x.committed) rw.changed

  staged_is : new.staged ≡ with_page_location c i p rw.index_page rw.record_page old.staged
  staged_is = ap (λ (x : PageMapValue). x.staged) rw.changed

  pub page_unreached : ¬ Contains (reached old.committed) p
  page_unreached = subst (λ (tiles : List TileLocation). ¬ Contains (reached tiles) p) committed_same rw.fresh_page.unreached

  each_written : IsLocated c old.staged → i < pages_of old.format.side → SamePagesBut p a b → b p ≡ page → All (IsWrittenAt c i p rw.index_page page a b) old.staged
  each_written located lt same written =
      written_tiles c i p rw.index_page rw.record_page page a b same written old.staged
      (All-weaker (IsWholeTile old.format) (λ t. i < length t.heights.pages) (λ t whole. omega (arith, whole.heights.pages, lt)) old.staged rules.staged.whole)
      (located_is c old.staged located)
      (subst (λ (tiles : List TileLocation). All (λ q. 4 ≤ q) (reached tiles)) staged_is after.staged.page_rule.low)
      (subst (λ (tiles : List TileLocation). times p (reached tiles) ≤ 1) staged_is (after.staged.page_rule.once p))

  pub stage_pages : IsLocated c old.staged → i < pages_of old.format.side → SamePagesBut p a b → b p ≡ page → map (tile_in b) new.staged ≡ with_page c i page (map (tile_in a) old.staged)
  stage_pages located lt same written =
      ap (map (tile_in b)) staged_is ∙ staged_pages c i p rw.index_page rw.record_page page a b old.staged (each_written located lt same written)

  fresh_index : All (λ t. i / 1024 < length t.heights.index_pages → list_any (λ q. q == rw.index_page) (reached old.committed) ≡ false) old.staged
  fresh_index =
      All-weaker (IsWholeTile old.format) (λ t. i / 1024 < length t.heights.index_pages → list_any (λ q. q == rw.index_page) (reached old.committed) ≡ false)
      (λ t whole below. any_none (reached old.committed) rw.index_page
      (subst (λ (tiles : List TileLocation). ¬ Contains (reached tiles) rw.index_page) committed_same (rw.fresh_index (omega (arith, below, whole.heights.index_pages))).unreached))
      old.staged rules.staged.whole

  pub stage_stays : (format : Format) → IsLocated c old.staged → i < pages_of old.format.side → SamePagesBut p a b → b p ≡ page → AreStaged format old.committed old.staged a → AreStaged format new.committed new.staged b
  stage_stays format located lt same written had =
      subst (λ (tiles : List TileLocation). AreStaged format tiles new.staged b) (sym committed_same)
      (subst (λ (tiles : List TileLocation). AreStaged format old.committed tiles b) (sym staged_is)
      (still_staged format old.committed c i p rw.index_page rw.record_page page a b
      (any_none (reached old.committed) rw.record_page (subst (λ (tiles : List TileLocation). ¬ Contains (reached tiles) rw.record_page) committed_same rw.fresh_record.unreached))
      old.staged fresh_index (each_written located lt same written) had))

-- If an image stores the tiles under a root, `Stands` is true for it.
pub stands : (sectors : ℕ) (root : RootValue) (tiles : List TileLocation) (s : Stored) (image : Image) → StoresAt sectors root tiles s image → Stands sectors image s
stands sectors root tiles s image stores = (root, tiles, stores)

pub on_ok : {T E : Type 0} {P Q : Type 0} (r : Result T E) → (P → Q) → OnOk r P → OnOk r Q
on_ok (Ok t) f p = f p
on_ok (Err e) f p = tt

pub on_ok_both : {T E : Type 0} {P Q R : Type 0} (r : Result T E) → (P → Q → R) → OnOk r P → OnOk r Q → OnOk r R
on_ok_both (Ok t) f p q = f p q
on_ok_both (Err e) f p q = tt

-- `StoresAt` under equal sizes, roots and tiles
pub stores_along : (n m : ℕ) (root root' : RootValue) (tiles tiles' : List TileLocation) (s : Stored) (image : Image) → m ≡ n → root' ≡ root → tiles' ≡ tiles → StoresAt n root tiles s image → StoresAt m root' tiles' s image
stores_along n m root root' tiles tiles' s image e f h stores = search rules

-- A fact that doesn't depend on the answer also holds if the answer is Ok.
pub ok_where : {T E : Type 0} {P : Type 0} (r : Result T E) → P → OnOk r P
ok_where (Ok t) p = p
ok_where (Err e) p = tt

pub failed_where : {T : Type 0} {P : Type 0} (r : Result T Refusal) (why : Refusal) → OnErr r P → IsErrOf r why → P
failed_where (Ok t) why failed is = cc
failed_where (Err e) why failed is = failed

-- a fact that follows from either answer
pub either_way : {T E : Type 0} {A B P : Type 0} (r : Result T E) → OnOk r A → OnErr r B → (A → P) → (B → P) → P
either_way (Ok t) ok err f h = f ok
either_way (Err e) ok err f h = h err

pub only_device : {T : Type 0} (r : Result T Refusal) → IfErr r (λ why. why ≡ Device) → ¬ IsErrOf r NoMemory
only_device (Ok t) device is = cc
only_device (Err e) device is = let same : e ≡ NoMemory = cc in let no : Device ≡ NoMemory = sym device ∙ same in cc
