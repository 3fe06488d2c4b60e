-- Pages of heights, staged one by one for an edit.
use Rattle.std.proofs.Common.{◌≡◌, ◌⊎◌, inl, inr, ⊎_elim, ℕ, zero, suc, ◌+◌, ◌*◌, ◌/◌, ◌%◌, ◌<◌, ◌≤◌, ℤ, pos, Bool, true, false, cond, List, [], ◌∷◌, length, get_or, set, map, All, Contains, nat_eq, refl, sym, ap, ap₂, ◌∙◌, subst, arith, Option, Some, IsTrue, slice_get, slice_set}
use Rattle.stored_mosaic.proofs.Prelude.{All-cons, All-contains, All-head, All-nil, All-set, All-tail, AllAfter, AllZip, Corner, HasPage, Heights, IsMosaic, IsTile, Mosaic, Point, Rising, Tile, corner_of, eqb-false, eqb-true, get_or_from_slice_get, is_before, keeper, keepers, pages_of, point_of, rising_tiles, same_corner, same_from, same_says, slice_get_within}
use Rattle.std.proofs.lemmas.List.{same_lists, length-set, get_or-set_same, get_or-set_other, get_or_default}
use Rattle.edits.specs.Effect.{changed_from, edited}
use Rattle.edits.proofs.Placing.{get-changed_from, length-changed_from}
use Rattle.cow_tree.specs.Stored.{AreWhole, IsPage, PlanePages, KeptPlanes, StoredTile, samples_of_plane, mosaic_of_tiles, with_page_in, with_page}
use Rattle.stored_mosaic.specs.Underway.{page_sample, IsEdited, stored_sample, IsPartly, IsUnderway, IsSettled, IsPageOf, LeavesPage, Advances, Settles}
use Rattle.stored_mosaic.proofs.Reading.Finding.{stored_corner}
use Rattle.stored_mosaic.proofs.Reading.HeldTiles.{IsFilled, AreTilesOf, as_tile}
use Rattle.stored_mosaic.proofs.Pages.{length_samples, sample_in_page}
use Rattle.stored_mosaic.proofs.Reading.QueryingPages.{one_tile}

-- ---- samples of a plane by its pages

split_index : (e : ℕ) → e ≡ 2048 * (e / 2048) + e % 2048
split_index e = omega arith

within_page : (e : ℕ) → e % 2048 < 2048
within_page e = omega arith

page_there : (n e count : ℕ) → e < n * n → 2 * (n * n) ≤ 4096 * count → e / 2048 < count
page_there n e count inside enough = omega (arith, inside, enough, split_index e)

pub sample_by_page : (n : ℕ) (pages : PlanePages) (e : ℕ) → All IsPage pages → 2 * (n * n) ≤ 4096 * length pages → e < n * n
    → get_or (samples_of_plane n pages) e (pos 0) ≡ page_sample (get_or pages (e / 2048) []) (e % 2048)
sample_by_page n pages e all enough inside =
    sample_in_page pages (e / 2048) (e % 2048) e all (page_there n e (length pages) inside enough) (split_index e) (within_page e) n (pos 0) inside enough

-- ---- one tile with a staged page

module _ (n : ℕ) (edit : Point → ℤ → ℤ) (once : (p : Point) (s : ℤ) → edit p (edit p s) ≡ edit p s) (c : Corner) (i : ℕ) (was now : List ℕ) (edits : IsEdited n edit c i was now) where
  module _ (t : StoredTile) (filled : IsFilled n t) (corner : t.corner ≡ c) (read : slice_get t.heights i ≡ Some was) where
    abbrev staged : StoredTile
    staged = record t { heights = set t.heights i now }

    within : i < length t.heights
    within = slice_get_within t.heights i was read

    reads : get_or t.heights i [] ≡ was
    reads = get_or_from_slice_get t.heights i was [] read

    pages_now : All IsPage (set t.heights i now)
    pages_now = All-set IsPage t.heights i now (edits.page (subst IsPage reads (filled.pages i [] within))) filled.pages

    enough_now : 2 * (n * n) ≤ 4096 * length (set t.heights i now)
    enough_now = subst (λ (k : ℕ). 2 * (n * n) ≤ 4096 * k) (sym (length-set t.heights i now)) filled.enough

    -- a sample on another page
    other_page : (e : ℕ) → e < n * n → (e / 2048 ≡ i → ⊥) → stored_sample n staged e ≡ stored_sample n t e
    other_page e inside apart =
        sample_by_page n (set t.heights i now) e pages_now enough_now inside
        ∙ ap (λ (p : List ℕ). page_sample p (e % 2048)) (get_or-set_other t.heights i (e / 2048) now [] apart)
        ∙ sym (sample_by_page n t.heights e filled.pages filled.enough inside)

    -- a sample on this page
    this_page : (e : ℕ) → e < n * n → e / 2048 ≡ i → stored_sample n staged e ≡ edit (point_of n c e) (stored_sample n t e)
    this_page e inside here =
        let at : 2048 * i + e % 2048 ≡ e = omega (arith, here, split_index e) in
        sample_by_page n (set t.heights i now) e pages_now enough_now inside
        ∙ ap (λ (k : ℕ). page_sample (get_or (set t.heights i now) k []) (e % 2048)) here
        ∙ ap (λ (p : List ℕ). page_sample p (e % 2048)) (get_or-set_same t.heights i now [] within)
        ∙ edits.samples (e % 2048) (within_page e) (subst (λ (k : ℕ). k < n * n) (sym at) inside)
        ∙ ap₂ (λ (k : ℕ) (s : ℤ). edit (point_of n c k) s) at
        (ap (λ (p : List ℕ). page_sample p (e % 2048)) (sym reads) ∙ ap (λ (k : ℕ). page_sample (get_or t.heights k []) (e % 2048)) (sym here)
        ∙ sym (sample_by_page n t.heights e filled.pages filled.enough inside))

    staged_partly : (u : Tile) → IsPartly n edit u t → IsPartly n edit u staged
    staged_partly u is = record { corner = is.corner; pages = pages_now; enough = enough_now; samples = λ e inside. by e inside (nat_eq (e / 2048) i) refl (is.samples e inside) }
      where
        own : ℕ → ℤ
        own e = get_or u.samples e (pos 0)

        Either : ℕ → ℤ → Type 0
        Either e s = (s ≡ own e) ⊎ (s ≡ edit (point_of n u.corner e) (own e))

        at_corner : (e : ℕ) (s : ℤ) → edit (point_of n c e) s ≡ edit (point_of n u.corner e) s
        at_corner e s = ap (λ (d : Corner). edit (point_of n d e) s) (sym corner ∙ is.corner)

        edited_now : (e : ℕ) (s : ℤ) → Either e s → edit (point_of n c e) s ≡ edit (point_of n u.corner e) (own e)
        edited_now e s (inl same) = at_corner e s ∙ ap (edit (point_of n u.corner e)) same
        edited_now e s (inr made) = at_corner e s ∙ ap (edit (point_of n u.corner e)) made ∙ once (point_of n u.corner e) (own e)

        by : (e : ℕ) → e < n * n → (b : Bool) → nat_eq (e / 2048) i ≡ b → Either e (stored_sample n t e) → Either e (stored_sample n staged e)
        by e inside true is_here either = inr (this_page e inside (eqb-true (e / 2048) i is_here) ∙ edited_now e (stored_sample n t e) either)
        by e inside false apart either = subst (Either e) (sym (other_page e inside (eqb-false (e / 2048) i apart))) either

    -- Afterwards this page is edited; another page is if it was before.
    settled_now : (e : ℕ) → e < n * n → (e / 2048 ≡ i) ⊎ (edit (point_of n c e) (stored_sample n t e) ≡ stored_sample n t e) → edit (point_of n c e) (stored_sample n staged e) ≡ stored_sample n staged e
    settled_now e inside so = by (nat_eq (e / 2048) i) refl so
      where
        by : (b : Bool) → nat_eq (e / 2048) i ≡ b → (e / 2048 ≡ i) ⊎ (edit (point_of n c e) (stored_sample n t e) ≡ stored_sample n t e) → edit (point_of n c e) (stored_sample n staged e) ≡ stored_sample n staged e
        by true is _ =
            let here = eqb-true (e / 2048) i is in
            ap (edit (point_of n c e)) (this_page e inside here) ∙ once (point_of n c e) (stored_sample n t e) ∙ sym (this_page e inside here)
        by false apart (inl here) = absurd (eqb-false (e / 2048) i apart here)
        by false apart (inr was) = let same = other_page e inside (eqb-false (e / 2048) i apart) in ap (edit (point_of n c e)) same ∙ was ∙ sym same

  -- ---- all tiles

  abbrev Reads : List StoredTile → Type 0
  Reads tiles = (t : StoredTile) → Contains tiles t → t.corner ≡ c → slice_get t.heights i ≡ Some was

  reads_later : (t : StoredTile) (tiles : List StoredTile) → Reads (t ∷ tiles) → Reads tiles
  reads_later t tiles reads u (k, below, here) = reads u (suc k, omega (arith, below), here)

  one_partly : (u : Tile) (t : StoredTile) → IsPartly n edit u t → (t.corner ≡ c → slice_get t.heights i ≡ Some was) → IsPartly n edit u (with_page_in c i now t)
  one_partly u t is reads = by (same_corner t.corner c) refl
    where
      by : (b : Bool) → same_corner t.corner c ≡ b → IsPartly n edit u (cond b (record t { heights = slice_set t.heights i now }) t)
      by true same = let corner = same_says t.corner c same in staged_partly t (record { pages = is.pages; enough = is.enough }) corner (reads corner) u is
      by false other = is

  all_partly : (us : List Tile) (tiles : List StoredTile) → Reads tiles → AllZip (IsPartly n edit) us tiles → AllZip (IsPartly n edit) us (with_page c i now tiles)
  all_partly [] [] reads are = tt
  all_partly [] (t ∷ tiles) reads are = absurd are
  all_partly (u ∷ us) [] reads are = absurd are
  all_partly (u ∷ us) (t ∷ tiles) reads are =
      (one_partly u t are.0 (reads t (0, omega arith, refl)), all_partly us tiles (reads_later t tiles reads) are.1)

  found_staged : (tiles : List StoredTile) (t : StoredTile) → Contains (with_page c i now tiles) t → (u : StoredTile) × (Contains tiles u × (with_page_in c i now u ≡ t))
  found_staged [] t (k, below, here) = absurd (omega (arith, below))
  found_staged (u ∷ rest) t (zero, below, here) = (u, ((0, omega arith, refl), here))
  found_staged (u ∷ rest) t (suc k, below, here) =
      let later = found_staged rest t (k, omega (arith, below), here) in
      (later.0, ((suc later.1.0.0, omega (arith, later.1.0.1), later.1.0.2), later.1.1))

  module _ (tiles : List StoredTile) (filled : All (IsFilled n) tiles) (reads : Reads tiles) where
    one_settled : (d : Corner) (k : ℕ) → ((d ≡ c) × (k ≡ i)) ⊎ IsSettled n edit tiles d k → IsSettled n edit (with_page c i now tiles) d k
    one_settled d k settled t there corner e inside here =
        let u = found_staged tiles t there in
        by u.0 u.1.0 (same_corner u.0.corner c) refl u.1.1 settled
      where
        by : (u : StoredTile) → Contains tiles u → (b : Bool) → same_corner u.corner c ≡ b → cond b (record u { heights = slice_set u.heights i now }) u ≡ t
            → ((d ≡ c) × (k ≡ i)) ⊎ IsSettled n edit tiles d k → edit (point_of n d e) (stored_sample n t e) ≡ stored_sample n t e
        by u among true same is so =
            let at = same_says u.corner c same in
            let is_d : u.corner ≡ d = ap stored_corner is ∙ corner in
            subst (λ (x : StoredTile). edit (point_of n d e) (stored_sample n x e) ≡ stored_sample n x e) is
            (subst (λ (q : Corner). edit (point_of n q e) (stored_sample n (record u { heights = set u.heights i now }) e) ≡ stored_sample n (record u { heights = set u.heights i now }) e) (sym at ∙ is_d)
            (settled_now u (All-contains (IsFilled n) tiles u filled among) at (reads u among at) e inside
            (⊎_elim (λ page. inl (here ∙ page.1))
            (λ was. inr (subst (λ (q : Corner). edit (point_of n q e) (stored_sample n u e) ≡ stored_sample n u e) (sym is_d ∙ at) (was u among is_d e inside here))) so)))
        by u among false other is (inl page) =
            absurd (let same : same_corner u.corner c ≡ true = same_from u.corner c (ap stored_corner is ∙ corner ∙ page.0) in let e : true ≡ false = sym same ∙ other in cc)
        by u among false other is (inr was) =
            subst (λ (x : StoredTile). edit (point_of n d e) (stored_sample n x e) ≡ stored_sample n x e) is (was u among (ap stored_corner is ∙ corner) e inside here)

get_or_other : (l : List ℤ) (k : ℕ) (d e : ℤ) → k < length l → get_or l k d ≡ get_or l k e
get_or_other l k d e within = get_or_default l k d e within

-- ---- the state during an edit

partly_filled : (n : ℕ) (edit : Point → ℤ → ℤ) (us : List Tile) (tiles : List StoredTile) → AllZip (IsPartly n edit) us tiles → All (IsFilled n) tiles
partly_filled n edit [] [] are = All-nil (IsFilled n)
partly_filled n edit [] (t ∷ tiles) are = absurd are
partly_filled n edit (u ∷ us) [] are = absurd are
partly_filled n edit (u ∷ us) (t ∷ tiles) are = All-cons (IsFilled n) t tiles (record { pages = are.0.pages; enough = are.0.enough }) (partly_filled n edit us tiles are.1)

partly_after : (n : ℕ) (edit : Point → ℤ → ℤ) (c : Corner) (us : List Tile) (tiles : List StoredTile) → AllZip (IsPartly n edit) us tiles → AllAfter corner_of c us → AllAfter stored_corner c tiles
partly_after n edit c [] [] are after = tt
partly_after n edit c [] (t ∷ tiles) are after = absurd are
partly_after n edit c (u ∷ us) [] are after = absurd are
partly_after n edit c (u ∷ us) (t ∷ tiles) are after =
    (subst (λ (d : Corner). IsTrue (is_before c d)) (sym are.0.corner) after.0, partly_after n edit c us tiles are.1 after.1)

partly_rising : (n : ℕ) (edit : Point → ℤ → ℤ) (us : List Tile) (tiles : List StoredTile) → AllZip (IsPartly n edit) us tiles → Rising corner_of us → Rising stored_corner tiles
partly_rising n edit [] [] are rising = tt
partly_rising n edit [] (t ∷ tiles) are rising = absurd are
partly_rising n edit (u ∷ us) [] are rising = absurd are
partly_rising n edit (u ∷ us) (t ∷ tiles) are rising =
    (subst (λ (d : Corner). AllAfter stored_corner d tiles) (sym are.0.corner) (partly_after n edit u.corner us tiles are.1 rising.0), partly_rising n edit us tiles are.1 rising.1)

-- A stored tile is a partly edited tile of the mosaic.
pub tile_of : (n : ℕ) (edit : Point → ℤ → ℤ) (us : List Tile) (tiles : List StoredTile) (t : StoredTile) → AllZip (IsPartly n edit) us tiles → Contains tiles t → (u : Tile) × (Contains us u × IsPartly n edit u t)
tile_of n edit [] [] t are (k, below, here) = absurd (omega (arith, below))
tile_of n edit [] (x ∷ tiles) t are there = absurd are
tile_of n edit (u ∷ us) [] t are there = absurd are
tile_of n edit (u ∷ us) (x ∷ tiles) t are (zero, below, here) = (u, ((0, omega arith, refl), subst (IsPartly n edit u) here are.0))
tile_of n edit (u ∷ us) (x ∷ tiles) t are (suc k, below, here) =
    let later = tile_of n edit us tiles t are.1 (k, omega (arith, below), here) in
    (later.0, ((suc later.1.0.0, omega (arith, later.1.0.1), later.1.0.2), later.1.1))

-- A staged page of heights leaves the kept planes.
keepers_with_page : (c : Corner) (i : ℕ) (page : List ℕ) (tiles : List StoredTile) → keepers (with_page c i page tiles) ≡ keepers tiles
keepers_with_page c i page [] = refl
keepers_with_page c i page (t ∷ rest) = ap₂ (λ (x : Corner × Option KeptPlanes) (xs : List (Corner × Option KeptPlanes)). x ∷ xs) (by (same_corner t.corner c)) (keepers_with_page c i page rest)
  where
    by : (b : Bool) → keeper (cond b (record t { heights = slice_set t.heights i page }) t) ≡ keeper t
    by true = refl
    by false = refl

module _ (n : ℕ) (edit : Point → ℤ → ℤ) (m : Mosaic) (tiles : List StoredTile) (is : IsUnderway n edit m tiles) where
  -- A page that was read is the corner's tile's; the corner has only one tile.
  pub one_page : (c : Corner) (i : ℕ) (page : List ℕ) → HasPage tiles c Heights i page → (t : StoredTile) → Contains tiles t → t.corner ≡ c → slice_get t.heights i ≡ Some page
  one_page c i page (u, (there, (corner, read))) t among same =
      let only : u ≡ t = one_tile tiles t u (partly_rising n edit m.tiles tiles is.tiles (rising_tiles m is.valid)) among there (corner ∙ sym same) in
      subst (λ (x : StoredTile). slice_get x.heights i ≡ Some page) only read

  -- The samples of a page that was read are the mosaic's.
  pub page_of : (c : Corner) (i : ℕ) (page : List ℕ) → HasPage tiles c Heights i page → IsPageOf n edit m c i page
  page_of c i page (u, (there, (corner, read))) =
      let found = tile_of n edit m.tiles tiles u is.tiles there in
      let t : Tile = found.0 in
      let part : IsPartly n edit t u = found.1.1 in
      let own_corner : t.corner ≡ c = sym part.corner ∙ corner in
      let reads : get_or u.heights i [] ≡ page = get_or_from_slice_get u.heights i page [] read in
      record {
        tile = t;
        there = found.1.0;
        corner = own_corner;
        samples = λ j below inside.
            let e : ℕ = 2048 * i + j in
            let row : (2048 * i + j) / 2048 ≡ i = omega (arith, below) in
            let column : (2048 * i + j) % 2048 ≡ j = omega (arith, below) in
            let sample : stored_sample n u e ≡ page_sample page j =
            sample_by_page n u.heights e part.pages part.enough inside
            ∙ ap₂ (λ (k l : ℕ). page_sample (get_or u.heights k []) l) row column ∙ ap (λ (p : List ℕ). page_sample p j) reads in
            ⊎_elim (λ same. inl (sym sample ∙ same))
            (λ made. inr (sym sample ∙ made ∙ ap (λ (d : Corner). edit (point_of n d e) (get_or t.samples e (pos 0))) own_corner)) (part.samples e inside);
      }

  -- the case of nothing staged
  pub advances_none : Advances n edit m tiles tiles
  advances_none = record { underway = is; kept = refl; settled = λ c i so. so }

  -- A page is staged, with its samples edited.
  pub page_staged : (once : (p : Point) (s : ℤ) → edit p (edit p s) ≡ edit p s) (c : Corner) (i : ℕ) (was now : List ℕ) → HasPage tiles c Heights i was → IsEdited n edit c i was now
      → Settles n edit m (λ d k. (d ≡ c) × (k ≡ i)) tiles (with_page c i now tiles)
  page_staged once c i was now has edits =
      let filled = partly_filled n edit m.tiles tiles is.tiles in
      let reads = one_page c i was has in
      let settled = one_settled n edit once c i was now edits tiles filled reads in (
        record {
          underway = record { valid = is.valid; side = is.side; tiles = all_partly n edit once c i was now edits m.tiles tiles reads is.tiles };
          kept = keepers_with_page c i now tiles;
          settled = λ d k so. settled d k (inr so);
        },
        λ d k here. settled d k (inl here),
      )

  -- A page whose samples the edit doesn't change counts as edited.
  pub page_left : (c : Corner) (i : ℕ) (page : List ℕ) → HasPage tiles c Heights i page → IsEdited n edit c i page page → Settles n edit m (λ d k. (d ≡ c) × (k ≡ i)) tiles tiles
  page_left c i page has edits = (
    advances_none,
    λ d k here t there corner e inside at.
        let filled = All-contains (IsFilled n) tiles t (partly_filled n edit m.tiles tiles is.tiles) there in
        let own : t.corner ≡ c = corner ∙ here.0 in
        let at_i : e / 2048 ≡ i = at ∙ here.1 in
        let reads : get_or t.heights i [] ≡ page = get_or_from_slice_get t.heights i page [] (one_page c i page has t there own) in
        let index : 2048 * i + e % 2048 ≡ e = omega (arith, at_i, split_index e) in
        let sample : stored_sample n t e ≡ page_sample page (e % 2048) =
        sample_by_page n t.heights e filled.pages filled.enough inside ∙ ap (λ (k : ℕ). page_sample (get_or t.heights k []) (e % 2048)) at_i ∙ ap (λ (p : List ℕ). page_sample p (e % 2048)) reads in
        ap (edit (point_of n d e)) sample
        ∙ ap₂ (λ (q : Corner) (k : ℕ). edit (point_of n q k) (page_sample page (e % 2048))) here.0 (sym index)
        ∙ sym (edits.samples (e % 2048) (within_page e) (subst (λ (k : ℕ). k < n * n) (sym index) inside))
        ∙ sym sample,
  )

  -- A page counts as edited if the edit changes no sample of it in the mosaic's tile.
  pub page_passed : (c : Corner) (i : ℕ) → ((t : Tile) → Contains m.tiles t → t.corner ≡ c → LeavesPage n edit c i) → IsSettled n edit tiles c i
  page_passed c i leaves t there corner e inside at =
      let found = tile_of n edit m.tiles tiles t is.tiles there in
      leaves found.0 found.1.0 (sym found.1.1.corner ∙ corner) e inside at (stored_sample n t e)

  -- If every page is edited, the tiles are those of the edited mosaic.
  pub all_settled : ((t : StoredTile) → Contains tiles t → (i : ℕ) → IsSettled n edit tiles t.corner i) → AreTilesOf n tiles (edited edit m)
  all_settled settled = record { mosaic = by; filled = partly_filled n edit m.tiles tiles is.tiles }
    where
      made : Tile → Tile
      made u = record { corner = u.corner; samples = changed_from (λ e s. edit (point_of m.side u.corner e) s) 0 u.samples }

      one : (u : Tile) (t : StoredTile) → Contains tiles t → IsTile m.side u → IsPartly n edit u t → made u ≡ as_tile n t
      one u t there tile part =
          let whole : length u.samples ≡ n * n = tile.whole ∙ ap (λ (k : ℕ). k * k) is.side in
          let f : ℕ → ℤ → ℤ = λ e s. edit (point_of m.side u.corner e) s in
          let long : length (changed_from f 0 u.samples) ≡ n * n = length-changed_from f 0 u.samples ∙ whole in
          ap₂ (λ (d : Corner) (l : List ℤ). record { corner = d; samples = l }) (sym part.corner)
          (same_lists (changed_from f 0 u.samples) (samples_of_plane n t.heights) (long ∙ sym (length_samples n t.heights part.pages part.enough))
          (λ k d below.
          let inside : k < n * n = omega (arith, below, long) in
          let short : k < length u.samples = omega (arith, inside, whole) in
          let own : ℤ = get_or u.samples k (pos 0) in
          let at : f k own ≡ edit (point_of n t.corner k) own = ap₂ (λ (s : ℕ) (q : Corner). edit (point_of s q k) own) is.side (sym part.corner) in
          let first : f (0 + k) own ≡ f k own = ap (λ i. f i own) (let same : 0 + k ≡ k = omega arith in same) in
          get_or_other (changed_from f 0 u.samples) k d (pos 0) below
          ∙ get-changed_from f 0 u.samples k (pos 0) short ∙ first ∙ at
          ∙ ⊎_elim
          (λ same. ap (edit (point_of n t.corner k)) (sym same) ∙ settled t there (k / 2048) t there refl k inside refl)
          (λ so. ap (λ (q : Corner). edit (point_of n q k) own) part.corner ∙ sym so)
          (part.samples k inside)
          ∙ get_or_other (samples_of_plane n t.heights) k (pos 0) d (omega (arith, inside, length_samples n t.heights part.pages part.enough))))

      all : (us : List Tile) (ts : List StoredTile) → ((t : StoredTile) → Contains ts t → Contains tiles t) → All (IsTile m.side) us → AllZip (IsPartly n edit) us ts → map made us ≡ map (as_tile n) ts
      all [] [] among whole are = refl
      all [] (t ∷ ts) among whole are = absurd are
      all (u ∷ us) [] among whole are = absurd are
      all (u ∷ us) (t ∷ ts) among whole are =
          ap₂ (λ (x : Tile) (xs : List Tile). x ∷ xs) (one u t (among t (0, omega arith, refl)) (All-head (IsTile m.side) u us whole) are.0)
          (all us ts (λ x there. among x (suc there.0, omega (arith, there.1), there.2)) (All-tail (IsTile m.side) u us whole) are.1)

      by : edited edit m ≡ mosaic_of_tiles n m.sinks tiles
      by = ap₂ (λ (k : ℕ) (ts : List Tile). record { side = k; sinks = m.sinks; tiles = ts }) is.side (all m.tiles tiles (λ t there. there) is.valid.tiles is.tiles)

-- ---- at first

partly_itself : (n : ℕ) (edit : Point → ℤ → ℤ) (tiles : List StoredTile) → All (IsFilled n) tiles → AllZip (IsPartly n edit) (map (as_tile n) tiles) tiles
partly_itself n edit [] filled = tt
partly_itself n edit (t ∷ rest) filled =
    let first = All-head (IsFilled n) t rest filled in (
      record { corner = refl; pages = first.pages; enough = first.enough; samples = λ e inside. inl refl },
      partly_itself n edit rest (All-tail (IsFilled n) t rest filled),
    )

pub underway_first : (n : ℕ) (edit : Point → ℤ → ℤ) (m : Mosaic) (tiles : List StoredTile) → IsMosaic m → AreTilesOf n tiles m → IsUnderway n edit m tiles
underway_first n edit m tiles valid are = record {
  valid = valid;
  side = ap (λ (x : Mosaic). x.side) are.mosaic;
  tiles = subst (λ (x : Mosaic). AllZip (IsPartly n edit) x.tiles tiles) (sym are.mosaic) (partly_itself n edit tiles are.filled);
}

-- Pages after the last one have no samples.
pub page_beyond : (n : ℕ) (edit : Point → ℤ → ℤ) (tiles : List StoredTile) (c : Corner) (i : ℕ) → pages_of n ≤ i → IsSettled n edit tiles c i
page_beyond n edit tiles c i past t there corner e inside at = absurd (omega (arith, past, inside, at))

-- ---- steps of an edit, one after another

pub advances_on : (n : ℕ) (edit : Point → ℤ → ℤ) (m : Mosaic) (a b c : List StoredTile) → Advances n edit m a b → Advances n edit m b c → Advances n edit m a c
advances_on n edit m a b c first second = record { underway = second.underway; kept = second.kept ∙ first.kept; settled = λ d i so. second.settled d i (first.settled d i so) }

-- Each page is whole.
pub whole_pages : (n : ℕ) (edit : Point → ℤ → ℤ) (m : Mosaic) (tiles : List StoredTile) → IsUnderway n edit m tiles → AreWhole tiles
whole_pages n edit m tiles is k t below = (partly_filled n edit m.tiles tiles is.tiles k t below).pages
