-- What lists the pages of tiles, page by page: which pages those are, and how they are written.
use Rattle.cow_tree.proofs.Prelude.{All, All-append, All-cons, All-contains_itself, All-nil, Bool, Contains, Err, Format, Ghosts, Heights, Image, IsOn, KeepsPageRule, KeptLocations, Labels, Levels, List, ListingPage, None, Ok, OnOk, Option, Plane, PlaneLocation, Refusal, Result, Roots, Some, TileLocation, WritesListing, WritesPages, ℕ, [], all_numbers, ap, ap₂, arith, cond, disk_of, drop, due_among, false, filter, filter-append, get_or, has_failed, index_listing, is_unreached, kept_listing, length, length-append, length-map, listing_bytes, listing_if, listing_of, listing_of_kept, listing_of_tile, listings, map-append, member_of_times, named_listing, numbers_of, option_map, part_of, plane_listing, plane_of, reached, record_bytes, refl, subst, suc, sym, take, take-append-drop, tile_listing, tiles_listing, tiles_split, times, times-append, times_of_member, true, zero, ◌++◌, ◌+◌, ◌<◌, ◌∙◌, ◌∷◌, ◌≡◌, ◌≤◌}
use Rattle.cow_tree.proofs.Listed.Counting.{at_times, times_among, times_failing, times_passing}
use Rattle.cow_tree.proofs.Listed.Due.{reached_from}
use Rattle.cow_tree.proofs.Listed.Adding.{contains-map}
use Rattle.cow_tree.proofs.Writes.PageWrites.{nothing_written, then_written, refused_within}
use Rattle.cow_tree.proofs.Steps.{on_ok, on_ok_both}

abbrev number : ListingPage → ℕ
number l = l.page

-- ---- the numbers of listing pages
pub numbers-append : (xs ys : List ListingPage) → numbers_of (xs ++ ys) ≡ numbers_of xs ++ numbers_of ys
numbers-append xs ys = map-append number xs ys

pub both_parts : (q : ℕ) (xs ys : List ListingPage) → times q (numbers_of (xs ++ ys)) ≡ times q (numbers_of xs) + times q (numbers_of ys)
both_parts q xs ys = ap (times q) (numbers-append xs ys) ∙ times-append q (numbers_of xs) (numbers_of ys)

index_numbers : (t : ℕ) (xs pages : List ℕ) → numbers_of (index_listing t xs pages) ≡ xs
index_numbers t [] pages = refl
index_numbers t (x ∷ xs) pages = ap (λ (l : List ℕ). x ∷ l) (index_numbers (suc t) xs pages)

pub plane_numbers : (format : Format) (p : PlaneLocation) → numbers_of (plane_listing format p) ≡ listing_of p
plane_numbers format p = ap (λ (l : List ℕ). p.record_page ∷ l) (index_numbers 0 p.index_pages p.pages)

kept_numbers : (format : Format) (kept : Option KeptLocations) → numbers_of (kept_listing format kept) ≡ listing_of_kept kept
kept_numbers format None = refl
kept_numbers format (Some k) =
    numbers-append (plane_listing format k.levels) (plane_listing format k.labels)
    ∙ ap₂ (λ (xs ys : List ℕ). xs ++ ys) (plane_numbers format k.levels) (plane_numbers format k.labels)

pub tile_numbers : (format : Format) (t : TileLocation) → numbers_of (tile_listing format t) ≡ listing_of_tile t
tile_numbers format t =
    numbers-append (plane_listing format t.heights) (kept_listing format t.kept)
    ∙ ap₂ (λ (xs ys : List ℕ). xs ++ ys) (plane_numbers format t.heights) (kept_numbers format t.kept)

pub tiles_numbers : (format : Format) (tiles : List TileLocation) → numbers_of (tiles_listing format tiles) ≡ listings tiles
tiles_numbers format [] = refl
tiles_numbers format (t ∷ rest) =
    numbers-append (tile_listing format t) (tiles_listing format rest)
    ∙ ap₂ (λ (xs ys : List ℕ). xs ++ ys) (tile_numbers format t) (tiles_numbers format rest)

pub due_numbers : (tiles : List TileLocation) (ls : List ListingPage) → numbers_of (due_among tiles ls) ≡ filter (is_unreached tiles) (numbers_of ls)
due_numbers tiles [] = refl
due_numbers tiles (l ∷ ls) =
    let later = due_numbers tiles ls in
    elim (is_unreached tiles l.page) as (λ (v : Bool). numbers_of (cond v (l ∷ due_among tiles ls) (due_among tiles ls)) ≡ cond v (l.page ∷ filter (is_unreached tiles) (numbers_of ls)) (filter (is_unreached tiles) (numbers_of ls))) [
      | true ↦ ap (λ (xs : List ℕ). l.page ∷ xs) later
      | false ↦ later
    ]

pub due_are : (before : List TileLocation) (format : Format) (tiles : List TileLocation) → numbers_of (due_among before (tiles_listing format tiles)) ≡ filter (is_unreached before) (listings tiles)
due_are before format tiles = due_numbers before (tiles_listing format tiles) ∙ ap (filter (is_unreached before)) (tiles_numbers format tiles)

-- The tiles written before reach none of the due pages.
pub due_unreached : (before : List TileLocation) (ls : List ListingPage) → All (λ q. ¬ Contains (reached before) q) (numbers_of (due_among before ls))
due_unreached before ls =
    all_numbers (λ q. ¬ Contains (reached before) q) (numbers_of (due_among before ls))
    (λ q some has.
    let none = ap (times q) (due_numbers before ls) ∙ times_failing q (is_unreached before) (reached_from before q has) (numbers_of ls) in
    omega (arith, none, some))

-- The listing of a tile is the listing of its planes by name.
pub by_name : (format : Format) (t : TileLocation) → tile_listing format t ≡ named_listing format Heights t ++ (named_listing format Levels t ++ named_listing format Labels t)
by_name format t = ap (λ (l : List ListingPage). plane_listing format t.heights ++ l) (by t.kept)
  where
    by : (kept : Option KeptLocations) → kept_listing format kept ≡ listing_if format (option_map (λ (k : KeptLocations). k.levels) kept) ++ listing_if format (option_map (λ (k : KeptLocations). k.labels) kept)
    by None = refl
    by (Some k) = refl

-- ---- one listing page by its number
index_at : (t : ℕ) (xs pages : List ℕ) (k : ℕ) (d : ListingPage) → k < length xs → get_or (index_listing t xs pages) k d ≡ record { page = get_or xs k 0; bytes = record_bytes (part_of (t + k) pages) }
index_at t [] pages k d lt = absurd (omega (arith, lt))
index_at t (x ∷ xs) pages zero d lt = ap (λ (n : ℕ). let l : ListingPage = record { page = x; bytes = record_bytes (part_of n pages) } in l) (let e : t ≡ t + 0 = omega arith in e)
index_at t (x ∷ xs) pages (suc k) d lt =
    index_at (suc t) xs pages k d (omega (arith, lt))
    ∙ ap (λ (n : ℕ). let l : ListingPage = record { page = get_or xs k 0; bytes = record_bytes (part_of n pages) } in l) (let e : suc t + k ≡ t + suc k = omega arith in e)

pub plane_at : (format : Format) (p : PlaneLocation) (i : ℕ) (d : ListingPage) → i < length (listing_of p) → get_or (plane_listing format p) i d ≡ record { page = get_or (listing_of p) i 0; bytes = listing_bytes format p i }
plane_at format p zero d lt = refl
plane_at format p (suc k) d lt =
    index_at 0 p.index_pages p.pages k d (omega (arith, lt))
    ∙ ap (λ (n : ℕ). let l : ListingPage = record { page = get_or p.index_pages k 0; bytes = record_bytes (part_of n p.pages) } in l) (let e : 0 + k ≡ k = omega arith in e)

pub plane_length : (format : Format) (p : PlaneLocation) → length (plane_listing format p) ≡ length (listing_of p)
plane_length format p = sym (length-map (plane_listing format p) number) ∙ ap length (plane_numbers format p)

-- ---- listing pages that tiles reach
abbrev pub AreWithin : List ListingPage → List TileLocation → Type 0
AreWithin ls tiles = (q : ℕ) → times q (numbers_of ls) ≤ times q (reached tiles)

pub few_due : (committed : List TileLocation) (ls : List ListingPage) (q : ℕ) → times q (numbers_of (due_among committed ls)) ≤ times q (numbers_of ls)
few_due committed ls q = let same = ap (times q) (due_numbers committed ls) in omega (arith, same, times_passing q (is_unreached committed) (numbers_of ls))

pub few_first : (k : ℕ) (ls : List ListingPage) (q : ℕ) → times q (numbers_of (take k ls)) ≤ times q (numbers_of ls)
few_first k ls q =
    let whole = ap (λ (l : List ListingPage). times q (numbers_of l)) (take-append-drop k ls) in
    omega (arith, whole, both_parts q (take k ls) (drop k ls))

pub all_within : (format : Format) (tiles : List TileLocation) → AreWithin (tiles_listing format tiles) tiles
all_within format tiles q = let same = ap (times q) (tiles_numbers format tiles) in omega (arith, same, tiles_split q tiles)

pub tile_within : (format : Format) (tiles : List TileLocation) (t : TileLocation) → Contains tiles t → AreWithin (tile_listing format t) tiles
tile_within format tiles t among q =
    let same = ap (times q) (tile_numbers format t) in
    omega (arith, same, tiles_split q tiles, times_among listing_of_tile q tiles t among)

-- a page of those is reached, so where the tile is a committed one none is due
none_unreached : (tiles : List TileLocation) (ls : List ListingPage) → AreWithin ls tiles → due_among tiles ls ≡ []
none_unreached tiles [] within = refl
none_unreached tiles (l ∷ ls) within =
    let here : 1 ≤ times l.page (numbers_of (l ∷ ls)) = times_of_member (numbers_of (l ∷ ls)) l.page (0, omega arith, refl) in
    let has : Contains (reached tiles) l.page = member_of_times (reached tiles) l.page (omega (arith, here, within l.page)) in
    ap (λ (v : Bool). cond v (l ∷ due_among tiles ls) (due_among tiles ls)) (reached_from tiles l.page has)
    ∙ none_unreached tiles ls (λ q. omega (arith, both_parts q (l ∷ []) ls, within q))

pub none_due : (format : Format) (tiles : List TileLocation) (t : TileLocation) → Contains tiles t → due_among tiles (tile_listing format t) ≡ []
none_due format tiles t among = none_unreached tiles (tile_listing format t) (tile_within format tiles t among)

pub plane_within : (format : Format) (tiles : List TileLocation) (t : TileLocation) (name : Plane) (p : PlaneLocation) → Contains tiles t → plane_of name t ≡ Some p → AreWithin (plane_listing format p) tiles
plane_within format tiles t name p among is q =
    let own = ap (λ (o : Option PlaneLocation). times q (numbers_of (listing_if format o))) is in
    omega (arith, tile_within format tiles t among q, by name, own)
  where
    split : times q (numbers_of (tile_listing format t)) ≡ times q (numbers_of (named_listing format Heights t)) + (times q (numbers_of (named_listing format Levels t)) + times q (numbers_of (named_listing format Labels t)))
    split = ap (λ (l : List ListingPage). times q (numbers_of l)) (by_name format t) ∙ both_parts q (named_listing format Heights t) (named_listing format Levels t ++ named_listing format Labels t) ∙ ap (λ n. times q (numbers_of (named_listing format Heights t)) + n) (both_parts q (named_listing format Levels t) (named_listing format Labels t))

    by : (n : Plane) → times q (numbers_of (named_listing format n t)) ≤ times q (numbers_of (tile_listing format t))
    by Heights = omega (arith, split)
    by Levels = omega (arith, split)
    by Labels = omega (arith, split)

-- ---- listing pages that were written
pub none_listed : {D : Type 0} (g : Ghosts D) → ((disk : D) (c : Image) → g.honest disk → g.since disk (g.moment disk) c → g.may disk c) → (roots : Roots D g) → has_failed roots ≡ false → WritesListing {T = Unit {0}} g [] roots roots (Ok tt)
none_listed g only_now roots works = record { pages = nothing_written g only_now roots works; written = λ honest. All-nil (IsOn (g.seen (disk_of roots))) }

pub one_listed : {D : Type 0} (g : Ghosts D) (old new : Roots D g) (l : ListingPage) (r : Result (Unit {0}) Refusal) → WritesPages g (l.page ∷ []) old new r → (g.honest (disk_of new) → OnOk r (IsOn (g.seen (disk_of new)) l))
    → WritesListing g (l ∷ []) old new r
one_listed g old new l r pages wrote = record { pages = pages; written = λ honest. on_ok r (λ here. All-cons (IsOn (g.seen (disk_of new))) l [] here (All-nil (IsOn (g.seen (disk_of new))))) (wrote honest) }

pub number_there : (ls : List ListingPage) (k : ℕ) (d : ListingPage) → k < length ls → 1 ≤ times (get_or ls k d).page (numbers_of ls)
number_there ls k d lt = times_of_member (numbers_of ls) (get_or ls k d).page (contains-map number ls (get_or ls k d) (All-contains_itself ls k d lt))

pub then_listed : {D : Type 0} (g : Ghosts D) (tiles : List TileLocation) (sectors : ℕ) → KeepsPageRule sectors tiles → (old mid new : Roots D g) (xs ys : List ListingPage) (r : Result (Unit {0}) Refusal)
    → AreWithin (xs ++ ys) tiles → WritesListing {T = Unit {0}} g xs old mid (Ok tt) → WritesListing g ys mid new r → WritesListing g (xs ++ ys) old new r
then_listed g tiles sectors rule old mid new xs ys r within first second = record {
  pages = subst (λ (l : List ℕ). WritesPages g l old new r) (sym (numbers-append xs ys)) (then_written g old mid new (numbers_of xs) (numbers_of ys) r first.pages second.pages);
  written = λ honest.
      on_ok_both r
      (λ others wrote. All-append (IsOn (g.seen (disk_of new))) xs ys
      (λ k d lt.
      let q : ℕ = (get_or xs k d).page in
      let there = number_there xs k d lt in
      let parts = both_parts q xs ys in
      let most = within q in
      sym (others q (at_times (λ p. 4 ≤ p) q (reached tiles) rule.low (omega (arith, there, parts, most))) (omega (arith, there, parts, most, rule.once q)))
      ∙ first.written (second.pages.honest honest) k d lt)
      wrote)
      (second.pages.others honest) (second.written honest);
}

-- ---- two lists of due listing pages, written one after the other
module _ {D : Type 0} (g : Ghosts D) (before : List TileLocation) (xs ys : List ListingPage) where
  due_parts : due_among before (xs ++ ys) ≡ due_among before xs ++ due_among before ys
  due_parts = filter-append (λ (l : ListingPage). is_unreached before l.page) xs ys

  pub due_then : (tiles : List TileLocation) (sectors : ℕ) → KeepsPageRule sectors tiles → AreWithin (xs ++ ys) tiles → (old mid new : Roots D g) (r : Result (Unit {0}) Refusal)
      → WritesListing {T = Unit {0}} g (due_among before xs) old mid (Ok tt) → WritesListing g (due_among before ys) mid new r → WritesListing g (due_among before (xs ++ ys)) old new r
  due_then tiles sectors rule within old mid new r first second =
      subst (λ (l : List ListingPage). WritesListing g l old new r) (sym due_parts)
      (then_listed g tiles sectors rule old mid new (due_among before xs) (due_among before ys) r
      (λ q. let same = ap (λ (l : List ListingPage). times q (numbers_of l)) due_parts in omega (arith, same, few_due before (xs ++ ys) q, within q)) first second)

  -- A refused call wrote only some of them.
  pub due_refused : (old new : Roots D g) (why : Refusal) → WritesListing {T = Unit {0}} g (due_among before xs) old new (Err why) → WritesListing {T = Unit {0}} g (due_among before (xs ++ ys)) old new (Err why)
  due_refused old new why had =
      let both : numbers_of (due_among before (xs ++ ys)) ≡ numbers_of (due_among before xs) ++ numbers_of (due_among before ys) = ap numbers_of due_parts ∙ numbers-append (due_among before xs) (due_among before ys) in
      let long = ap (λ (l : List ℕ). length l) both in
      record {
        pages = refused_within g (numbers_of (due_among before xs)) (numbers_of (due_among before (xs ++ ys))) old new why (omega (arith, long, length-append (numbers_of (due_among before xs)) (numbers_of (due_among before ys))))
            (λ q. let parts = ap (times q) both in omega (arith, parts, times-append q (numbers_of (due_among before xs)) (numbers_of (due_among before ys)))) had.pages;
        written = λ _. tt;
      }
