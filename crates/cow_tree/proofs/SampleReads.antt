-- The samples on a page of heights.
use Rattle.cow_tree.proofs.Prelude.{All, All-contains, All-head, All-tail, AreWhole, Bool, Contains, Corner, HasPage, Heights, IsPage, IsSomeAnd, List, One, Option, PlanePages, Point, Some, StoredTile, Two, Version, ℕ, ℤ, [], ap, ap₂, arith, concat, cond, drop, drop-drop, false, get_or, get_or-append-add, get_or-drop, get_or-take, get_or_append_left, largest_side_of, length, length-append, length-drop, length-take, map, mosaic_of_tiles, plane_bytes, refl, same_corner, same_lists, samples_of_plane, slice_get, slice_range, subst, suc, sym, take, zero, ◌%◌, ◌*◌, ◌++◌, ◌+◌, ◌-◌, ◌/◌, ◌<◌, ◌∙◌, ◌∷◌, ◌≡◌, ◌≤◌}
use Rattle.std.proofs.lemmas.Option.{get_or_from_slice_get, slice_get_within, slice_get_read}
use Rattle.std.proofs.lemmas.Slice.{take-put_mid}
use Rattle.std.proofs.Math.Nat.{mul-le-mul_left}
use Rattle.std.proofs.Math.Seq.{take-add}
use borrow.Rule.Slice.PartMut.{put_mid}
use Rattle.lattice.specs.Mosaic.{Tile, Mosaic, IsMosaic, IsTile, samples_among, samples_of}
use Rattle.lattice.specs.Limits.{largest_side}
use Rattle.hgt.specs.Bytes.{sample_of, samples_in}
use Rattle.hgt.proofs.BytesLemmas.{get_or-samples_in}
use Rattle.lattice.proofs.CornerOrder.{same_from, before_not_same}
use Rattle.lattice.proofs.Rising.{AllAfter, Rising, after_at, rising_from}
use Rattle.cow_tree.proofs.Listed.Adding.{contains-map}

-- ---- the samples of a tile in the mosaic
abbrev corner_of : Tile → Corner
corner_of t = t.corner

after_differs : (c : Corner) (tiles : List Tile) (t : Tile) → AllAfter corner_of c tiles → Contains tiles t → same_corner c t.corner ≡ false
after_differs c tiles t after (k, lt, here) = subst (λ (v : Tile). same_corner c v.corner ≡ false) here (before_not_same c (get_or tiles k t).corner (after_at corner_of c tiles k t after lt))

samples_there : (tiles : List Tile) (t : Tile) → Rising corner_of tiles → Contains tiles t → samples_among tiles t.corner ≡ Some t.samples
samples_there [] t rising (k, lt, here) = absurd (omega (arith, lt))
samples_there (u ∷ rest) t rising (zero, lt, here) =
    ap (λ (v : Bool). cond v (Some u.samples) (samples_among rest t.corner)) (same_from u.corner t.corner (ap corner_of here)) ∙ ap (λ (v : Tile). Some v.samples) here
samples_there (u ∷ rest) t rising (suc k, lt, here) =
    ap (λ (v : Bool). cond v (Some u.samples) (samples_among rest t.corner)) (after_differs u.corner rest t rising.0 (k, omega arith, here)) ∙ samples_there rest t rising.1 (k, omega arith, here)

abbrev tile_of : ℕ → StoredTile → Tile
tile_of n t = record { corner = t.corner; samples = samples_of_plane n t.heights }

module _ (n : ℕ) (sinks : List Point) (tiles : List StoredTile) (c : Corner) (t : StoredTile) (valid : IsMosaic (mosaic_of_tiles n sinks tiles)) (has : Contains tiles t) (corner : t.corner ≡ c) where
  among : Contains (map (tile_of n) tiles) (tile_of n t)
  among = contains-map (tile_of n) tiles t has

  pub samples_are : samples_of (mosaic_of_tiles n sinks tiles) c ≡ Some (samples_of_plane n t.heights)
  samples_are = subst (λ (d : Corner). samples_among (map (tile_of n) tiles) d ≡ Some (samples_of_plane n t.heights)) corner (samples_there (map (tile_of n) tiles) (tile_of n t) (rising_from corner_of (map (tile_of n) tiles) valid.in_order) among)

  pub as_many : length (samples_of_plane n t.heights) ≡ n * n
  as_many = (All-contains (IsTile n) (map (tile_of n) tiles) (tile_of n t) valid.tiles among).whole

-- ---- samples as pairs of bytes of a plane's pages
pairs_within : (bytes : List ℕ) (e : ℕ) → e < length (samples_in bytes) → 2 * e + 1 < length bytes
pairs_within [] e lt = absurd (omega (arith, lt))
pairs_within (high ∷ []) e lt = absurd (omega (arith, lt))
pairs_within (high ∷ (low ∷ rest)) zero lt = omega arith
pairs_within (high ∷ (low ∷ rest)) (suc e) lt = let later = pairs_within rest e (omega arith) in omega arith

byte_at : (pages : PlanePages) (i r : ℕ) → All IsPage pages → i < length pages → r < 4096 → get_or (concat pages) (4096 * i + r) 0 ≡ get_or (get_or pages i []) r 0
byte_at [] i r all lt small = absurd (omega (arith, lt))
byte_at (p ∷ rest) zero r all lt small =
    let whole : length p ≡ 4096 = (All-head IsPage p rest all).whole in
    let location : 4096 * 0 + r ≡ r = omega arith in
    ap (λ (m : ℕ). get_or (p ++ concat rest) m 0) location ∙ get_or_append_left p (concat rest) 0 r (omega arith)
byte_at (p ∷ rest) (suc i) r all lt small =
    let whole : length p ≡ 4096 = (All-head IsPage p rest all).whole in
    let location : 4096 * suc i + r ≡ length p + (4096 * i + r) = omega arith in
    ap (λ (m : ℕ). get_or (p ++ concat rest) m 0) location ∙ get_or-append-add p (concat rest) (4096 * i + r) 0 ∙ byte_at rest i r (All-tail IsPage p rest all) (omega arith) small

-- ---- samples read from one page
module _ (n : ℕ) (sinks : List Point) (tiles : List StoredTile) (c : Corner) (first len from : ℕ) (page : List ℕ) (into : List ℤ) (valid : IsMosaic (mosaic_of_tiles n sinks tiles)) (whole : AreWhole tiles)
    (from_is : from ≡ 2 * (first % 2048)) (one_page : first % 2048 + len ≤ 2048) (range : first + len ≤ n * n) (many : length into ≡ len) (read : into ≡ samples_in (slice_range page from (from + 2 * len))) where
  module _ (t : StoredTile) (has : Contains tiles t) (corner : t.corner ≡ c) (found : slice_get t.heights (first / 2048) ≡ Some page) where
    pages : All IsPage t.heights
    pages = All-contains (λ u. All IsPage u.heights) tiles t whole has

    page_whole : length page ≡ 4096
    page_whole = subst (λ (p : List ℕ). length p ≡ 4096) (get_or_from_slice_get t.heights (first / 2048) page [] found) (pages (first / 2048) [] (slice_get_within t.heights (first / 2048) page found)).whole

    byte_there : (m r : ℕ) → m ≡ 4096 * (first / 2048) + r → r < 4096 → m < 2 * (n * n) → get_or (take (2 * (n * n)) (concat t.heights)) m 0 ≡ get_or page r 0
    byte_there m r is small within =
        get_or-take (2 * (n * n)) (concat t.heights) m 0 within
        ∙ ap (λ (k : ℕ). get_or (concat t.heights) k 0) is
        ∙ byte_at t.heights (first / 2048) r pages (slice_get_within t.heights (first / 2048) page found) small
        ∙ ap (λ (p : List ℕ). get_or p r 0) (get_or_from_slice_get t.heights (first / 2048) page [] found)

    part_at : (j : ℕ) → j < 2 * len → get_or (slice_range page from (from + 2 * len)) j 0 ≡ get_or page (from + j) 0
    part_at j lt = get_or-take (from + 2 * len - from) (drop from page) j 0 (omega arith) ∙ get_or-drop from page j 0

    part_long : length (slice_range page from (from + 2 * len)) ≡ 2 * len
    part_long = omega (arith, length-take (from + 2 * len - from) (drop from page), length-drop from page, page_whole)

    sample_at : (k : ℕ) (d : ℤ) → k < len → get_or (samples_of_plane n t.heights) (first + k) d ≡ get_or into k d
    sample_at k d lt =
        let many_all = as_many n sinks tiles c t valid has corner in
        let two : 2 * (first + k) + 1 < length (plane_bytes n t.heights) = pairs_within (plane_bytes n t.heights) (first + k) (omega arith) in
        let split : 2048 * (first / 2048) + first % 2048 ≡ first = omega arith in
        get_or-samples_in (plane_bytes n t.heights) (first + k) d two
        ∙ ap₂ sample_of
        (byte_there (2 * (first + k)) (from + 2 * k) (omega arith) (omega arith) (omega arith) ∙ sym (part_at (2 * k) (omega arith)))
        (byte_there (2 * (first + k) + 1) (from + (2 * k + 1)) (omega arith) (omega arith) (omega arith) ∙ sym (part_at (2 * k + 1) (omega arith)))
        ∙ sym (get_or-samples_in (slice_range page from (from + 2 * len)) k d (omega (arith, part_long)))
        ∙ ap (λ (l : List ℤ). get_or l k d) (sym read)

    part_is : slice_range (samples_of_plane n t.heights) first (first + length into) ≡ into
    part_is =
        let all : List ℤ = samples_of_plane n t.heights in
        let many_all : length all ≡ n * n = as_many n sinks tiles c t valid has corner in
        same_lists (slice_range all first (first + length into)) into
        (omega (arith, length-take (first + length into - first) (drop first all), length-drop first all, many_all, many, range))
        (λ k d lt. (
        let small : k < len = omega (arith, lt, length-take (first + length into - first) (drop first all), length-drop first all, many_all, many, range) in
        get_or-take (first + length into - first) (drop first all) k d (omega (arith, small, many)) ∙ get_or-drop first all k d ∙ sample_at k d small))

  pub part_read : HasPage tiles c Heights (first / 2048) page → (all : List ℤ) → samples_of (mosaic_of_tiles n sinks tiles) c ≡ Some all → slice_range all first (first + length into) ≡ into
  part_read (t, (has, (corner, found))) all is =
      let same : Some all ≡ Some (samples_of_plane n t.heights) = sym is ∙ samples_are n sinks tiles c t valid has corner in
      let all_is : all ≡ samples_of_plane n t.heights = cc in
      subst (λ (l : List ℤ). slice_range l first (first + length into) ≡ into) (sym all_is)
      (part_is t has corner found)

-- ---- one part after another
pub read_further : (all into part : List ℤ) (first done end : ℕ) → done ≤ end → done ≤ length into → length part ≡ end - done → slice_range all first (first + done) ≡ take done into → slice_range all (first + done) (first + done + length part) ≡ part
    → slice_range all first (first + end) ≡ take end (put_mid done (end - done) into part)
read_further all into part first done end le within long was next =
    let whole : first + end - first ≡ done + length part = omega arith in
    let front : first + done - first ≡ done = omega arith in
    let back : first + done + length part - (first + done) ≡ length part = omega arith in
    ap (λ (n : ℕ). take n (drop first all)) whole
    ∙ take-add done (length part) (drop first all)
    ∙ ap₂ (λ (x y : List ℤ). x ++ y)
    (ap (λ (n : ℕ). take n (drop first all)) (sym front) ∙ was)
    (ap (take (length part)) (drop-drop done first all) ∙ ap (λ (n : ℕ). take n (drop (first + done) all)) (sym back) ∙ next)
    ∙ sym (take-put_mid done (end - done) into part end (omega arith) within)

pub length_further : (into part : List ℤ) (done end : ℕ) → done ≤ end → end ≤ length into → length part ≡ end - done → length (put_mid done (end - done) into part) ≡ length into
length_further into part done end le within long =
    omega (arith, length-append (take done into) (part ++ drop (end - done) (drop done into)), length-append part (drop (end - done) (drop done into)), length-take done into, length-drop (end - done) (drop done into), length-drop done into)

-- one sample
pub one_sample : (m : Mosaic) (c : Corner) (samples : List ℤ) (i : ℕ) (into : List ℤ) (s : ℤ) → samples_of m c ≡ Some samples → i < length samples → length into ≡ 1 → s ≡ get_or into 0 s → slice_range samples i (i + length into) ≡ into → IsSomeAnd (samples_of m c) (λ all. slice_get all i ≡ Some s)
one_sample m c samples i into s found lt long is read =
    subst (λ (o : Option (List ℤ)). IsSomeAnd o (λ all. slice_get all i ≡ Some s)) (sym found)
    (slice_get_read samples (length samples) i s refl lt
    (is ∙ ap (λ (l : List ℤ). get_or l 0 s) (sym read) ∙ get_or-take (i + length into - i) (drop i samples) 0 s (omega arith) ∙ get_or-drop i samples 0 s ∙ ap (λ (k : ℕ). get_or samples k s) (let same : i + 0 ≡ i = omega arith in same)))
