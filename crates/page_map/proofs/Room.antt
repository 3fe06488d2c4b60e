-- A free page is always left: the committed tiles and the fresh pages take fewer than the disk has.
use Rattle.page_map.proofs.Prelude.{AllByRecursion, AreWholeKept, AsCommitted, Dropped, Entry, Format, FreePages, Fresh, HasRoom, IsKept, IsSound, IsSoundPlane, IsWholePlane, IsWholeTile, KeptLocations, List, One, PlaneEntry, PlaneLocation, Staged, TileLocation, ℕ, [], ap, arith, behind_at, committed_tile, committed_tiles, cond, cons_option, filter_map, flat_map, fresh_as, fresh_by, fresh_in, fresh_kept_by, inl, inr, length, length-append, nat_cmp, page_times, pages_behind, pages_of_kept, pages_of_plane, pages_of_tile, reached, refl, staged_as, staged_plane, staged_tile, staged_tiles, subst, suc, sym, tile_of, times, upgraded, zero, ◌*◌, ◌++◌, ◌+◌, ◌-◌, ◌<◌, ◌∙◌, ◌∷◌, ◌≡◌, ◌≢◌, ◌≤◌}
use Rattle.std.proofs.Math.Nat.{mul-add, mul-le-mul_left, mul_comm, mul_assoc, mul_left_comm}
use Rattle.std.specs.Prelude.{Option, Some, None, IsSome, IfSome, is_some, not, ◌&&◌}
use Rattle.std.specs.FinSet.{FinSet, contains, remove, len}
use Rattle.std.proofs.lemmas.Bool.{false≢true, cases_eq, cases_Bool, ne_eqb}
use Rattle.page_codec.specs.Sizes.{pages_of, index_pages_by, index_pages_of, plane_pages_of, sectors_asked}
use Rattle.page_alloc.proofs.PageLemmas.{contains-without, len-without, some_member}
use Rattle.page_map.proofs.Times.{one, one-other, times-append, length-differing}
use Rattle.page_map.proofs.FreeTimes.{free_near, page_one}
use Rattle.page_map.proofs.EntryLists.{counted_tiles, pages_of_location, reached_all, tile_whole}

abbrev fresh_heights : Entry → List ℕ
fresh_heights s = fresh_in s.1.heights

-- ---- distinct numbers of a list or a set are at most as many as the list or the set has
-- the list without a number that it contains
pub left_out : (q : ℕ) (xs : List ℕ) → 1 ≤ times q xs → (ys : List ℕ) × ((length xs ≡ suc (length ys)) × ((p : ℕ) → p ≢ q → times p ys ≡ times p xs))
left_out q [] some = absurd (omega arith)
left_out q (x ∷ xs) some = elim (cases_eq q x) [
  | inl same ↦ (xs, (refl, λ p other. (let none = one-other p x (λ e. other (e ∙ sym same)) in omega arith)))
  | inr apart ↦
      let none = one-other q x apart in
      let rest = left_out q xs (omega arith) in
      (x ∷ rest.0, (ap suc rest.1.0, λ p other. ap (λ n. one p x + n) (rest.1.1 p other)))
]

abbrev in_set : FinSet nat_cmp → ℕ → ℕ
in_set s p = cond (contains s p) 1 0

pub pages_le : (n : ℕ) (xs : List ℕ) (s : FinSet nat_cmp) → ((p : ℕ) → 4 ≤ p → p < 4 + n → 1 ≤ times p xs + in_set s p) → n ≤ length xs + len s
pages_le zero xs s each = omega arith
pages_le (suc n) xs s each = elim (cases_Bool (contains s (4 + n))) [
  | inl member ↦
      let q = 4 + n in
      let some = some_member s q member in
      let fewer = len-without s q member in
      let rest = pages_le n xs (remove s q) (λ p low high. (
      let other : p ≢ q = omega arith in
      let same : contains (remove s q) p ≡ contains s p = contains-without s q p ∙ ap (λ b. not b && contains s p) (ne_eqb p q other) in
      rw same (each p low (omega arith)))) in
      omega arith
  | inr absent ↦
      let q = 4 + n in
      let here : 1 ≤ times q xs + in_set s q = each q (omega arith) (omega arith) in
      let none : in_set s q ≡ 0 = ap (λ b. cond b 1 0) absent in
      let out = left_out q xs (omega arith) in
      let rest = pages_le n out.0 s (λ p low high. (let other : p ≢ q = omega arith in omega (arith, each p low (omega arith), out.1.1 p other))) in
      omega (arith, out.1.0)
]

-- ---- the number of pages that the entries use
abbrev count : Option TileLocation → ℕ
count None = 0
count (Some t) = 1

pages_few : (pages : Entry → List ℕ) (tile_of : Entry → Option TileLocation) (most : ℕ) (Q : Entry → Type 0) → ((s : Entry) → Q s → length (pages s) ≤ most * count (tile_of s))
    → (entries : List Entry) → AllByRecursion Q entries → length (flat_map pages entries) ≤ most * length (filter_map tile_of entries)
pages_few pages tile_of most Q each [] all = omega arith
pages_few pages tile_of most Q each (s ∷ rest) all = by (tile_of s) (each s all.0) (pages_few pages tile_of most Q each rest all.1)
  where
    by : (o : Option TileLocation) → length (pages s) ≤ most * count o → length (flat_map pages rest) ≤ most * length (filter_map tile_of rest)
        → length (pages s ++ flat_map pages rest) ≤ most * length (cons_option o (filter_map tile_of rest))
    by None here later = omega (arith, length-append (pages s) (flat_map pages rest))
    by (Some t) here later = omega (arith, length-append (pages s) (flat_map pages rest), mul-add most 1 (length (filter_map tile_of rest)))

module _ (format : Format) where
  abbrev plane_size : ℕ
  plane_size = plane_pages_of format

  pub plane_few : (p : PlaneLocation) → IsWholePlane format p → length (pages_of_plane p) ≡ plane_size
  plane_few p whole = omega (arith, length-append p.index_pages p.pages, whole.index_pages, whole.pages)

  pub kept_few : (kept : Option KeptLocations) → IfSome kept (AreWholeKept format) → length (pages_of_kept kept) ≤ 2 * plane_size
  kept_few None whole = omega arith
  kept_few (Some k) whole = omega (arith, length-append (pages_of_plane k.levels) (pages_of_plane k.labels), plane_few k.levels whole.levels, plane_few k.labels whole.labels)

  tile_few : (t : TileLocation) → IsWholeTile format t → length (pages_of_tile t) ≤ 3 * plane_size
  tile_few t whole = omega (arith, length-append (pages_of_plane t.heights) (pages_of_kept t.kept), plane_few t.heights whole.heights, kept_few t.kept whole.kept)

  committed_few : (s : Entry) → IsSound format s → length (pages_of_location (committed_tile s)) ≤ 3 * plane_size * count (committed_tile s)
  committed_few s sound = by (committed_tile s) (tile_whole format s.0 s.1.heights.committed s.1.levels.committed s.1.labels.committed sound.heights.committed sound.levels.committed sound.labels.committed)
    where
      by : (o : Option TileLocation) → IfSome o (IsWholeTile format) → length (pages_of_location o) ≤ 3 * plane_size * count o
      by None whole = omega arith
      by (Some t) whole = omega (arith, tile_few t whole)

  pub fresh_few : (e : PlaneEntry) → IsSoundPlane format e → length (fresh_in e) ≤ plane_size
  fresh_few e sound = by e.committed e.staged sound.staged
    where
      by : (o : Option PlaneLocation) (g : Staged) → IfSome (staged_as o g) (IsWholePlane format) → length (fresh_as o g) ≤ plane_size
      by o AsCommitted whole = omega arith
      by o Dropped whole = omega arith
      by o (Fresh location) whole = omega (arith, length-differing (pages_behind location) (behind_at o), plane_few location whole)

  heights_few : (s : Entry) → IsSound format s → length (fresh_heights s) ≤ plane_size * count (staged_tile s)
  heights_few s sound = by s.1.heights.committed s.1.heights.staged (fresh_few s.1.heights sound.heights)
    where
      by : (o : Option PlaneLocation) (g : Staged) → length (fresh_as o g) ≤ plane_size → length (fresh_as o g) ≤ plane_size * count (tile_of s.0 (staged_as o g) (staged_plane s.1.levels) (staged_plane s.1.labels))
      by o AsCommitted few = omega arith
      by o Dropped few = omega arith
      by o (Fresh location) few = omega (arith, few)

  all_heights_few : (entries : List Entry) → AllByRecursion (IsSound format) entries → length (flat_map fresh_heights entries) ≤ plane_size * length (staged_tiles entries)
  all_heights_few = pages_few fresh_heights staged_tile plane_size (IsSound format) heights_few

  -- all heights but those of one entry's tile
  other_heights_few : (before : List Entry) (s : Entry) (after : List Entry) → AllByRecursion (IsSound format) (before ++ s ∷ after) → IsSome (staged_tile s)
      → length (flat_map fresh_heights (before ++ s ∷ after)) + plane_size ≤ plane_size * length (staged_tiles (before ++ s ∷ after)) + length (fresh_heights s)
  other_heights_few [] s after all some = by (staged_tile s) some
    where
      by : (o : Option TileLocation) → IsSome o → length (fresh_heights s ++ flat_map fresh_heights after) + plane_size ≤ plane_size * length (cons_option o (staged_tiles after)) + length (fresh_heights s)
      by None some = absurd (false≢true some)
      by (Some t) some = omega (arith, length-append (fresh_heights s) (flat_map fresh_heights after), mul-add plane_size 1 (length (staged_tiles after)), all_heights_few after all.1)
  other_heights_few (b ∷ before) s after all some = by (staged_tile b) (heights_few b all.0) (other_heights_few before s after all.1 some)
    where
      by : (o : Option TileLocation) → length (fresh_heights b) ≤ plane_size * count o
          → length (flat_map fresh_heights (before ++ s ∷ after)) + plane_size ≤ plane_size * length (staged_tiles (before ++ s ∷ after)) + length (fresh_heights s)
          → length (fresh_heights b ++ flat_map fresh_heights (before ++ s ∷ after)) + plane_size ≤ plane_size * length (cons_option o (staged_tiles (before ++ s ∷ after))) + length (fresh_heights s)
      by None here later = omega (arith, length-append (fresh_heights b) (flat_map fresh_heights (before ++ s ∷ after)))
      by (Some t) here later = omega (arith, length-append (fresh_heights b) (flat_map fresh_heights (before ++ s ∷ after)), mul-add plane_size 1 (length (staged_tiles (before ++ s ∷ after))))

-- The fresh pages are those of heights and of kept planes together.
pub fresh_lengths : (entries : List Entry) → length (flat_map fresh_by entries) ≡ length (flat_map fresh_heights entries) + length (flat_map fresh_kept_by entries)
fresh_lengths [] = refl
fresh_lengths (s ∷ rest) =
    let parts = fresh_lengths rest in
    let all = length-append (fresh_by s) (flat_map fresh_by rest) in
    let here = length-append (fresh_heights s) (fresh_kept_by s) in
    let heights = length-append (fresh_heights s) (flat_map fresh_heights rest) in
    let kept = length-append (fresh_kept_by s) (flat_map fresh_kept_by rest) in
    omega arith

left_over : (total left m c nc lc lf : ℕ) → 4 + (4 * c + 2) * m ≤ total → total - 4 ≤ lc + lf + left → lc ≤ 3 * m * nc → m * nc ≤ m * c → m * c + 2 * m ≤ lf + left
left_over total left m c nc lc lf size all committed committed_most =
    let needed : (4 * c + 2) * m ≡ 4 * (m * c) + m * 2 = mul_comm (4 * c + 2) m ∙ (mul-add m (4 * c) 2 ∙ ap (λ n. n + m * 2) (mul_left_comm m 4 c)) in
    let three : 3 * m * nc ≡ 3 * (m * nc) = mul_assoc 3 m nc in
    omega arith

module _ (format : Format) (entries : List Entry) (free : FreePages) (is : IsKept format entries free) where
  -- Each page of the window is committed, fresh or free, and the number of the committed tiles' pages is bounded.
  pub all_used : free.range.window - 4 ≤ length (reached (committed_tiles entries)) + length (flat_map fresh_by entries) + len free.free
  all_used =
      let used = reached (committed_tiles entries) ++ flat_map fresh_by entries in
      let all : free.range.window - 4 ≤ length used + len free.free =
      pages_le (free.range.window - 4) used free.free (λ p low high. (
      let near = free_near free p (omega (arith, is.window.enough)) in
      let page : page_times free.range p ≡ 1 = page_one free.range p (low, omega (arith, is.window.enough, is.window.within)) in
      omega (arith, counted_tiles format entries free is p, near, page, times-append p (reached (committed_tiles entries)) (flat_map fresh_by entries)))) in
      omega (arith, all, length-append (reached (committed_tiles entries)) (flat_map fresh_by entries))

  pub used_few : length (reached (committed_tiles entries)) ≤ 3 * plane_pages_of format * length (committed_tiles entries)
  used_few = rw (reached_all committed_tile entries) (pages_few (λ s. pages_of_location (committed_tile s)) committed_tile (3 * plane_pages_of format) (IsSound format) (committed_few format) entries is.sound)

  -- Beside the committed tiles there is room for a plane of each tile, and for two more.
  all_left : plane_pages_of format * format.capacity + 2 * plane_pages_of format ≤ length (flat_map fresh_by entries) + len free.free
  all_left =
      left_over free.range.window (len free.free) (plane_pages_of format) format.capacity (length (committed_tiles entries)) _ _ is.window.enough all_used used_few (mul-le-mul_left (plane_pages_of format) is.committed_room)

  -- If no page is fresh, there is room for two planes.
  pub room_to_keep : flat_map fresh_by entries ≡ [] → 2 * plane_pages_of format ≤ len free.free
  room_to_keep none = let nothing = ap length none in omega (arith, all_left, nothing)

  -- There is room for the plane of one more tile.
  pub room_for_tile : length (staged_tiles entries) < format.capacity → plane_pages_of format ≤ len free.free
  room_for_tile room =
      let m = plane_pages_of format in
      let tiles : m * (length (staged_tiles entries) + 1) ≤ m * format.capacity = mul-le-mul_left m (omega arith) in
      omega (arith, all_left, fresh_lengths entries, all_heights_few format entries is.sound, is.kept_room, tiles, mul-add m (length (staged_tiles entries)) 1)

-- There is room for the heights of a staged tile, with those of its pages that are fresh already.
module _ (format : Format) (before : List Entry) (s : Entry) (after : List Entry) (free : FreePages) (is : IsKept format (before ++ s ∷ after) free) (sound : IsSound format s) where
  heights_left : IsSome (staged_tile s) → plane_pages_of format ≤ length (fresh_heights s) + len free.free
  heights_left some =
      let entries = before ++ s ∷ after in
      let m = plane_pages_of format in
      let tiles : m * length (staged_tiles entries) ≤ m * format.capacity = mul-le-mul_left m is.staged_room in
      omega (arith, all_left format entries free is, fresh_lengths entries, other_heights_few format before s after is.sound some, is.kept_room, tiles)

  pub room_for_heights : HasRoom s.1.heights (len free.free)
  room_for_heights = by (staged_plane s.1.heights) refl sound.heights.staged
    where
      by : (o : Option PlaneLocation) → staged_plane s.1.heights ≡ o → IfSome o (IsWholePlane format) → IfSome o (λ l. length (pages_of_plane l) ≤ length (fresh_in s.1.heights) + len free.free)
      by None had whole = tt
      by (Some l) had whole =
          omega (arith, plane_few format l whole, heights_left (ap (λ (o : Option PlaneLocation). is_some (tile_of s.0 o (staged_plane s.1.levels) (staged_plane s.1.labels))) had))

-- There is room for the listing pages of all committed tiles in the second version, if a store of that version has
-- room.
upgraded_over : (total used left c n i p : ℕ) → 4 + (4 * c + 2) * (1 + i + p) ≤ total → total - 4 ≤ used + left → used ≤ 3 * (1 + p) * n → n ≤ c → 1 ≤ i → 1 ≤ p → 3 * (1 + i) * n ≤ left
upgraded_over total used left c n i p size all committed most some_index some_page =
    let a : ℕ = 1 + i + p in
    let needed : (4 * c + 2) * a ≡ 4 * (a * c) + a * 2 = mul_comm (4 * c + 2) a ∙ (mul-add a (4 * c) 2 ∙ ap (λ n. n + a * 2) (mul_left_comm a 4 c)) in
    let more : a * n ≤ a * c = mul-le-mul_left a most in
    let whole : a * n ≡ n * (1 + i) + n * p = mul_comm a n ∙ mul-add n (1 + i) p in
    let lists : n * (1 + i) ≡ n * 1 + n * i = mul-add n 1 i in
    let planes : n * (1 + p) ≡ n * 1 + n * p = mul-add n 1 p in
    let used_is : 3 * (1 + p) * n ≡ 3 * (n * (1 + p)) = mul_assoc 3 (1 + p) n ∙ ap (λ k. 3 * k) (mul_comm (1 + p) n) in
    let asked : 3 * (1 + i) * n ≡ 3 * (n * (1 + i)) = mul_assoc 3 (1 + i) n ∙ ap (λ k. 3 * k) (mul_comm (1 + i) n) in
    let index_least : n * 1 ≤ n * i = mul-le-mul_left n some_index in
    let page_least : n * 1 ≤ n * p = mul-le-mul_left n some_page in
    omega arith

pub room_to_upgrade : (format : Format) (entries : List Entry) (free : FreePages) → IsKept format entries free → flat_map fresh_by entries ≡ [] → format.version ≡ One → 3 ≤ format.side → sectors_asked (upgraded format) ≤ free.range.sectors
    → 3 * (1 + index_pages_of (upgraded format)) * length (committed_tiles entries) ≤ len free.free
room_to_upgrade format entries free is none first side size =
    let none_index : index_pages_of format ≡ 0 = ap (λ v. index_pages_by v (pages_of format.side)) first in
    let nothing : length (flat_map fresh_by entries) ≡ 0 = ap length none in
    let square : format.side * 3 ≤ format.side * format.side = mul-le-mul_left format.side side in
    let some_page : 1 ≤ pages_of format.side = omega (arith, square, side) in
    let some_index : 1 ≤ index_pages_of (upgraded format) = omega (arith, some_page) in
    upgraded_over free.range.window (length (reached (committed_tiles entries))) (len free.free) format.capacity (length (committed_tiles entries)) (index_pages_of (upgraded format)) (pages_of format.side) (is.window.upgrade size) (omega (arith, all_used format entries free is, nothing))
    (subst (λ i. length (reached (committed_tiles entries)) ≤ 3 * (1 + i + pages_of format.side) * length (committed_tiles entries)) none_index (used_few format entries free is)) is.committed_room some_index some_page
