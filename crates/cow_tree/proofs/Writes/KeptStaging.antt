-- Levels and labels of a tile are staged after all their pages were written.
use Rattle.cow_tree.proofs.Prelude.{All, AreKept, AreListedBy, AreStaged, AreWholeKept, Bool, Contains, Corner, Format, HasPlane, HasPlaneAt, Image, IsClean, IsFresh, IsListedBy, IsLocated, IsPageMap, KeptLocations, KeptPlanes, Labels, Levels, List, Option, PageMapValue, Plane, PlaneLocation, PlanePages, Some, StoredTile, TileLocation, ℕ, [], any_none, ap, ap₂, arith, cases_eq, false, get_or, if◌then◌else◌, inl, inr, is_at, is_unreached, kept_in, listing_of, map, not, option_map, other_kept, pages_behind, pages_of_kept, pages_of_plane, pages_of_tile, plane_of, reached, refl, same_Some, subst, sym, tile_in, times, times_here, true, ◌++◌, ◌<◌, ◌∙◌, ◌∷◌, ◌≡◌, ◌≤◌}
use Rattle.page_map.proofs.Times.{all_numbers, has_at, member_of_times, times-append}
use Rattle.cow_tree.specs.Kept.{with_kept}
use Rattle.cow_tree.proofs.Listed.Adding.{still_records}
use Rattle.cow_tree.proofs.Listed.CornerChanges.{tile_changed}
use Rattle.cow_tree.proofs.Listed.Due.{located_tile}
use Rattle.cow_tree.proofs.Listed.Counting.{all_of_fewer, at_times, times_among}
use Rattle.cow_tree.proofs.Writes.KeptDrops.{other_stays}
use Rattle.cow_tree.proofs.Standing.{SameOn, All-front, All-back, tile_same, plane_same}
use Rattle.cow_tree.proofs.Tiles.{one_at_corner}

-- The corner's tile keeps its planes at these locations.
abbrev HasKept : Corner → KeptLocations → List TileLocation → Type 0
HasKept c kept tiles = (t : TileLocation) × (Contains tiles t × (t.corner ≡ c) × (t.kept ≡ Some kept))

kept_tile : (c : Corner) (k : KeptLocations) (tiles : List TileLocation) → IsLocated c tiles → HasKept c k (other_kept c (Some k) tiles)
kept_tile c k tiles located =
    let found = located_tile c tiles located in
    (record (found.0) { kept = Some k }, (tile_changed c (λ t. record t { kept = Some k }) (λ t. refl) tiles found.0 found.1.0 found.1.1, found.1.1, refl))

-- the stored tiles, with these kept planes
kept_tiles : (c : Corner) (k : KeptLocations) (planes : KeptPlanes) (a b : Image) (tiles : List TileLocation) → kept_in b (Some k) ≡ Some planes → SameOn (reached tiles) a b
    → map (tile_in b) (other_kept c (Some k) tiles) ≡ with_kept c planes (map (tile_in a) tiles)
kept_tiles c k planes a b [] wrote same = refl
kept_tiles c k planes a b (t ∷ rest) wrote same =
    ap₂ (λ (x : StoredTile) (xs : List StoredTile). x ∷ xs) (by_test (is_at c t)) (kept_tiles c k planes a b rest wrote (All-back (λ q. a q ≡ b q) (pages_of_tile t) (reached rest) same))
  where
    here : SameOn (pages_of_tile t) a b
    here = All-front (λ q. a q ≡ b q) (pages_of_tile t) (reached rest) same

    by_test : (v : Bool) → tile_in b (if v then record t { kept = Some k } else t) ≡ (if v then record (tile_in a t) { kept = Some planes } else tile_in a t)
    by_test true = ap₂ (λ (x : PlanePages) (y : Option KeptPlanes). record { corner = t.corner; heights = x; kept = y }) (sym (plane_same t.heights a b (All-front (λ q. a q ≡ b q) (pages_of_plane t.heights) (pages_of_kept t.kept) here))) wrote
    by_test false = sym (tile_same t a b here)

module _ (old new : PageMapValue) (c : Corner) (rules : IsPageMap new) (was : IsPageMap old) (anew : AreKept c old new) (clean : IsClean old) (located : IsLocated c old.staged) where
  staged_is : new.staged ≡ other_kept c (Some anew.locations) old.staged
  staged_is = ap (λ (x : PageMapValue). x.staged) anew.changed

  committed_is : new.committed ≡ old.committed
  committed_is = ap (λ (x : PageMapValue). x.committed) anew.changed

  has_kept : HasKept c anew.locations new.staged
  has_kept = subst (HasKept c anew.locations) (sym staged_is) (kept_tile c anew.locations old.staged located)

  -- The tile keeps both planes at these locations.
  has_plane : (plane : Plane) (location : PlaneLocation) → plane_of plane has_kept.0 ≡ Some location → HasPlane new.staged c plane
  has_plane plane location is = (location, (has_kept.0, (has_kept.1.0, (has_kept.1.1, is))))

  pub no_levels : ¬ HasPlane new.staged c Levels → ⊥
  no_levels none = none (has_plane Levels anew.locations.levels (ap (option_map (λ (k : KeptLocations). k.levels)) has_kept.1.2))

  pub no_labels : ¬ HasPlane new.staged c Labels → ⊥
  no_labels none = none (has_plane Labels anew.locations.labels (ap (option_map (λ (k : KeptLocations). k.labels)) has_kept.1.2))

  lies_so : (plane : Plane) (location : PlaneLocation) → HasPlaneAt new.staged c plane location → plane_of plane has_kept.0 ≡ Some location
  lies_so plane location (t, (there, (at, lies_at))) =
      ap (plane_of plane) (one_at_corner new.staged has_kept.0 t rules.staged.in_order has_kept.1.0 there (has_kept.1.1 ∙ sym at)) ∙ lies_at

  pub locations_are : (levels labels : PlaneLocation) → HasPlaneAt new.staged c Levels levels → HasPlaneAt new.staged c Labels labels → anew.locations ≡ record { levels = levels; labels = labels }
  locations_are levels labels has_levels has_labels =
      let first : Some anew.locations.levels ≡ Some levels = sym (ap (option_map (λ (k : KeptLocations). k.levels)) has_kept.1.2) ∙ lies_so Levels levels has_levels in
      let second : Some anew.locations.labels ≡ Some labels = sym (ap (option_map (λ (k : KeptLocations). k.labels)) has_kept.1.2) ∙ lies_so Labels labels has_labels in
      ap₂ (λ (x y : PlaneLocation). let k : KeptLocations = record { levels = x; labels = y } in k) (same_Some anew.locations.levels levels first) (same_Some anew.locations.labels labels second)

  -- The kept planes are whole, on pages that no committed tile reaches.
  pub whole_planes : (k : KeptLocations) → anew.locations ≡ k → AreWholeKept old.format k
  whole_planes k had = subst (AreWholeKept old.format) had anew.whole

  kept_within : (k : KeptLocations) → anew.locations ≡ k → (q : ℕ) → times q (pages_of_kept (Some k)) ≤ times q (reached new.staged)
  kept_within k had q =
      let t : TileLocation = has_kept.0 in
      let among = times_among pages_of_tile q new.staged t has_kept.1.0 in
      let split = times-append q (pages_of_plane t.heights) (pages_of_kept t.kept) in
      let own = ap (λ (o : Option KeptLocations). times q (pages_of_kept o)) (has_kept.1.2 ∙ ap Some had) in
      omega (arith, among, split, own)

  pages_within : (k : KeptLocations) → anew.locations ≡ k → (q : ℕ) → times q (k.levels.pages ++ k.labels.pages) ≤ times q (pages_of_kept (Some k))
  pages_within k had q =
      omega (arith, times-append q k.levels.pages k.labels.pages, times-append q (pages_of_plane k.levels) (pages_of_plane k.labels), times-append q (listing_of k.levels) k.levels.pages, times-append q (listing_of k.labels) k.labels.pages)

  pub pages_low : (k : KeptLocations) → anew.locations ≡ k → All (λ q. 4 ≤ q) (k.levels.pages ++ k.labels.pages)
  pages_low k had = all_of_fewer (λ q. 4 ≤ q) (k.levels.pages ++ k.labels.pages) (reached new.staged) (λ q. omega (arith, pages_within k had q, kept_within k had q)) rules.staged.page_rule.low

  pub pages_high : (k : KeptLocations) → anew.locations ≡ k → All (λ q. q < new.sectors) (k.levels.pages ++ k.labels.pages)
  pages_high k had = all_of_fewer (λ q. q < new.sectors) (k.levels.pages ++ k.labels.pages) (reached new.staged) (λ q. omega (arith, pages_within k had q, kept_within k had q)) rules.staged.page_rule.high

  pub pages_once : (k : KeptLocations) → anew.locations ≡ k → (q : ℕ) → times q (k.levels.pages ++ k.labels.pages) ≤ 1
  pages_once k had q = omega (arith, pages_within k had q, kept_within k had q, rules.staged.page_rule.once q)

  all_fresh : (k : KeptLocations) → anew.locations ≡ k → All (IsFresh new) (pages_of_kept (Some k))
  all_fresh k had = subst (λ (l : KeptLocations). All (IsFresh new) (pages_of_kept (Some l))) had anew.fresh

  unreached : (k : KeptLocations) → anew.locations ≡ k → (q : ℕ) → 1 ≤ times q (pages_of_kept (Some k)) → ¬ Contains (reached old.committed) q
  unreached k had q some = subst (λ (tiles : List TileLocation). ¬ Contains (reached tiles) q) committed_is (at_times (IsFresh new) q (pages_of_kept (Some k)) (all_fresh k had) some).unreached

  pub pages_unreached : (k : KeptLocations) → anew.locations ≡ k → All (λ q. ¬ Contains (reached old.committed) q) (k.levels.pages ++ k.labels.pages)
  pages_unreached k had = all_numbers (λ q. ¬ Contains (reached old.committed) q) (k.levels.pages ++ k.labels.pages) (λ q some. unreached k had q (omega (arith, some, pages_within k had q)))

  -- Their records and index pages aren't written before the commit.
  listed : (k : KeptLocations) → anew.locations ≡ k → (format : Format) (image : Image) → AreListedBy format old.committed image k
  listed k had format image = record { levels = by k.levels (λ q some. omega (arith, some, times-append q (pages_of_plane k.levels) (pages_of_plane k.labels))); labels = by k.labels (λ q some. omega (arith, some, times-append q (pages_of_plane k.levels) (pages_of_plane k.labels))) }
    where
      shared_not : (q : ℕ) → 1 ≤ times q (pages_of_kept (Some k)) → is_unreached old.committed q ≡ false → ⊥
      shared_not q some shared = let no : true ≡ false = sym (ap not (any_none (reached old.committed) q (unreached k had q some))) ∙ shared in cc

      by : (p : PlaneLocation) → ((q : ℕ) → 1 ≤ times q (pages_of_plane p) → 1 ≤ times q (pages_of_kept (Some k))) → IsListedBy format old.committed image p
      by p among = record {
        listed = λ shared. absurd (shared_not p.record_page (among p.record_page (omega (arith, times_here p.record_page p.record_page (pages_behind p) refl))) shared);
        indexed = λ t lt shared. absurd (shared_not (get_or p.index_pages t 0) (among (get_or p.index_pages t 0)
            (omega (arith, has_at p.index_pages t 0 lt, times-append (get_or p.index_pages t 0) (p.record_page ∷ []) (pages_behind p), times-append (get_or p.index_pages t 0) p.index_pages p.pages))) shared);
      }

  -- The pages of other staged planes weren't written.
  module _ (k : KeptLocations) (had : anew.locations ≡ k) (a b : Image) (others : (q : ℕ) → 4 ≤ q → times q (k.levels.pages ++ k.labels.pages) ≡ 0 → a q ≡ b q) where
    same : SameOn (reached old.staged) a b
    same =
        all_numbers (λ q. a q ≡ b q) (reached old.staged)
        (λ q some. others q (at_times (λ p. 4 ≤ p) q (reached old.staged) was.staged.page_rule.low some) (none q some))
      where
        none : (q : ℕ) → 1 ≤ times q (reached old.staged) → times q (k.levels.pages ++ k.labels.pages) ≡ 0
        none q some = elim (cases_eq (times q (k.levels.pages ++ k.labels.pages)) 0) [
          | inl zero_times ↦ zero_times
          | inr more ↦
              let committed = ap (λ (tiles : List TileLocation). times q (reached tiles)) (sym clean) in
              absurd (unreached k had q (omega (arith, more, pages_within k had q)) (member_of_times (reached old.committed) q (omega (arith, some, committed))))
        ]

    pub kept_staged : (planes : KeptPlanes) → kept_in b (Some k) ≡ Some planes → map (tile_in b) new.staged ≡ with_kept c planes (map (tile_in a) old.staged)
    kept_staged planes wrote =
        ap (map (tile_in b)) staged_is
        ∙ kept_tiles c anew.locations planes a b old.staged (ap (λ (l : KeptLocations). kept_in b (Some l)) had ∙ wrote) same

    pub kept_stays : (format : Format) → AreStaged format old.committed old.staged a → AreStaged format new.committed new.staged b
    kept_stays format staged =
        subst (λ (tiles : List TileLocation). AreStaged format tiles new.staged b) (sym committed_is)
        (subst (λ (tiles : List TileLocation). AreStaged format old.committed tiles b) (sym staged_is)
        (other_stays c (Some anew.locations) format old.committed b (subst (λ (l : KeptLocations). AreListedBy format old.committed b l) (sym had) (listed k had format b)) old.staged
        (still_records format old.committed old.staged a b same staged)))
