-- The corner's tile changes and the other tiles stay.
use Rattle.cow_tree.proofs.Prelude.{All, All-map, All-weaker, Bool, Contains, Corner, HasFreshHeights, IsFresh, List, PageMapValue, TileLocation, ℕ, [], ap, ap₂, corners_of_locations, false, if◌then◌else◌, is_at, map, reached, refl, same_from, subst, sym, true, ◌<◌, ◌∙◌, ◌∷◌, ◌≡◌}
use Rattle.cow_tree.proofs.Listed.Adding.{contains-map}

module _ (c : Corner) (f : TileLocation → TileLocation) (corner : (t : TileLocation) → (f t).corner ≡ t.corner) where
  abbrev changed : TileLocation → TileLocation
  changed t = if is_at c t then f t else t

  corner_same : (t : TileLocation) → (changed t).corner ≡ t.corner
  corner_same t = elim (is_at c t) as (λ (v : Bool). (if v then f t else t).corner ≡ t.corner) [ true ↦ corner t | false ↦ refl ]

  pub corners_still : (tiles : List TileLocation) → corners_of_locations (map changed tiles) ≡ corners_of_locations tiles
  corners_still [] = refl
  corners_still (t ∷ rest) = ap₂ (λ (x : Corner) (xs : List Corner). x ∷ xs) (corner_same t) (corners_still rest)

  pub all_changed : (P : TileLocation → Type 0) (tiles : List TileLocation) → ((t : TileLocation) → P t → P (f t)) → All P tiles → All P (map changed tiles)
  all_changed P tiles still had = All-map P changed tiles (All-weaker P (λ t. P (changed t)) each tiles had)
    where
      each : (t : TileLocation) → P t → P (changed t)
      each t has = elim (is_at c t) as (λ (v : Bool). P (if v then f t else t)) [ true ↦ still t has | false ↦ has ]

  pub tile_changed : (tiles : List TileLocation) (t : TileLocation) → Contains tiles t → t.corner ≡ c → Contains (map changed tiles) (f t)
  tile_changed tiles t among here =
      subst (Contains (map changed tiles)) (ap (λ (v : Bool). if v then f t else t) (same_from t.corner c here)) (contains-map changed tiles t among)

  -- which tiles have staged heights
  module _ (old new : PageMapValue) (changes : new ≡ record old { staged = map changed old.staged }) where
    staged_is : map changed old.staged ≡ new.staged
    staged_is = sym (ap (λ (x : PageMapValue). x.staged) changes)

    pub heights_here : (t : TileLocation) → Contains old.staged t → t.corner ≡ c → IsFresh new (f t).heights.record_page → HasFreshHeights c new
    heights_here t staged here fresh =
        (f t, (subst (λ (tiles : List TileLocation). Contains tiles (f t)) staged_is (tile_changed old.staged t staged here), corner t ∙ here, fresh))

    pub heights_still : ((t : TileLocation) → IsFresh new t.heights.record_page → IsFresh new (f t).heights.record_page) → (other : Corner) → HasFreshHeights other old → HasFreshHeights other new
    heights_still moved other (t, (staged, here, was)) = (
      changed t,
      (
        subst (λ (tiles : List TileLocation). Contains tiles (changed t)) staged_is (contains-map changed old.staged t staged),
        corner_same t ∙ here,
        elim (is_at c t) as (λ (v : Bool). IsFresh new (if v then f t else t).heights.record_page) [ true ↦ moved t still | false ↦ still ],
      ),
    )
      where
        still : IsFresh new t.heights.record_page
        still = record {
          low = was.low;
          high = subst (λ (n : ℕ). t.heights.record_page < n) (sym (ap (λ (x : PageMapValue). x.sectors) changes)) was.high;
          unreached = subst (λ (tiles : List TileLocation). ¬ Contains (reached tiles) t.heights.record_page) (sym (ap (λ (x : PageMapValue). x.committed) changes)) was.unreached;
        }
