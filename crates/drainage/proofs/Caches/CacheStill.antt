-- When one height changes, the flows that stay in the cache are right for the new mosaic.
use Rattle.std.proofs.Common.{◌≡◌, inl, inr, ℕ, ◌+◌, ◌*◌, ◌/◌, ◌%◌, ◌<◌, ◌≤◌, ℤ, true, ◌&&◌, ◌||◌, not, IsTrue, Option, Some, None, List, length, get_or, refl, sym, ap, ◌∙◌, subst, arith}
use Rattle.drainage.proofs.Prelude.{AreFilledLevels, AreFlowsLeft, AreSlotsOf, At, Contains, Corner, Decides-int_eq, DifferAt, Dir, DrainageCache, Flow, FlowCache, IsCacheOf, IsCovered, IsFlow, IsGridOf, IsHeldOf, IsMosaic, IsSetTo, IsSparedFrom, LevelRange, LiesApart, Mosaic, Point, Unknown, and_parts, are_spared, cases_Bool, false≢true, flow_cache_right, height_of, if◌then◌else◌, int_eq, int_lt, ints, is_adjacent, is_ground, is_height, mosaic_is_full, or_cases, padded_point, point_of, row_below, same_place, slot_ranges, square_some, step, terrain, tile_below, void}
use Rattle.lattice.proofs.IntTests.{lt_true}
use Rattle.flow_cache.specs.LevelRanges.{block_of, range_at, HasEnds, HasLevel, spared_of, AreKnownAround, AreRangesOf, AreSpared}
use Rattle.water.specs.Ranges.{IsIn, is_range_spared}
use Rattle.flow_d8.specs.Tiles.{Tiles, no_corner, count_of, place_of}
use Rattle.flow_cache.proofs.Caches.FlowCaches.{known_below}
use Rattle.flow_d8.proofs.Sayings.Draining.{decide_known}
use Rattle.flow_d8.specs.PresentTiles.{corners_of}
use Rattle.flow_cache.proofs.Changes.LevelRanges.{ends_as}
use Rattle.flow_d8.proofs.Padded.PaddedPlaces.{row_by, column_by, point_is, row_near, column_near}
use Rattle.drainage.proofs.Questions.LevelFunctions.{level_function}
use Rattle.drainage.proofs.Changes.OutsideRange.{ground, stays, flow_stays}
use Rattle.levels.proofs.Changes.SparedLevels.{spared_twice}

none_some : (r : LevelRange) → ◌≡◌ {A = Option LevelRange} None (Some r) → ⊥
none_some r e = cc

-- ---- ranges that the change can't affect
spared_apart : (was is : ℤ) (r : LevelRange) (v : ℤ) → is_range_spared was is r ≡ true → IsIn (Some r) v → LiesApart was is v
spared_apart was is r v spared at =
    let sides = (and_parts (not (int_eq is void)) ((int_lt r.greatest was && int_lt r.greatest is) || (int_lt was r.least && int_lt is r.least)) spared).1 in
    let low = at.0 in
    let high = at.1 in
    elim (or_cases (int_lt r.greatest was && int_lt r.greatest is) (int_lt was r.least && int_lt is r.least) sides) [
      | inl below ↦
          let both = and_parts (int_lt r.greatest was) (int_lt r.greatest is) below in
          let a = lt_true r.greatest was both.0 in
          let b = lt_true r.greatest is both.1 in
          inl (omega (arith, ints), omega (arith, ints))
      | inr above ↦
          let both = and_parts (int_lt was r.least) (int_lt is r.least) above in
          let a = lt_true was r.least both.0 in
          let b = lt_true is r.least both.1 in
          inr (omega (arith, ints), omega (arith, ints))
    ]

-- a range that stays isn't affected, so each of its levels lies outside the two heights
known_apart : (was is : ℤ) (o : Option LevelRange) (v : ℤ) → (spared_of was is o ≡ None → ⊥) → IsIn o v → LiesApart was is v
known_apart was is None v known at = absurd (known refl)
known_apart was is (Some r) v known at = elim (cases_Bool (is_range_spared was is r)) [
  | inl spared ↦ spared_apart was is r v spared at
  | inr other ↦ absurd (known (ap (λ b. if b then Some r else None) other))
]

-- levels of such a range stay in it
in_still : (was is : ℤ) (o : Option LevelRange) (v w : ℤ) → (LiesApart was is v → w ≡ v) → IsIn o v → IsIn (spared_of was is o) w
in_still was is None v w still at = tt
in_still was is (Some r) v w still at = elim (cases_Bool (is_range_spared was is r)) [
  | inl spared ↦ subst (λ b. IsIn (if b then Some r else None) w) (sym spared) (subst (IsIn (Some r)) (sym (still (spared_apart was is r v spared at))) at)
  | inr other ↦ subst (λ b. IsIn (if b then Some r else None) w) (sym other) tt
]

-- a range that is known after the change was known before it, and isn't affected
left_range : (was is : ℤ) (o : Option LevelRange) (r : LevelRange) → spared_of was is o ≡ Some r → (o ≡ Some r) × (is_range_spared was is r ≡ true)
left_range was is None r at = absurd (none_some r at)
left_range was is (Some q) r at = elim (cases_Bool (is_range_spared was is q)) [
  | inl spared ↦
      let same : q ≡ r = some_same q r (sym (ap (λ b. if b then Some q else None) spared) ∙ at) in
      (ap Some same, subst (λ x. is_range_spared was is x ≡ true) same spared)
  | inr other ↦ absurd (none_some r (sym (ap (λ b. if b then Some q else None) other) ∙ at))
]
  where
    some_same : (a b : LevelRange) → ◌≡◌ {A = Option LevelRange} (Some a) (Some b) → a ≡ b
    some_same a b e = cc

-- the point of a sample's place in the square is the sample's point
sample_point : (n : ℕ) (c : Corner) (e : ℕ) → 1 ≤ n → padded_point n c (e / n + 2) (e % n + 2) ≡ point_of n c e
sample_point n c e some = same_place (padded_point n c (e / n + 2) (e % n + 2)) (point_of n c e) (omega (arith, ints)) (omega (arith, ints))

module _ (m new : Mosaic) (p : Point) (valid : IsMosaic m) (differ : DifferAt m new p) (was is : ℤ) (before : height_of m p ≡ At was) (after : height_of new p ≡ At is) (from to : ℤ)
    (closer : (v : ℤ) → LiesApart from to v → LiesApart was is v) where
  abbrev level : Point → ℤ
  level = (level_function m valid).0

  filled : AreFilledLevels (terrain m) level
  filled = (level_function m valid).1

  module _ (level' : Point → ℤ) (filled' : AreFilledLevels (terrain new) level') where
    ground_back : (q : Point) → IsTrue (is_ground new q) → IsTrue (is_ground m q)
    ground_back q on = sym (ground m new p differ was is before after level level' filled filled' q) ∙ on

    -- levels are still in the ranges that remain
    ranges_stay : (n : ℕ) (c : Corner) (old left : List (Option LevelRange)) → AreSpared from to old left → AreRangesOf n m c old → (i j : ℕ) → i < n + 4 → j < n + 4 → IsTrue (is_ground new (padded_point n c i j))
        → IsIn (range_at left (block_of i j)) (level' (padded_point n c i j))
    ranges_stay n c old left spared ranges i j row column on =
        let q = padded_point n c i j in
        let on_m = ground_back q on in
        subst (λ o. IsIn o (level' q)) (sym (spared.each (block_of i j)))
        (in_still from to (range_at old (block_of i j)) (level q) (level' q) (λ apart. stays m new p differ was is before after level level' filled filled' q on_m (closer (level q) apart)) (ranges.within level filled i j row column on_m))

    -- the ends of the remaining ranges are still levels
    ends_stay : (n : ℕ) (c : Corner) (old left : List (Option LevelRange)) → AreSpared from to old left → AreRangesOf n m c old → (b : ℕ) (r : LevelRange) → range_at left b ≡ Some r → HasEnds r (HasLevel n new c level' b)
    ends_stay n c old left spared ranges b r known =
        let was_known = left_range from to (range_at old b) r (sym (spared.each b) ∙ known) in
        ends_as r (HasLevel n m c level b) (HasLevel n new c level' b)
        (λ v (i, j, row, column, block, on, at).
        let q = padded_point n c i j in
        let within : IsIn (Some r) (level q) = subst (λ o. IsIn o (level q)) (ap (range_at old) block ∙ was_known.0) (ranges.within level filled i j row column on) in (
          i,
          j,
          row,
          column,
          block,
          ground m new p differ was is before after level level' filled filled' q ∙ on,
          stays m new p differ was is before after level level' filled filled' q on (closer (level q) (spared_apart from to r (level q) was_known.1 within)) ∙ at,
        ))
        (ranges.ends level filled b r was_known.0)

    -- a sample's known flow is right for the new mosaic
    module _ (n : ℕ) (side : 3 ≤ n) (c : Corner) (old left : List (Option LevelRange)) (spared : AreSpared from to old left) (ranges : AreRangesOf n m c old) (e : ℕ) (inside : e < n * n) (known : AreKnownAround left n e) where
      apart_at : (i j : ℕ) → e / n + 1 ≤ i → i ≤ e / n + 3 → e % n + 1 ≤ j → j ≤ e % n + 3 → IsTrue (is_ground m (padded_point n c i j)) → LiesApart was is (level (padded_point n c i j))
      apart_at i j up down left_of right on =
          let some : 0 < n = omega (arith, side) in
          let row : e / n < n = row_below n e some inside in
          let column : e % n < n = omega (arith, some) in
          closer (level (padded_point n c i j)) (known_apart from to (range_at old (block_of i j)) (level (padded_point n c i j)) (λ none. known i j up down left_of right (spared.each (block_of i j) ∙ none))
          (ranges.within level filled i j (omega (arith, row, down)) (omega (arith, column, right)) on))

      here : IsTrue (is_ground m (point_of n c e)) → LiesApart was is (level (point_of n c e))
      here = subst (λ q. IsTrue (is_ground m q) → LiesApart was is (level q)) (sample_point n c e (omega (arith, side)))
          (apart_at (e / n + 2) (e % n + 2) (omega arith) (omega arith) (omega arith) (omega arith))

      around : (r : Point) → IsTrue (is_adjacent m (point_of n c e) r) → LiesApart was is (level r)
      around r near =
          let way = (mosaic_is_full m valid).stepped.steps (point_of n c e) r near in
          let d : Dir = way.0 in
          let i = e / n + 2 in
          let j = e % n + 2 in
          let rows = row_near i d in
          let columns = column_near j d in
          let at : padded_point n c (row_by i d) (column_by j d) ≡ r = point_is n c i j (omega arith) (omega arith) d ∙ (ap (step d) (sample_point n c e (omega (arith, side))) ∙ sym way.1) in
          subst (λ q. IsTrue (is_ground m q) → LiesApart was is (level q)) at
          (apart_at (row_by i d) (column_by j d) (omega (arith, rows.0)) (omega (arith, rows.1)) (omega (arith, columns.0)) (omega (arith, columns.1)))
          ((mosaic_is_full m valid).stepped.lawful.to_ground (point_of n c e) r near)

      sample_stays : (f : Flow) → IsFlow (terrain m) level (point_of n c e) f → IsFlow (terrain new) level' (point_of n c e) f
      sample_stays = flow_stays m new p differ was is before after level level' filled filled' (point_of n c e) here around

  pub cache_still : (old left : FlowCache) → IsSparedFrom from to old left → IsCacheOf m old → IsCacheOf new left
  unfolding place_of
  cache_still old left spared right =
      let tiles = old.grid.tiles in
      let n = tiles.side in
      let area = n * n in
      let side : 3 ≤ n = subst (λ k. 3 ≤ k) (sym right.grid.same_side) valid.side_low in
      let some : 0 < area = square_some n side in
      record {
        grid = record {
          same_side = ap (λ (t : Tiles). t.side) spared.tiles ∙ (right.grid.same_side ∙ sym differ.around.same_side);
          present = subst (λ (t : Tiles). (i : ℕ) → i < length t.corners → Contains (corners_of new) (get_or t.corners i no_corner)) (sym spared.tiles)
              (λ i small. subst (λ (cs : List Corner). Contains cs (get_or tiles.corners i no_corner)) (sym differ.around.same_corners) (right.grid.present i small));
          told = λ level' filled' k. elim (decide_known (get_or left.grid.flows.items k Unknown)) [
            | inl nothing ↦ subst (IsFlow (terrain new) level' (place_of left.grid.tiles k)) (sym nothing) tt
            | inr known ↦
                let covered : IsCovered left.grid.tiles left.slots.items k = left.covered k known in
                let small : k < count_of tiles = subst (λ (t : Tiles). k < count_of t) spared.tiles (known_below left k known) in
                let i = k / area in
                let e = k % area in
                let tile : i < length tiles.corners = tile_below area (length tiles.corners) k some small in
                let inside : e < area = omega (arith, some) in
                subst (λ (t : Tiles). IsFlow (terrain new) level' (place_of t k) (get_or left.grid.flows.items k Unknown)) (sym spared.tiles)
                (subst (IsFlow (terrain new) level' (place_of tiles k)) (sym (spared.kept k covered))
                (sample_stays level' filled' n side (get_or tiles.corners i no_corner) (slot_ranges old.slots.items i) (slot_ranges left.slots.items i) (spared.slots.each i) (right.slots i tile) e inside
                (subst (λ (t : Tiles). IsCovered t left.slots.items k) spared.tiles covered) (get_or old.grid.flows.items k Unknown) (right.grid.told level filled k)))
          ];
        };
        slots = subst (λ (t : Tiles). AreSlotsOf new t left.slots.items) (sym spared.tiles)
            (λ i small. let ranges = right.slots i small in record {
              within = λ level' filled'. ranges_stay level' filled' n (get_or tiles.corners i no_corner) (slot_ranges old.slots.items i) (slot_ranges left.slots.items i) (spared.slots.each i) ranges;
              ends = λ level' filled'. ends_stay level' filled' n (get_or tiles.corners i no_corner) (slot_ranges old.slots.items i) (slot_ranges left.slots.items i) (spared.slots.each i) ranges;
            });
      }

-- the cache is right after some results are dropped
pub cache_fewer : (m : Mosaic) (was is : ℤ) (old left : FlowCache) → IsSparedFrom was is old left → IsCacheOf m old → IsCacheOf m left
cache_fewer m was is old left spared right = record {
  grid = subst (λ (t : Tiles). IsGridOf m t left.grid.flows.items) (sym spared.tiles) (record {
    same_side = right.grid.same_side;
    present = right.grid.present;
    told = λ level filled k. elim (decide_known (get_or left.grid.flows.items k Unknown)) [
      | inl nothing ↦ subst (IsFlow (terrain m) level (place_of old.grid.tiles k)) (sym nothing) tt
      | inr known ↦ subst (IsFlow (terrain m) level (place_of old.grid.tiles k)) (sym (spared.kept k (left.covered k known))) (right.grid.told level filled k)
    ];
  });
  slots = subst (λ (t : Tiles). AreSlotsOf m t left.slots.items) (sym spared.tiles)
      (λ i small. record {
        within = λ level filled h j row column on.
            let q = padded_point old.grid.tiles.side (get_or old.grid.tiles.corners i no_corner) h j in
            subst (λ o. IsIn o (level q)) (sym ((spared.slots.each i).each (block_of h j)))
            (in_still was is (range_at (slot_ranges old.slots.items i) (block_of h j)) (level q) (level q) (λ _. refl) ((right.slots i small).within level filled h j row column on));
        ends = λ level filled b r known. (right.slots i small).ends level filled b r (left_range was is (range_at (slot_ranges old.slots.items i) b) r (sym ((spared.slots.each i).each b) ∙ known)).0;
      });
}

-- when a point becomes void, no range remains known
none_spared : (was : ℤ) (o : Option LevelRange) → spared_of was void o ≡ None
none_spared was None = refl
none_spared was (Some r) = refl

cache_gone : (m new : Mosaic) (p : Point) → DifferAt m new p → (was : ℤ) (old left : FlowCache) → IsSparedFrom was void old left → IsCacheOf m old → IsCacheOf new left
cache_gone m new p differ was old left spared right = record {
  grid = subst (λ (t : Tiles). IsGridOf new t left.grid.flows.items) (sym spared.tiles) (record {
    same_side = right.grid.same_side ∙ sym differ.around.same_side;
    present = λ i small. subst (λ (cs : List Corner). Contains cs (get_or old.grid.tiles.corners i no_corner)) (sym differ.around.same_corners) (right.grid.present i small);
    told = λ level filled k. elim (decide_known (get_or left.grid.flows.items k Unknown)) [
      | inl nothing ↦ subst (IsFlow (terrain new) level (place_of old.grid.tiles k)) (sym nothing) tt
      | inr known ↦
          let n = left.grid.tiles.side in
          let e = k % (n * n) in
          absurd (left.covered k known (e / n + 2) (e % n + 2) (omega arith) (omega arith) (omega arith) (omega arith) (gone (k / (n * n)) (block_of (e / n + 2) (e % n + 2))))
    ];
  });
  slots = λ i small. record {
    within = λ level filled h j row column on. subst (λ o. IsIn o (level (padded_point left.grid.tiles.side (get_or left.grid.tiles.corners i no_corner) h j))) (sym (gone i (block_of h j))) tt;
    ends = λ level filled b r known. absurd (none_some r (sym (gone i b) ∙ known));
  };
}
  where
    gone : (i b : ℕ) → range_at (slot_ranges left.slots.items i) b ≡ None
    gone i b = (spared.slots.each i).each b ∙ none_spared was (range_at (slot_ranges old.slots.items i) b)

module _ (m : Mosaic) (was is : ℤ) where
  fewer : (old left : Option FlowCache) → are_spared was is old left → flow_cache_right m old → flow_cache_right m left
  fewer None left spared right = subst (flow_cache_right m) (sym spared) tt
  fewer (Some old) left spared right = subst (flow_cache_right m) (sym spared.1.0) (cache_fewer m was is old spared.0 spared.1.1 right)

  pub flows_left : (held left : DrainageCache) → AreFlowsLeft was is held left → IsHeldOf m held → flow_cache_right m left.flow_cache
  flows_left held left are right = fewer held.flow_cache left.flow_cache are right.flow_cache

module _ (m new : Mosaic) (p : Point) (valid : IsMosaic m) (differ : DifferAt m new p) (was is : ℤ) (before : height_of m p ≡ At was) (set : IsSetTo m new p is) where
  cache_set : (old left : FlowCache) → IsSparedFrom was is old left → IsCacheOf m old → IsCacheOf new left
  cache_set old left spared right = elim (cases_Bool (int_eq is void)) [
    | inl none ↦ cache_gone m new p differ was old left (subst (λ v. IsSparedFrom was v old left) ((Decides-int_eq is void).0 none) spared) right
    | inr some ↦ elim set [
      | inl unmoved ↦ cache_still m new p valid differ was was before (unmoved ∙ before) was is (spared_twice m new p differ was is) old left spared right
      | inr to ↦ cache_still m new p valid differ was is before (to (λ void_is. false≢true (sym some ∙ (Decides-int_eq is void).1 void_is)) (ap is_height before)) was is (λ v apart. apart) old left spared right
    ]
  ]

  set_right : (old left : Option FlowCache) → are_spared was is old left → flow_cache_right m old → flow_cache_right new left
  set_right None left spared right = subst (flow_cache_right new) (sym spared) tt
  set_right (Some old) left spared right = subst (flow_cache_right new) (sym spared.1.0) (cache_set old spared.0 spared.1.1 right)

  pub flows_set : (held left : DrainageCache) → AreFlowsLeft was is held left → IsHeldOf m held → flow_cache_right new left.flow_cache
  flows_set held left are right = set_right held.flow_cache left.flow_cache are right.flow_cache
