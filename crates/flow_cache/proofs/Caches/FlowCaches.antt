-- A flow cache stays right as tiles are added, filled and evicted.
use Rattle.std.proofs.Common.{◌≡◌, ◌≢◌, ℕ, zero, suc, ◌+◌, ◌-◌, ◌*◌, ◌/◌, ◌%◌, ◌<◌, ◌≤◌, ℤ, IsTrue, List, [], ◌∷◌, ◌++◌, Option, length, get_or, set, inl, inr, refl, sym, ap, ◌∙◌, subst, arith}
use Rattle.flow_cache.proofs.Prelude.{AreCovered, AreFilledLevels, AreFlows, AreKnownAround, ArePadded, AreSlotsOf, AreTileFlows, Corner, Flow, FlowCache, FlowGrid, IsCacheOf, IsFlow, IsGridOf, IsMosaic, LevelRange, Mosaic, Point, Slot, Unknown, as_before, at_end, cases_Bool, cases_eq, cases_lt, get_or_append_left, get_or_past, is_ground, level_is_unique, longer, mul-add-lt, mul-le-mul_right, padded_point, point_of, terrain, tile_below, void}
use Rattle.std.proofs.lemmas.List.{get_or-append_right}
use Rattle.std.proofs.lemmas.Nat.{div-mul-add, mod-mul-add}
use Rattle.flow_d8.proofs.Samples.Inside.{tile_and_index}
use Rattle.flow_d8.specs.FlowGrids.{AreFilledIn, IsCut}
use Rattle.flow_d8.proofs.Sayings.Draining.{decide_known}
use Rattle.std.proofs.lemmas.Option.{slice_get_read, slice_get_past}
use Rattle.flow_cache.specs.LevelRanges.{AreKnownAll, block_of, range_at, HasLevel, HasLevelTo, AreRanges, AreRangesOf}
use Rattle.water.specs.Ranges.{IsIn}
use Rattle.flow_cache.specs.Slots.{ranges_of, slot_ranges}
use Rattle.flow_d8.specs.Tiles.{Tiles, count_of, no_corner, place_of, OnGround}
use Rattle.flow_cache.proofs.Changes.LevelRanges.{ends_as}
use Rattle.flow_d8.proofs.Samples.GridFacts.{grid_resolved}
use Rattle.flow_d8.proofs.Steps.Nearby.{never_void}

-- ---- the ranges of one slot
pub slot_read : (slots : List Slot) (k : ℕ) (s : Slot) → k < length slots → s ≡ get_or slots k s → slot_ranges slots k ≡ s.ranges.items
slot_read slots k s below is = ap ranges_of (slice_get_read slots (length slots) k s refl below is)

pub slot_past : (slots : List Slot) (k : ℕ) → length slots ≤ k → slot_ranges slots k ≡ []
slot_past slots k past = ap ranges_of (slice_get_past slots k past)

pub slot_set_same : (slots : List Slot) (k : ℕ) (s : Slot) → k < length slots → slot_ranges (set slots k s) k ≡ s.ranges.items
slot_set_same [] k s below = absurd (omega arith)
slot_set_same (x ∷ xs) zero s below = refl
slot_set_same (x ∷ xs) (suc k) s below = slot_set_same xs k s (omega arith)

pub slot_set_other : (slots : List Slot) (k i : ℕ) (s : Slot) → i ≢ k → slot_ranges (set slots k s) i ≡ slot_ranges slots i
slot_set_other [] k i s other = refl
slot_set_other (x ∷ xs) zero zero s other = absurd (other refl)
slot_set_other (x ∷ xs) zero (suc i) s other = refl
slot_set_other (x ∷ xs) (suc k) zero s other = refl
slot_set_other (x ∷ xs) (suc k) (suc i) s other = slot_set_other xs k i s (λ e. other (ap suc e))

pub slot_before : (slots : List Slot) (s : Slot) (i : ℕ) → i < length slots → slot_ranges (slots ++ s ∷ []) i ≡ slot_ranges slots i
slot_before [] s i small = absurd (omega (arith, small))
slot_before (x ∷ xs) s zero small = refl
slot_before (x ∷ xs) s (suc i) small = slot_before xs s i (omega (arith, small))

pub slot_last : (slots : List Slot) (s : Slot) → slot_ranges (slots ++ s ∷ []) (length slots) ≡ s.ranges.items
slot_last [] s = refl
slot_last (x ∷ xs) s = slot_last xs s

-- a sample with a known flow belongs to a cached tile
pub known_below : (cache : FlowCache) (k : ℕ) → (get_or cache.grid.flows.items k Unknown ≡ Unknown → ⊥) → k < count_of cache.grid.tiles
known_below cache k known = elim (cases_lt k (length cache.grid.flows.items)) [
  | inl small ↦ subst (λ n. k < n) cache.grid.whole small
  | inr past ↦ absurd (known (get_or_past cache.grid.flows.items k Unknown past))
]

-- known flows stay covered if no new flow becomes known and no range changes
pub covered_still : (tiles : Tiles) (flows new_flows : List Flow) (slots new_slots : List Slot) → ((k : ℕ) → (get_or new_flows k Unknown ≡ Unknown → ⊥) → get_or flows k Unknown ≡ Unknown → ⊥)
    → ((i : ℕ) → slot_ranges new_slots i ≡ slot_ranges slots i) → AreCovered tiles flows slots → AreCovered tiles new_flows new_slots
covered_still tiles flows new_flows slots new_slots fewer same covered k known =
    subst (λ (r : List (Option LevelRange)). AreKnownAround r tiles.side (k % (tiles.side * tiles.side))) (sym (same (k / (tiles.side * tiles.side)))) (covered k (fewer k known))

-- replacing a slot by one with the same ranges changes no range
pub slot_used : (slots : List Slot) (k : ℕ) (s new : Slot) → k < length slots → s ≡ get_or slots k s → new.ranges.items ≡ s.ranges.items → (i : ℕ) → slot_ranges (set slots k new) i ≡ slot_ranges slots i
slot_used slots k s new below is same i = elim (cases_eq i k) [
  | inl at ↦ ap (slot_ranges (set slots k new)) at ∙ (slot_set_same slots k new below ∙ (same ∙ (sym (slot_read slots k s below is) ∙ ap (slot_ranges slots) (sym at))))
  | inr off ↦ slot_set_other slots k i new off
]

pub area_some : (count area k : ℕ) → k < count * area → 0 < area
area_some count area k small = elim (cases_eq area 0) [
  | inl none ↦ let less : k < count * 0 = subst (λ a. k < count * a) none small in absurd (omega (arith, less))
  | inr some ↦ omega (arith, some)
]

-- known flows stay covered when a tile is added whose samples are all covered
pub covered_push : (tiles new : Tiles) (flows bytes new_flows : List Flow) (slots new_slots : List Slot) (c : Corner) (ranges : List (Option LevelRange)) → new.side ≡ tiles.side → new.corners ≡ tiles.corners ++ c ∷ [] → new_flows ≡ flows ++ bytes
    → length flows ≡ count_of tiles → length bytes ≡ tiles.side * tiles.side → slot_ranges new_slots (length tiles.corners) ≡ ranges → ((i : ℕ) → i < length tiles.corners → slot_ranges new_slots i ≡ slot_ranges slots i)
    → AreKnownAll tiles.side ranges → AreCovered tiles flows slots → AreCovered new new_flows new_slots
covered_push tiles new flows bytes new_flows slots new_slots c ranges side corners items whole full last others all covered k known =
    let n = tiles.side in
    let area = n * n in
    subst (λ s. AreKnownAround (slot_ranges new_slots (k / (s * s))) s (k % (s * s))) (sym side) (elim (cases_lt k (length flows)) [
      | inl before ↦
          let small : k < length tiles.corners * area = subst (λ l. k < l) whole before in
          let tile : k / area < length tiles.corners = tile_below area (length tiles.corners) k (area_some (length tiles.corners) area k small) small in
          subst (λ (r : List (Option LevelRange)). AreKnownAround r n (k % area)) (sym (others (k / area) tile))
          (covered k (λ nothing. known (ap (λ (l : List Flow). get_or l k Unknown) items ∙ (get_or_append_left flows bytes Unknown k before ∙ nothing))))
      | inr past ↦
          let e = k - length flows in
          let at : get_or new_flows k Unknown ≡ get_or bytes e Unknown = ap (λ (l : List Flow). get_or l k Unknown) items ∙ get_or-append_right flows bytes (length flows) k Unknown refl past in
          let small : e < area = elim (cases_lt e (length bytes)) [
            | inl in_bytes ↦ subst (λ l. e < l) full in_bytes
            | inr beyond ↦ absurd (known (at ∙ get_or_past bytes e Unknown beyond))
          ] in
          let split : k ≡ length tiles.corners * area + e = omega (arith, past, whole) in
          let its_tile : k / area ≡ length tiles.corners = ap (λ j. j / area) split ∙ div-mul-add (length tiles.corners) area e small in
          let its_index : k % area ≡ e = ap (λ j. j % area) split ∙ mod-mul-add (length tiles.corners) area e small in
          subst (λ (r : List (Option LevelRange)). AreKnownAround r n (k % area)) (sym (ap (slot_ranges new_slots) its_tile ∙ last)) (subst (AreKnownAround ranges n) (sym its_index) (all e small))
    ])

-- known flows stay covered when a tile is evicted and the last one takes its slot
pub covered_swap : (tiles new : Tiles) (flows new_flows : List Flow) (slots new_slots : List Slot) (slot : ℕ) → new.side ≡ tiles.side → IsCut (tiles.side * tiles.side) (length new.corners) slot flows new_flows
    → (slot < length new.corners → slot_ranges new_slots slot ≡ slot_ranges slots (length new.corners)) → ((i : ℕ) → i ≢ slot → i < length new.corners → slot_ranges new_slots i ≡ slot_ranges slots i)
    → AreCovered tiles flows slots → AreCovered new new_flows new_slots
covered_swap tiles new flows new_flows slots new_slots slot side cut moved kept covered k known =
    let n = tiles.side in
    let area = n * n in
    let last = length new.corners in
    let small : k < last * area = elim (cases_lt k (length new_flows)) [
      | inl within ↦ subst (λ l. k < l) cut.whole within
      | inr past ↦ absurd (known (get_or_past new_flows k Unknown past))
    ] in
    let some : 0 < area = area_some last area k small in
    let tile : k / area < last = tile_below area last k some small in
    subst (λ s. AreKnownAround (slot_ranges new_slots (k / (s * s))) s (k % (s * s))) (sym side) (elim (cases_eq (k / area) slot) [
      | inl at ↦
          let e = k % area in
          let index : e < area = omega (arith, some) in
          let in_slot : slot < last = subst (λ q. q < last) at tile in
          let split : k ≡ slot * area + e = sym (ap (λ q. q * area + e) (sym at) ∙ tile_and_index area k) in
          let j = last * area + e in
          let from_known : get_or flows j Unknown ≡ Unknown → ⊥ = λ nothing. known (ap (λ i. get_or new_flows i Unknown) split ∙ (cut.moved in_slot e index ∙ nothing)) in
          let was = covered j from_known in
          subst (λ (r : List (Option LevelRange)). AreKnownAround r n e) (sym (ap (slot_ranges new_slots) at ∙ moved in_slot))
          (subst (λ q. AreKnownAround (slot_ranges slots q) n e) (div-mul-add last area e index) (subst (AreKnownAround (slot_ranges slots (j / area)) n) (mod-mul-add last area e index) was))
      | inr off ↦
          subst (λ (r : List (Option LevelRange)). AreKnownAround r n (k % area)) (sym (kept (k / area) off tile))
          (covered k (λ nothing. known (cut.others k (subst (λ l. k < l) (sym cut.whole) small) off ∙ nothing)))
    ])

-- the index of a sample, from its slot and its index in the tile
pub in_slot : (tiles : Tiles) (slot k : ℕ) → k / (tiles.side * tiles.side) ≡ slot → k ≡ slot * (tiles.side * tiles.side) + k % (tiles.side * tiles.side)
in_slot tiles slot k at = sym (ap (λ q. q * (tiles.side * tiles.side) + k % (tiles.side * tiles.side)) (sym at) ∙ tile_and_index (tiles.side * tiles.side) k)

pub off_slot : (tiles : Tiles) (slot k : ℕ) → k / (tiles.side * tiles.side) ≢ slot → slot * (tiles.side * tiles.side) ≤ k → k < slot * (tiles.side * tiles.side) + tiles.side * tiles.side → ⊥
off_slot tiles slot k off from to =
    let area = tiles.side * tiles.side in
    let e = k - slot * area in
    let split : k ≡ slot * area + e = omega (arith, from) in
    off (ap (λ j. j / area) split ∙ div-mul-add slot area e (omega (arith, from, to)))

module _ (m : Mosaic) where
  -- ranges stay right while the tiles and the ranges are unchanged
  slots_still : (g h : FlowGrid) (slots new : List Slot) → h ≡ g → ((i : ℕ) → slot_ranges new i ≡ slot_ranges slots i) → AreSlotsOf m g.tiles slots → AreSlotsOf m h.tiles new
  slots_still g h slots new grid same right = subst (λ (k : FlowGrid). AreSlotsOf m k.tiles new) (sym grid) (λ i small. subst (AreRangesOf g.tiles.side m (get_or g.tiles.corners i no_corner)) (sym (same i)) (right i small))

  pub same_cache : (old new : FlowCache) → new.grid ≡ old.grid → ((i : ℕ) → slot_ranges new.slots.items i ≡ slot_ranges old.slots.items i) → IsCacheOf m old → IsCacheOf m new
  same_cache old new grid same right = record {
    grid = subst (λ (g : FlowGrid). IsGridOf m g.tiles g.flows.items) (sym grid) right.grid;
    slots = slots_still old.grid new.grid old.slots.items new.slots.items grid same right.slots;
  }

  -- the cache stays right when a flat is resolved
  pub cache_resolved : IsMosaic m → (old new : FlowCache) → new.grid.tiles ≡ old.grid.tiles → OnGround old.grid.tiles old.grid.flows.items (λ t level. AreFlows t level (place_of new.grid.tiles) new.grid.flows.items)
      → new.slots.items ≡ old.slots.items → IsCacheOf m old → IsCacheOf m new
  cache_resolved is old new same facts slots right = record {
    grid = grid_resolved m is old.grid.tiles new.grid.tiles old.grid.flows.items new.grid.flows.items same facts right.grid;
    slots = subst (λ (t : Tiles). AreSlotsOf m t new.slots.items) (sym same) (subst (AreSlotsOf m old.grid.tiles) (sym slots) right.slots);
  }

  -- ranges stay right when a tile is added
  pub slots_push : (tiles new : Tiles) (slots new_slots : List Slot) (c : Corner) (ranges : List (Option LevelRange)) → new.side ≡ tiles.side → new.corners ≡ tiles.corners ++ c ∷ []
      → slot_ranges new_slots (length tiles.corners) ≡ ranges → ((i : ℕ) → i < length tiles.corners → slot_ranges new_slots i ≡ slot_ranges slots i)
      → AreRangesOf tiles.side m c ranges → AreSlotsOf m tiles slots → AreSlotsOf m new new_slots
  slots_push tiles new slots new_slots c ranges side is last others right so i small =
      subst (λ n. AreRangesOf n m (get_or new.corners i no_corner) (slot_ranges new_slots i)) (sym side)
      (elim (cases_lt i (length tiles.corners)) [
        | inl before ↦
            subst (λ d. AreRangesOf tiles.side m d (slot_ranges new_slots i)) (sym (as_before tiles.corners new.corners c is i before))
            (subst (AreRangesOf tiles.side m (get_or tiles.corners i no_corner)) (sym (others i before)) (so i before))
        | inr past ↦
            let at : i ≡ length tiles.corners = omega (arith, small, past, longer tiles.corners new.corners c is) in
            subst (λ d. AreRangesOf tiles.side m d (slot_ranges new_slots i)) (sym (ap (λ k. get_or new.corners k no_corner) at ∙ at_end tiles.corners new.corners c is))
            (subst (AreRangesOf tiles.side m c) (sym (ap (slot_ranges new_slots) at ∙ last)) right)
      ])

  -- a tile's flows stay right when its unknown flows are filled in from a prepared tile
  pub grid_filled : (tiles : Tiles) (slot : ℕ) (bytes old new : List Flow) → AreFilledIn (slot * (tiles.side * tiles.side)) (tiles.side * tiles.side) bytes old new → 0 < tiles.side * tiles.side
      → AreTileFlows m (get_or tiles.corners slot no_corner) bytes → IsGridOf m tiles old → IsGridOf m tiles new
  unfolding place_of
  grid_filled tiles slot bytes old new filled some prepared right = record {
    same_side = right.same_side;
    present = right.present;
    told = λ level full k. elim (decide_known (get_or old k Unknown)) [
      | inr known ↦ subst (IsFlow (terrain m) level (place_of tiles k)) (sym (filled.known k known)) (right.told level full k)
      | inl nothing ↦ elim (cases_eq (k / (tiles.side * tiles.side)) slot) [
        | inr off ↦ subst (IsFlow (terrain m) level (place_of tiles k)) (sym (filled.others k (off_slot tiles slot k off))) (right.told level full k)
        | inl at ↦
            let n = tiles.side in
            let e = k % (n * n) in
            let inside : e < n * n = omega (arith, some) in
            let split : k ≡ slot * (n * n) + e = in_slot tiles slot k at in
            let is : get_or new k Unknown ≡ get_or bytes e Unknown =
            ap (λ j. get_or new j Unknown) split ∙ filled.filled e inside (ap (λ j. get_or old j Unknown) (sym split) ∙ nothing) in
            let so : IsFlow (terrain m) level (point_of n (get_or tiles.corners slot no_corner) e) (get_or bytes e Unknown) =
            subst (λ s. (i : ℕ) → i < s * s → IsFlow (terrain m) level (point_of s (get_or tiles.corners slot no_corner) i) (get_or bytes i Unknown)) (sym right.same_side) (prepared level full) e inside in
            subst (IsFlow (terrain m) level (place_of tiles k)) (sym is) (subst (λ i. IsFlow (terrain m) level (point_of n (get_or tiles.corners i no_corner) e) (get_or bytes e Unknown)) (sym at) so)
      ]
    ];
  }

  pub slots_filled : (tiles : Tiles) (slots new_slots : List Slot) (slot : ℕ) (ranges : List (Option LevelRange)) → slot_ranges new_slots slot ≡ ranges → ((i : ℕ) → i ≢ slot → slot_ranges new_slots i ≡ slot_ranges slots i)
      → AreRangesOf tiles.side m (get_or tiles.corners slot no_corner) ranges → AreSlotsOf m tiles slots → AreSlotsOf m tiles new_slots
  slots_filled tiles slots new_slots slot ranges here others right so i small = elim (cases_eq i slot) [
    | inl at ↦ subst (λ j. AreRangesOf tiles.side m (get_or tiles.corners j no_corner) (slot_ranges new_slots j)) (sym at) (subst (AreRangesOf tiles.side m (get_or tiles.corners slot no_corner)) (sym here) right)
    | inr off ↦ subst (AreRangesOf tiles.side m (get_or tiles.corners i no_corner)) (sym (others i off)) (so i small)
  ]

  -- ranges stay right when a tile is evicted and the last one takes its slot
  pub slots_swap : (tiles new : Tiles) (slots new_slots : List Slot) (slot : ℕ) → new.side ≡ tiles.side → length new.corners + 1 ≡ length tiles.corners
      → (slot < length new.corners → get_or new.corners slot no_corner ≡ get_or tiles.corners (length new.corners) no_corner)
      → ((i : ℕ) → i ≢ slot → i < length new.corners → get_or new.corners i no_corner ≡ get_or tiles.corners i no_corner)
      → (slot < length new.corners → slot_ranges new_slots slot ≡ slot_ranges slots (length new.corners))
      → ((i : ℕ) → i ≢ slot → i < length new.corners → slot_ranges new_slots i ≡ slot_ranges slots i)
      → AreSlotsOf m tiles slots → AreSlotsOf m new new_slots
  slots_swap tiles new slots new_slots slot side count moved kept ranges_moved ranges_kept so i small =
      subst (λ n. AreRangesOf n m (get_or new.corners i no_corner) (slot_ranges new_slots i)) (sym side)
      (elim (cases_eq i slot) [
        | inl at ↦
            let last = subst (λ k. k < length new.corners) at small in
            subst (λ d. AreRangesOf tiles.side m d (slot_ranges new_slots i)) (sym (ap (λ k. get_or new.corners k no_corner) at ∙ moved last))
            (subst (AreRangesOf tiles.side m (get_or tiles.corners (length new.corners) no_corner)) (sym (ap (slot_ranges new_slots) at ∙ ranges_moved last)) (so (length new.corners) (omega (arith, count))))
        | inr off ↦
            subst (λ d. AreRangesOf tiles.side m d (slot_ranges new_slots i)) (sym (kept i off small))
            (subst (AreRangesOf tiles.side m (get_or tiles.corners i no_corner)) (sym (ranges_kept i off small)) (so i (omega (arith, small, count))))
      ])

-- `AreRanges` for the levels of a tile and around it implies `AreRangesOf`
pub ranges_are : (m : Mosaic) → IsMosaic m → (c : Corner) (levels : List ℤ) (ranges : List (Option LevelRange)) → ArePadded m c levels → AreRanges (m.side + 4) levels ranges → AreRangesOf m.side m c ranges
ranges_are m is c levels ranges padded are = record {
  within = λ level filled i j row column on.
      let at = same level filled i j row column on in
      let some : get_or levels (i * (m.side + 4) + j) void ≢ void = λ none. never_void m is level filled (padded_point m.side c i j) on (at ∙ none) in
      subst (IsIn (range_at ranges (block_of i j))) (sym at) (are.all.within i j column (mul-add-lt i (m.side + 4) j (m.side + 4) row column) some);
  ends = λ level filled b range known. ends_as range (HasLevelTo (m.side + 4) ((m.side + 4) * (m.side + 4)) levels b) (HasLevel m.side m c level b) (on_tile level filled b) (are.all.ends b range known);
}
  where
    same : (level : Point → ℤ) → AreFilledLevels (terrain m) level → (i j : ℕ) → i < m.side + 4 → j < m.side + 4 → IsTrue (is_ground m (padded_point m.side c i j)) → level (padded_point m.side c i j) ≡ get_or levels (i * (m.side + 4) + j) void
    same level filled i j row column on =
        level_is_unique (terrain m) (padded_point m.side c i j) (level (padded_point m.side c i j)) (get_or levels (i * (m.side + 4) + j) void) (filled (padded_point m.side c i j) on) (padded.on_ground i j row column on)

    row_of : (width i j : ℕ) → i * width + j < width * width → i < width
    row_of width i j below = elim (cases_lt i width) [
      | inl row ↦ row
      | inr past ↦ let more = mul-le-mul_right width past in absurd (omega (arith, more, below))
    ]

    on_tile : (level : Point → ℤ) → AreFilledLevels (terrain m) level → (b : ℕ) (v : ℤ) → HasLevelTo (m.side + 4) ((m.side + 4) * (m.side + 4)) levels b v → HasLevel m.side m c level b v
    on_tile level filled b v (i, j, column, below, block, some, at) =
        let row : i < m.side + 4 = row_of (m.side + 4) i j below in
        let on : IsTrue (is_ground m (padded_point m.side c i j)) = elim (cases_Bool (is_ground m (padded_point m.side c i j))) [
          | inl on ↦ on
          | inr off ↦ absurd (some (sym at ∙ padded.elsewhere i j row column off))
        ] in
        (i, j, row, column, block, on, same level filled i j row column on ∙ at)
