-- Tiles come to the end of the list, and one may give up its place to the last.
use Rattle.flow_d8.proofs.Prelude.{AllAdjacentBelow, AreFlows, AreFlowsIn, AreKnown, Corner, Flow, Holds, IsAtHand, IsBefore, IsCut, IsFlow, IsTrue, List, Point, Terrain, Unknown, ℕ, ℤ, [], ap, ap₂, arith, cases_Bool, cases_eq, cases_lt, false, flow_of, index_of, or_left, or_right, suc, true, true≢false, div-mul-add, get_or, inl, inr, is_corner, length, mod-mul-add, most_samples, point_of, refl, rows, subst, sym, ◌%◌, ◌*◌, ◌++◌, ◌+◌, ◌-◌, ◌/◌, ◌<◌, ◌∙◌, ◌∷◌, ◌≡◌, ◌≢◌, ◌≤◌}
use Rattle.std.proofs.lemmas.List.{length-append, get_or_append_left, get_or_at, get_or-append_right, get_or_past}
use Rattle.lattice.proofs.Rising.{rising_from, one_index}
use Rattle.flow_d8.proofs.Samples.Inside.{tile_and_index}
use Rattle.flow_d8.proofs.Samples.Numbers.{held-later, holder_holds, holds_holder, index_small, number-here, number-later, number_past, seat_of, tile_below}
use Rattle.flow_d8.specs.Filled.{is_held, is_holder, number_of}
use Rattle.flow_d8.specs.FlowGrids.{KeepsKnown}
use Rattle.flow_d8.specs.Tiles.{Tiles, AreTiles, AreDistinct, count_of, no_corner, place_of}
use Rattle.flow_d8.proofs.Samples.TilePlaces.{square_some}

pub distinct_from_rising : (corners : List Corner) → AllAdjacentBelow IsBefore corners (length corners) → AreDistinct corners
distinct_from_rising corners order i j in_i in_j same = one_index (λ c. c) corners i j no_corner (rising_from (λ c. c) corners order) in_i in_j same

module _ (old new : List Corner) (c : Corner) (is : new ≡ old ++ c ∷ []) where
  pub longer : length new ≡ length old + 1
  longer = ap (λ (l : List Corner). length l) is ∙ length-append old (c ∷ [])

  pub as_before : (i : ℕ) → i < length old → get_or new i no_corner ≡ get_or old i no_corner
  as_before i small = ap (λ (l : List Corner). get_or l i no_corner) is ∙ get_or_append_left old (c ∷ []) no_corner i small

  pub at_end : get_or new (length old) no_corner ≡ c
  at_end = ap (λ (l : List Corner). get_or l (length old) no_corner) is ∙ get_or_at old c [] no_corner (length old) refl

  module _ (distinct : AreDistinct old) (other : (i : ℕ) → i < length old → get_or old i no_corner ≡ c → ⊥) where
    last_only : (i j : ℕ) → i < length old → length old ≤ j → j < length new → get_or new i no_corner ≡ get_or new j no_corner → ⊥
    last_only i j small past in_j same =
        let at : j ≡ length old = omega (arith, longer) in
        other i small (sym (as_before i small) ∙ same ∙ ap (λ k. get_or new k no_corner) at ∙ at_end)

    pub distinct_push : AreDistinct new
    distinct_push i j in_i in_j same = elim (cases_lt i (length old)) [
      | inl small_i ↦ elim (cases_lt j (length old)) [
        | inl small_j ↦ distinct i j small_i small_j (sym (as_before i small_i) ∙ same ∙ as_before j small_j)
        | inr past_j ↦ absurd (last_only i j small_i past_j in_j same)
      ]
      | inr past_i ↦ elim (cases_lt j (length old)) [
        | inl small_j ↦ absurd (last_only j i small_j past_i in_i (sym same))
        | inr past_j ↦ omega (arith, longer)
      ]
    ]

-- the tiles and one more
pub tiles_push : (t : Tiles) → AreTiles t → (length t.corners + 1) * (t.side * t.side) ≤ most_samples → (new : List Corner) (c : Corner) → new ≡ t.corners ++ c ∷ [] → IsTrue (is_corner c)
    → ((i : ℕ) → i < length t.corners → get_or t.corners i no_corner ≡ c → ⊥) → AreTiles (record { side = t.side; corners = new })
tiles_push t valid few new c is corner other = record {
  side_low = valid.side_low;
  side_high = valid.side_high;
  few = subst (λ n. n * (t.side * t.side) ≤ most_samples) (sym (longer t.corners new c is)) few;
  distinct = distinct_push t.corners new c is valid.distinct other;
  corners = λ i small. elim (cases_lt i (length t.corners)) [
    | inl before ↦ subst (λ (d : Corner). IsTrue (is_corner d)) (sym (as_before t.corners new c is i before)) (valid.corners i before)
    | inr past ↦
        let at : i ≡ length t.corners = omega (arith, longer t.corners new c is) in
        subst (λ (d : Corner). IsTrue (is_corner d)) (sym (ap (λ k. get_or new k no_corner) at ∙ at_end t.corners new c is)) corner
  ];
}

-- if all flows of two lists are known, so are all of the joined list
pub known_append : (xs ys all : List Flow) → AreKnown xs → AreKnown ys → all ≡ xs ++ ys → AreKnown all
known_append xs ys all in_xs in_ys is k small unknown = elim (cases_lt k (length xs)) [
  | inl before ↦ in_xs k before (sym (ap (λ (l : List Flow). get_or l k Unknown) is ∙ get_or_append_left xs ys Unknown k before) ∙ unknown)
  | inr past ↦
      let long : length all ≡ length xs + length ys = ap (λ (l : List Flow). length l) is ∙ length-append xs ys in
      in_ys (k - length xs) (omega (arith, long, small, past)) (sym (ap (λ (l : List Flow). get_or l k Unknown) is ∙ get_or-append_right xs ys (length xs) k Unknown refl past) ∙ unknown)
]

-- a point that some tile holds keeps its first sample when a tile is added
pub number_before : (n : ℕ) (old : List Corner) (c : Corner) (p : Point) → is_held n old p ≡ true → number_of n (old ++ c ∷ []) p ≡ number_of n old p
number_before n [] c p held = absurd (true≢false (sym held))
number_before n (d ∷ rest) c p held = elim (cases_Bool (is_holder n d p)) [
  | inl on ↦ number-here n d (rest ++ c ∷ []) p on ∙ sym (number-here n d rest p on)
  | inr off ↦ number-later n d (rest ++ c ∷ []) p off ∙ (ap (λ k. n * n + k) (number_before n rest c p (held-later n d rest p off held)) ∙ sym (number-later n d rest p off))
]

-- a point that only the added tile holds has its first sample there
pub number_after : (n : ℕ) (old : List Corner) (c : Corner) (p : Point) → is_held n old p ≡ false → is_holder n c p ≡ true → number_of n (old ++ c ∷ []) p ≡ length old * (n * n) + index_of n c p
number_after n [] c p out on = number-here n c [] p on ∙ omega arith
number_after n (d ∷ rest) c p out on = elim (cases_Bool (is_holder n d p)) [
  | inl here ↦ absurd (true≢false (sym (or_left (is_holder n d p) (is_held n rest p) here) ∙ out))
  | inr off ↦ number-later n d (rest ++ c ∷ []) p off ∙ (ap (λ k. n * n + k) (number_after n rest c p (not_later off) on) ∙ one_more_tile (length rest) (n * n) (index_of n c p))
]
  where
    not_later : is_holder n d p ≡ false → is_held n rest p ≡ false
    not_later off = elim (cases_Bool (is_held n rest p)) [
      | inl held ↦ absurd (true≢false (sym (or_right (is_holder n d p) (is_held n rest p) held) ∙ out))
      | inr none ↦ none
    ]

    one_more_tile : (k a e : ℕ) → a + (k * a + e) ≡ suc k * a + e
    one_more_tile k a e = omega arith

held_below : (n : ℕ) (corners : List Corner) (p : Point) → number_of n corners p < length corners * (n * n) → is_held n corners p ≡ true
held_below n corners p small = elim (cases_Bool (is_held n corners p)) [
  | inl held ↦ held
  | inr out ↦ absurd (omega (arith, small, number_past n corners p out))
]

not_held : (t : Tiles) → AreTiles t → (p : Point) → (IsAtHand t p → ⊥) → is_held t.side t.corners p ≡ false
not_held t valid p off = elim (cases_Bool (is_held t.side t.corners p)) [
  | inl held ↦
      let seat = seat_of t.side t.corners p held in
      absurd (off (seat.number, (seat.in_range, subst (λ (d : Corner). Holds t.side d p) (sym (seat.at no_corner)) (holder_holds t.side seat.corner p valid.side_low seat.held))))
  | inr out ↦ out
]

-- the flows of the tiles, slot after slot
module _ (t : Tiles) (valid : AreTiles t) (flows : List Flow) (whole : length flows ≡ count_of t) where
  abbrev area : ℕ
  area = t.side * t.side

  some : 0 < area
  some = square_some t.side valid.side_low

  place_is : (s : Tiles) (k : ℕ) → place_of s k ≡ point_of s.side (get_or s.corners (k / (s.side * s.side)) no_corner) (k % (s.side * s.side))
  unfolding place_of
  place_is s k = refl

  -- the flows after a tile is added
  module _ (new : Tiles) (c : Corner) (bytes new_flows : List Flow) (side : new.side ≡ t.side) (is : new.corners ≡ t.corners ++ c ∷ []) (full : length bytes ≡ area) (grown : new_flows ≡ flows ++ bytes) where
    push_before : (k : ℕ) → k < length flows → get_or new_flows k Unknown ≡ get_or flows k Unknown
    push_before k small = ap (λ (l : List Flow). get_or l k Unknown) grown ∙ get_or_append_left flows bytes Unknown k small

    push_after : (k : ℕ) → length flows ≤ k → get_or new_flows k Unknown ≡ get_or bytes (k - length flows) Unknown
    push_after k past = ap (λ (l : List Flow). get_or l k Unknown) grown ∙ get_or-append_right flows bytes (length flows) k Unknown refl past

    push_length : length new_flows ≡ length flows + length bytes
    push_length = ap (λ (l : List Flow). length l) grown ∙ length-append flows bytes

    pub whole_push : length new_flows ≡ count_of new
    whole_push =
        let corners : length new.corners ≡ length t.corners + 1 = longer t.corners new.corners c is in
        push_length ∙ ap₂ (λ x y. x + y) whole full ∙ one_more (length t.corners) area ∙ ap₂ (λ l s. l * (s * s)) (sym corners) (sym side)
      where
        one_more : (l a : ℕ) → l * a + a ≡ (l + 1) * a
        one_more l a = grind (arith, rows)

    -- no known flow changes, since each point keeps its first sample
    pub keeps_push : KeepsKnown t flows new new_flows
    keeps_push p known = elim (cases_lt (number_of t.side t.corners p) (length flows)) [
      | inl small ↦
          let same : number_of new.side new.corners p ≡ number_of t.side t.corners p =
          ap₂ (λ s cs. number_of s cs p) side is ∙ number_before t.side t.corners c p (held_below t.side t.corners p (subst (λ n. number_of t.side t.corners p < n) whole small)) in
          ap (λ k. get_or new_flows k Unknown) same ∙ push_before (number_of t.side t.corners p) small
      | inr past ↦ absurd (known (get_or_past flows (number_of t.side t.corners p) Unknown past))
    ]

    -- a point that only the added tile holds has a known flow
    pub here_push : AreKnown bytes → (p : Point) → Holds t.side c p → (IsAtHand t p → ⊥) → flow_of new new_flows p ≡ Unknown → ⊥
    here_push all p holds off unknown =
        let e = index_of t.side c p in
        let on = holds_holder t.side c p valid.side_low holds in
        let small : e < area = index_small t.side c p valid.side_low on in
        let same : number_of new.side new.corners p ≡ length flows + e =
        ap₂ (λ s cs. number_of s cs p) side is ∙ number_after t.side t.corners c p (not_held t valid p off) on ∙ ap (λ n. n + e) (sym whole) in
        all e (subst (λ n. e < n) (sym full) small)
        (ap (λ k. get_or bytes k Unknown) (omega arith) ∙ sym (push_after (length flows + e) (omega arith)) ∙ ap (λ k. get_or new_flows k Unknown) (sym same) ∙ unknown)

    place_before : (k : ℕ) → k < length flows → place_of new k ≡ place_of t k
    place_before k small =
        let slot : k / area < length t.corners = tile_below area (length t.corners) k some (subst (λ n. k < n) whole small) in
        place_is new k ∙ ap (λ s. point_of s (get_or new.corners (k / (s * s)) no_corner) (k % (s * s))) side
        ∙ ap (λ d. point_of t.side d (k % area)) (as_before t.corners new.corners c is (k / area) slot) ∙ sym (place_is t k)

    place_after : (e : ℕ) → e < area → place_of new (length flows + e) ≡ point_of t.side c e
    place_after e small =
        let k = length flows + e in
        let at : k ≡ length t.corners * area + e = ap (λ n. n + e) whole in
        let slot : k / area ≡ length t.corners = ap (λ n. n / area) at ∙ div-mul-add (length t.corners) area e small in
        let index : k % area ≡ e = ap (λ n. n % area) at ∙ mod-mul-add (length t.corners) area e small in
        place_is new k ∙ ap (λ s. point_of s (get_or new.corners (k / (s * s)) no_corner) (k % (s * s))) side
        ∙ ap₂ (λ i j. point_of t.side (get_or new.corners i no_corner) j) slot index ∙ ap (λ d. point_of t.side d e) (at_end t.corners new.corners c is)

    pub flows_push : (g : Terrain Point) (level : Point → ℤ) → AreFlowsIn g level t.side c bytes → AreFlows g level (place_of t) flows → AreFlows g level (place_of new) new_flows
    flows_push g level all are k = elim (cases_lt k (length flows)) [
      | inl before ↦ subst (λ p. IsFlow g level p (get_or new_flows k Unknown)) (sym (place_before k before)) (subst (IsFlow g level (place_of t k)) (sym (push_before k before)) (are k))
      | inr past ↦ elim (cases_lt (k - length flows) area) [
        | inl within ↦
            let e = k - length flows in
            let at : length flows + e ≡ k = omega (arith, past) in
            let place : place_of new k ≡ point_of t.side c e = ap (place_of new) (sym at) ∙ place_after e within in
            subst (λ p. IsFlow g level p (get_or new_flows k Unknown)) (sym place) (subst (IsFlow g level (point_of t.side c e)) (sym (push_after k past)) (all e within))
        | inr beyond ↦
            subst (IsFlow g level (place_of new k)) (sym (push_after k past ∙ get_or_past bytes (k - length flows) Unknown (omega (arith, full, beyond)))) tt
      ]
    ]

  -- the flows after a tile is removed
  module _ (new : Tiles) (slot : ℕ) (here : slot < length t.corners) (side : new.side ≡ t.side) (count : length new.corners + 1 ≡ length t.corners)
      (moved : slot < length new.corners → get_or new.corners slot no_corner ≡ get_or t.corners (length new.corners) no_corner)
      (kept : (i : ℕ) → i ≢ slot → i < length new.corners → get_or new.corners i no_corner ≡ get_or t.corners i no_corner)
      (new_flows : List Flow) (cut : IsCut area (length new.corners) slot flows new_flows) where
    pub whole_swap : length new_flows ≡ count_of new
    whole_swap = cut.whole ∙ ap (λ s. length new.corners * (s * s)) (sym side)

    -- after a tile is removed, each remaining flow is that of an earlier sample of the same point
    swap_from : (k : ℕ) → k < length new_flows → (j : ℕ) × ((j < length flows) × (get_or new_flows k Unknown ≡ get_or flows j Unknown) × (place_of new k ≡ place_of t j))
    swap_from k small =
        let q = k / area in
        let e = k % area in
        let index : e < area = let z = some in omega arith in
        let in_new : q < length new.corners = tile_below area (length new.corners) k some (subst (λ n. k < n) cut.whole small) in
        let split : q * area + e ≡ k = tile_and_index area k in
        let here_is : place_of new k ≡ point_of t.side (get_or new.corners q no_corner) e = place_is new k ∙ ap (λ s. point_of s (get_or new.corners (k / (s * s)) no_corner) (k % (s * s))) side in
        elim (cases_eq q slot) [
          | inl at ↦
              let j = length new.corners * area + e in
              let in_slot : slot < length new.corners = subst (λ n. n < length new.corners) at in_new in
              let from_slot : j / area ≡ length new.corners = div-mul-add (length new.corners) area e index in
              let from_index : j % area ≡ e = mod-mul-add (length new.corners) area e index in (
                j,
                (
                  in_old e index,
                  ap (λ n. get_or new_flows n Unknown) (sym split ∙ ap (λ n. n * area + e) at) ∙ cut.moved in_slot e index,
                  here_is ∙ ap (λ d. point_of t.side d e) (ap (λ n. get_or new.corners n no_corner) at ∙ moved in_slot)
                      ∙ sym (place_is t j ∙ ap₂ (λ u v. point_of t.side (get_or t.corners u no_corner) v) from_slot from_index),
                ),
              )
          | inr off ↦
              (k, (omega (arith, small, less), cut.others k small off, here_is ∙ ap (λ d. point_of t.side d e) (kept q off in_new) ∙ sym (place_is t k)))
        ]
      where
        rows_of : (l a : ℕ) → (l + 1) * a ≡ l * a + a
        rows_of l a = grind (arith, rows)

        all : length flows ≡ length new.corners * area + area
        all = whole ∙ ap (λ l. l * area) (sym count) ∙ rows_of (length new.corners) area

        less : length new_flows ≤ length flows
        less = omega (arith, all, cut.whole)

        in_old : (e : ℕ) → e < area → length new.corners * area + e < length flows
        in_old e small = omega (arith, all, small)

    pub flows_swap : (g : Terrain Point) (level : Point → ℤ) → AreFlows g level (place_of t) flows → AreFlows g level (place_of new) new_flows
    flows_swap g level are k = elim (cases_lt k (length new_flows)) [
      | inl small ↦
          let a = swap_from k small in
          subst (λ p. IsFlow g level p (get_or new_flows k Unknown)) (sym a.1.2) (subst (IsFlow g level (place_of t a.0)) (sym a.1.1) (are a.0))
      | inr past ↦ subst (IsFlow g level (place_of new k)) (sym (get_or_past new_flows k Unknown past)) tt
    ]
