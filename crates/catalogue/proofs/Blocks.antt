-- The samples of a tile, as they are changed into the heights of its block.
use Rattle.catalogue.proofs.Prelude.{AreHeightsOf, AreSamplesOf, Contains, Corner, IsMosaic, IsRimPoint, IsSomeAnd, List, Mosaic, None, Option, Some, ℕ, ℤ, ap, ap₂, arith, cases_Bool, cases_eq, corners_of, false, height_of, inl, inner_only, inr, is_rim, length, metres, number_below, one_index, point_of, refl, rim_number, samples_of, slice_get, slice_index_or, slice_range, slice_set, subst, sym, take, void, ◌*◌, ◌++◌, ◌+◌, ◌-◌, ◌<◌, ◌∙◌, ◌≡◌, ◌≤◌}
use Rattle.std.proofs.lemmas.Option.{slice_get-get_or}
use Rattle.std.proofs.lemmas.List.{get_or-set_other, length-set, set-get_or}
use Rattle.std.proofs.lemmas.Grind.{get_or-set_at}
use Rattle.std.proofs.Math.Seq.{take-length, take-append_seam}
use Rattle.lattice.proofs.Samples.{index_of_point}
use Rattle.catalogue.specs.Elsewhere.{IsOwnOrHeight, is_held_elsewhere}
use Rattle.catalogue.proofs.OneTile.{corner_is}
use Rattle.catalogue.proofs.OwnHeights.{own_height, whole_tile}
use Rattle.catalogue.proofs.Elsewhere.{only_holder}

-- the height of the point at an index of the corner's tile
abbrev pub height_at : Mosaic → Corner → ℕ → ℤ
height_at m c e = metres (height_of m (point_of m.side c e))

-- The first k rim points have their heights, in the order of their numbers.
pub record IsPartly (m : Mosaic) (c : Corner) (k : ℕ) (heights : List ℤ) : Type 0 where
  pub whole : length heights ≡ m.side * m.side
  pub either : (e : ℕ) → e < m.side * m.side → IsOwnOrHeight m c e (slice_index_or heights e void)
  pub done : (j e : ℕ) → j < k → IsRimPoint m.side j e → slice_index_or heights e void ≡ height_at m c e

module _ (m : Mosaic) (c : Corner) where
  pub partly_none : (heights : List ℤ) → IsMosaic m → length heights ≡ m.side * m.side → AreSamplesOf m c 0 heights → IsPartly m c 0 heights
  partly_none heights valid long own = record {
    whole = long;
    either = λ e small. inl (by (samples_of m c) refl own e small);
    done = λ j e below rim. absurd (omega arith);
  }
    where
      by : (o : Option (List ℤ)) → samples_of m c ≡ o → IsSomeAnd o (λ all. slice_range all 0 (0 + length heights) ≡ heights) → (e : ℕ) → e < m.side * m.side
          → IsSomeAnd (samples_of m c) (λ all. slice_get all e ≡ Some (slice_index_or heights e void))
      by None found are e small = absurd are
      by (Some all) found are e small =
          let as_long : 0 + length heights - 0 ≡ length all = omega (arith, long, whole_tile m.side c m.tiles all valid.tiles found) in
          let same : all ≡ heights = sym (take-length all) ∙ ap (λ n. take n all) (sym as_long) ∙ are in
          let within : e < length heights = subst (λ n. e < n) (sym long) small in
          subst (λ (o : Option (List ℤ)). IsSomeAnd o (λ l. slice_get l e ≡ Some (slice_index_or heights e void))) (sym found)
          (subst (λ (l : List ℤ). slice_get l e ≡ Some (slice_index_or heights e void)) (sym same) (slice_get-get_or heights e void within))

  pub partly_more : (k at : ℕ) (heights new : List ℤ) → 3 ≤ m.side → IsRimPoint m.side k at → IsPartly m c k heights
      → new ≡ slice_set heights at (height_at m c at) → IsPartly m c (k + 1) new
  partly_more k at heights new side rim_at so is = subst (IsPartly m c (k + 1)) (sym is) (record {
    whole = length-set heights at value ∙ so.whole;
    either = λ e below. elim (cases_eq e at) [
      | inl here ↦ inr (put e here)
      | inr other ↦ subst (λ (s : ℤ). IsOwnOrHeight m c e s) (sym (get_or-set_other heights at e value void other)) (so.either e below)
    ];
    done = λ j e below rim. elim (cases_eq e at) [
      | inl here ↦ put e here
      | inr other ↦ elim (cases_eq j k) [
        | inl last ↦ absurd (other (one_index m.side k e at side (subst (λ l. IsRimPoint m.side l e) last rim) rim_at))
        | inr before ↦ get_or-set_other heights at e value void other ∙ so.done j e (omega arith) rim
      ]
    ];
  })
    where
      value : ℤ
      value = height_at m c at

      put : (e : ℕ) → e ≡ at → slice_index_or (slice_set heights at value) e void ≡ height_at m c e
      put e here = get_or-set_at heights at e value void here (subst (λ n. at < n) (sym so.whole) rim_at.small) ∙ ap (height_at m c) (sym here)

  -- one pass of the loop over the rim
  pub partly_step : (mid : Mosaic) (n index k : ℕ) (heights new : List ℤ) → mid ≡ m → n ≡ m.side → 3 ≤ m.side → IsRimPoint m.side k index → IsPartly m c k heights
      → (IsOwnOrHeight mid c index (slice_index_or heights index void) → new ≡ slice_set heights index (metres (height_of mid (point_of n c index)))) → IsPartly m c (k + 1) new
  partly_step mid n index k heights new same_mosaic same_side side at so set_ =
      let either = subst (λ (x : Mosaic). IsOwnOrHeight x c index (slice_index_or heights index void)) (sym same_mosaic) (so.either index at.small) in
      let value : metres (height_of mid (point_of n c index)) ≡ height_at m c index = ap₂ (λ (x : Mosaic) (l : ℕ). metres (height_of x (point_of l c index))) same_mosaic same_side in
      partly_more k index heights new side at so (set_ either ∙ ap (slice_set heights index) value)

  pub partly_all : (heights : List ℤ) → IsMosaic m → Contains (corners_of m) c → IsPartly m c (4 * (m.side - 1)) heights → AreHeightsOf m c heights
  partly_all heights valid there so = record {
    whole = so.whole;
    values = λ e small. elim (cases_Bool (is_rim m.side e)) [
      | inl rim ↦
          let at : IsRimPoint m.side (rim_number m.side e) e = record { small = small; rim = rim; number = refl } in
          so.done (rim_number m.side e) e (number_below m.side (rim_number m.side e) e valid.side_low at) at
      | inr inner ↦ elim (so.either e small) [
        | inl own ↦
            let index = index_of_point m.side c e (omega (arith, valid.side_low)) (corner_is m c valid there) small in
            sym (own_height m c e (point_of m.side c e) (slice_index_or heights e void) valid index (λ d there_too held. inner_only m.side c e (point_of m.side c e) valid.side_low index inner d held) own)
        | inr height ↦ height
      ]
    ];
  }

  -- If no other tile has the point, either value is the height.
  pub alone_set : (e : ℕ) (heights : List ℤ) → IsMosaic m → Contains (corners_of m) c → e < m.side * m.side → is_held_elsewhere m c (point_of m.side c e) ≡ false
      → IsOwnOrHeight m c e (slice_index_or heights e void) → heights ≡ slice_set heights e (height_at m c e)
  alone_set e heights valid there small none (inl own) =
      let index = index_of_point m.side c e (omega (arith, valid.side_low)) (corner_is m c valid there) small in
      sym (ap (slice_set heights e) (own_height m c e (point_of m.side c e) (slice_index_or heights e void) valid index (only_holder m c (point_of m.side c e) valid none) own)
      ∙ set-get_or heights e void)
  alone_set e heights valid there small none (inr height) = sym (ap (slice_set heights e) (sym height) ∙ set-get_or heights e void)

-- a vector whose samples were all overwritten
pub written_over : (n : ℕ) (new rest : List ℤ) → length new ≡ n → take n (new ++ rest) ≡ new
written_over n new rest long = ap (λ k. take k (new ++ rest)) (sym long) ∙ take-append_seam new rest
