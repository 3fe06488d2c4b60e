-- What is known of points stays known where another tile than theirs is evicted.
use Rattle.std.proofs.Common.{◌≡◌, ◌≢◌, ℕ, ◌+◌, ◌-◌, ◌*◌, ◌/◌, ◌%◌, ◌<◌, ◌≤◌, pos, false, true, length, get_or, inl, inr, refl, sym, ap, ◌∙◌, subst, arith, mod-lt}
use Rattle.flow_cache.proofs.Prelude.{Corner, FlowGrid, Point, Unknown, cases_lt, ints, mul-le-mul_right, point_of, row_below}
use Rattle.std.proofs.lemmas.Bool.{and_from, both_ways}
use Rattle.std.proofs.lemmas.Nat.{div-mul-add, mod-mul-add}
use Rattle.lattice.proofs.Multiples.{some_side}
use Rattle.lattice.proofs.Samples.{along_of_sample}
use Rattle.lattice.specs.Lattice.{IsSampleAt, holds, is_along}
use Rattle.flow_cache.specs.FlowCaches.{IsKnownOf}
use Rattle.flow_d8.specs.FlowGrids.{IsCut}
use Rattle.flow_d8.specs.Tiles.{IsInTile, IsSampleOf, no_corner, place_of}
use Rattle.flow_cache.proofs.Caches.FlowCaches.{area_some, in_slot}

-- a tile has the points of its samples
has_point : (n : ℕ) (c : Corner) (e : ℕ) → e < n * n → holds n c (point_of n c e) ≡ true
has_point n c e small =
    let some = some_side n e small in
    let row : e / n < n = row_below n e some small in
    let column : e % n < n = omega arith in
    let sample : IsSampleAt n c (e / n) (e % n) (point_of n c e) = record { row = row; column = column; y = omega (arith, ints); x = refl } in
    let along = along_of_sample n c (point_of n c e) (e / n) (e % n) sample in
    and_from (is_along (pos (n - 1)) c.lat (point_of n c e).y) (is_along (pos (n - 1)) c.lon (point_of n c e).x) along.0 along.1

place_below : (a w b h : ℕ) → a < h → b < w → a * w + b < h * w
place_below a w b h row column = let rows : (a + 1) * w ≤ h * w = mul-le-mul_right w (omega (arith, row)) in omega (arith, column, rows)

module _ (old new : FlowGrid) (slot : ℕ) (c : Corner) (side : new.tiles.side ≡ old.tiles.side) (count : length new.tiles.corners + 1 ≡ length old.tiles.corners) (below : slot < length old.tiles.corners)
    (is : get_or old.tiles.corners slot no_corner ≡ c) (moved : slot < length new.tiles.corners → get_or new.tiles.corners slot no_corner ≡ get_or old.tiles.corners (length new.tiles.corners) no_corner)
    (kept : (i : ℕ) → i ≢ slot → i < length new.tiles.corners → get_or new.tiles.corners i no_corner ≡ get_or old.tiles.corners i no_corner)
    (cut : IsCut (old.tiles.side * old.tiles.side) (length new.tiles.corners) slot old.flows.items new.flows.items) where
  -- a sample of the one tile is one of the other, where that has its corner and what is known of its points
  sample_moved : (p : Point) (from to k : ℕ) → from < length old.tiles.corners → to < length new.tiles.corners → get_or new.tiles.corners to no_corner ≡ get_or old.tiles.corners from no_corner → IsInTile old.tiles from k → IsSampleOf old.tiles p k
      → (get_or old.flows.items k Unknown ≡ Unknown → ⊥)
      → ((e : ℕ) → e < old.tiles.side * old.tiles.side → get_or new.flows.items (to * (old.tiles.side * old.tiles.side) + e) Unknown ≡ get_or old.flows.items (from * (old.tiles.side * old.tiles.side) + e) Unknown) → IsKnownOf new p
  unfolding place_of
  sample_moved p from to k before after same there sample known flows =
      let n = old.tiles.side in
      let area = n * n in
      let some : 0 < area = area_some (length old.tiles.corners) area k sample.small in
      let e = k % area in
      let inside : e < area = mod-lt k some in
      let j = to * area + e in
      let split : k ≡ from * area + e = in_slot old.tiles from k there in
      let tile : j / area ≡ to = div-mul-add to area e inside in
      let index : j % area ≡ e = mod-mul-add to area e inside in (
        to,
        (
          after,
          (
            j,
            (
              ap (λ s. j / (s * s)) side ∙ tile,
              record {
                small = subst (λ s. j < length new.tiles.corners * (s * s)) (sym side) (place_below to area e (length new.tiles.corners) after inside);
                here = ap (λ s. point_of s (get_or new.tiles.corners (j / (s * s)) no_corner) (j % (s * s))) side
                    ∙ (ap (λ i. point_of n (get_or new.tiles.corners i no_corner) (j % area)) tile
                    ∙ (ap (λ d. point_of n d (j % area)) same
                    ∙ (ap (point_of n (get_or old.tiles.corners from no_corner)) index
                    ∙ (ap (λ i. point_of n (get_or old.tiles.corners i no_corner) e) (sym there) ∙ sample.here))));
              },
              λ nothing. known (ap (λ i. get_or old.flows.items i Unknown) split ∙ (sym (flows e inside) ∙ nothing)),
            ),
          ),
        ),
      )

  -- a point that is off the corner's tile has no sample there
  other_slot : (p : Point) → holds old.tiles.side c p ≡ false → (k : ℕ) → IsSampleOf old.tiles p k → k / (old.tiles.side * old.tiles.side) ≢ slot
  unfolding place_of
  other_slot p off k sample at =
      let n = old.tiles.side in
      let some : 0 < n * n = area_some (length old.tiles.corners) (n * n) k sample.small in
      both_ways (holds n c p) off
      (subst (λ q. holds n c q ≡ true) (ap (λ d. point_of n d (k % (n * n))) (sym is) ∙ (ap (λ i. point_of n (get_or old.tiles.corners i no_corner) (k % (n * n))) (sym at) ∙ sample.here))
      (has_point n c (k % (n * n)) (mod-lt k some)))

  pub known_still : (p : Point) → holds old.tiles.side c p ≡ false → IsKnownOf old p → IsKnownOf new p
  known_still p off (tile, (small, (k, (there, sample, known)))) =
      let area = old.tiles.side * old.tiles.side in
      let last = length new.tiles.corners in
      let some : 0 < area = area_some (length old.tiles.corners) area k sample.small in
      let other : tile ≢ slot = λ same. other_slot p off k sample (there ∙ same) in
      elim (cases_lt tile last) [
        | inl low ↦ sample_moved p tile tile k small low (kept tile other low) there sample known
            (λ e inside. cut.others (tile * area + e) (subst (λ l. tile * area + e < l) (sym cut.whole) (place_below tile area e last low inside)) (λ at. other (sym (div-mul-add tile area e inside) ∙ at)))
        | inr high ↦
            let at : tile ≡ last = omega (arith, small, count, high) in
            let lower : slot < last = omega (arith, below, count, at, other) in
            sample_moved p tile slot k small lower (moved lower ∙ ap (λ i. get_or old.tiles.corners i no_corner) (sym at)) there sample known
            (λ e inside. cut.moved lower e inside ∙ ap (λ i. get_or old.flows.items (i * area + e) Unknown) (sym at))
      ]
