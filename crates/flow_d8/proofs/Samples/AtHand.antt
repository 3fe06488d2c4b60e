-- A point's first sample is loaded exactly if a tile that holds the point is.
use Rattle.flow_d8.proofs.Prelude.{AreFlows, Corner, Flow, Holds, IsAtHand, IsFlow, List, Point, Terrain, ℕ, ℤ, [], arith, cases_Bool, flow_of, get_or, get_or_default, length, point_of_held, refl, slice_get_read, subst, sym, ⊎_elim, ◌%◌, ◌*◌, ◌++◌, ◌/◌, ◌<◌, ◌∷◌, ◌≡◌}
use Rattle.flow_d8.specs.Filled.{is_holder, is_held, number_of}
use Rattle.flow_d8.proofs.Samples.Inside.{any_at}
use Rattle.flow_d8.proofs.Samples.Numbers.{seat_of, holder_holds, holds_holder, number_below, number_past, tile_below}
use Rattle.flow_d8.specs.Tiles.{Tiles, AreTiles, IsSampleOf, count_of, no_corner, place_of}
use Rattle.flow_d8.proofs.Samples.TilePlaces.{place_number, square_some}
use Rattle.flow_d8.proofs.Samples.Slots.{longer, as_before, at_end}

module _ (t : Tiles) (valid : AreTiles t) (p : Point) where
  pub at_hand_below : IsAtHand t p → number_of t.side t.corners p < count_of t
  at_hand_below at =
      let c = get_or t.corners at.0 no_corner in
      number_below t.side t.corners p valid.side_low (any_at (λ d. is_holder t.side d p) t.corners at.0 c (slice_get_read t.corners (length t.corners) at.0 c refl at.1.0 (get_or_default t.corners at.0 no_corner c at.1.0)) (holds_holder t.side c p valid.side_low at.1.1))

  pub below_at_hand : number_of t.side t.corners p < count_of t → IsAtHand t p
  below_at_hand small = ⊎_elim
      (λ on. let seat = seat_of t.side t.corners p on in
      (seat.number, (seat.in_range, subst (λ (d : Corner). Holds t.side d p) (sym (seat.at no_corner)) (holder_holds t.side seat.corner p valid.side_low seat.held))))
      (λ off. absurd (omega (arith, small, number_past t.side t.corners p off)))
      (cases_Bool (is_held t.side t.corners p))

  -- a tile that has a sample of the point holds it
  pub sample_at_hand : (k : ℕ) → IsSampleOf t p k → IsAtHand t p
  unfolding place_of
  sample_at_hand k at =
      let area = t.side * t.side in
      let some : 0 < area = square_some t.side valid.side_low in
      let tile : k / area < length t.corners = tile_below area (length t.corners) k some at.small in
      let c = get_or t.corners (k / area) no_corner in
      (k / area, (tile, subst (Holds t.side c) at.here (point_of_held t.side c (k % area) (omega (arith, valid.side_low)) (valid.corners (k / area) tile) (omega arith))))

-- a known flow of a point is right
pub known_so : (t : Tiles) → AreTiles t → (flows : List Flow) (p : Point) → number_of t.side t.corners p < count_of t → (g : Terrain Point) (level : Point → ℤ) → AreFlows g level (place_of t) flows → IsFlow g level p (flow_of t flows p)
known_so t valid flows p small g level are = subst (λ q. IsFlow g level q (flow_of t flows p)) (place_number t valid p small) (are (number_of t.side t.corners p))

-- a point that a cached tile holds is still held after a tile is added
module _ (t new : Tiles) (c : Corner) (side : new.side ≡ t.side) (is : new.corners ≡ t.corners ++ c ∷ []) (p : Point) where
  pub still_at_hand : IsAtHand t p → IsAtHand new p
  still_at_hand at =
      let holds : Holds t.side (get_or new.corners at.0 no_corner) p = subst (λ (d : Corner). Holds t.side d p) (sym (as_before t.corners new.corners c is at.0 at.1.0)) at.1.1 in
      (at.0, (omega (arith, at.1.0, longer t.corners new.corners c is), subst (λ n. Holds n (get_or new.corners at.0 no_corner) p) (sym side) holds))

  pub comes_to_hand : Holds t.side c p → IsAtHand new p
  comes_to_hand at =
      let holds : Holds t.side (get_or new.corners (length t.corners) no_corner) p = subst (λ (d : Corner). Holds t.side d p) (sym (at_end t.corners new.corners c is)) at in
      (length t.corners, (omega (arith, longer t.corners new.corners c is), subst (λ n. Holds n (get_or new.corners (length t.corners) no_corner) p) (sym side) holds))
