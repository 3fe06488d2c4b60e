use Rattle.flow_d8.proofs.Prelude.{AllAdjacentBelow, Corner, IsBefore, IsTrue, List, ℕ, arith, get_or, is_corner, length, no_corner, subst, ◌<◌}
use Rattle.flow_d8.proofs.Samples.Slots.{distinct_from_rising}
use Rattle.flow_d8.proofs.tiles.Tiles.new.Goals as goal

pub invariant_of-result : goal.invariant_of-result
invariant_of-result c =
    let rising = subst (λ (l : List Corner). AllAdjacentBelow IsBefore l (length l)) c.deref-then-len-area.ensures.value (c.are_rising.ensures.0 c.if-are_rising.true) in
    let valid = subst (λ (l : List Corner). (i : ℕ) → i < length l → IsTrue (is_corner (get_or l i no_corner))) c.deref.ensures.value c.see_corners.ensures in
    record {
      side_low = c.samples-low.ensures.low;
      side_high = c.samples-low.ensures.high;
      few = grind (arith, c.if-len-area.true, c.len.ensures, c.area.ensures.value, c.args.corners.ok.0);
      distinct = distinct_from_rising c.args.corners.items rising;
      corners = valid;
    }
