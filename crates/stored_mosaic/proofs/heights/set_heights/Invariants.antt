use Rattle.stored_mosaic.proofs.Prelude.{IsTrue, false, is_corner, ◌≡◌}
use Rattle.stored_mosaic.proofs.Edits.NewHeights.{IsSetTo}
use Rattle.stored_mosaic.proofs.heights.set_heights.Given as goal

abbrev pub invariant-loop-k : goal.invariant-loop-k
invariant-loop-k l = record {
  set : IsTrue (is_corner l.corner) → IsSetTo l.side l.heights l.corner l.page_index l.k l.fn.page l.page;
  left : l.is_set ≡ false → l.page ≡ l.fn.page;
}
