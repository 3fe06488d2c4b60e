use Rattle.std.specs.Prelude.{length}
use Rattle.drainage.proofs.Prelude.{AreCodesTo, IsHeldOf, IsMosaic, Mosaic, ◌≡◌, ◌≤◌}
use Rattle.drainage.proofs.whole_tiles.push_cached_codes.Given as goal

abbrev pub invariant-loop-index : goal.invariant-loop-index
invariant-loop-index l = record {
  whole : length l.codes.items ≡ l.index;
  from : length l.fn.codes.items ≤ l.index;
  codes : (m : Mosaic) → IsMosaic m → l.fn.side ≡ m.side → IsHeldOf m l.fn.held → AreCodesTo m l.corner (length l.fn.codes.items) l.fn.codes.items → AreCodesTo m l.corner l.index l.codes.items;
}
