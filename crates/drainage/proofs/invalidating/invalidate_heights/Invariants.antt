use Rattle.drainage.proofs.Prelude.{AreEarlier, AreFlowsKept, AreLevelsKept, AreSparing, IsHeldOf, IsKeptBeyondHeights, IsKeptUnchanged, IsMosaic, Mosaic, levels_pass, take, with_heights}
use Rattle.drainage.proofs.invalidating.invalidate_heights.Given as goal

abbrev pub invariant-loop-height : goal.invariant-loop-height
invariant-loop-height l = record {
  still : (m : Mosaic) → IsMosaic m → IsHeldOf m l.fn.held → IsHeldOf m l.held;
  changed : (m : Mosaic) → IsMosaic m → AreEarlier l.heights m → IsHeldOf m l.fn.held → IsHeldOf (with_heights (take l.height-index l.heights) m) l.held;
  kept : IsKeptBeyondHeights l.heights l.fn.held l.held;
  levels : AreLevelsKept l.heights l.fn.held l.held;
  flows : AreFlowsKept l.heights l.fn.held l.held;
  unchanged : IsKeptUnchanged l.heights l.fn.held l.held;
  pass : levels_pass (AreSparing l.heights) l.held.tile_cache;
  valid : (m : Mosaic) → IsMosaic m → IsMosaic (with_heights (take l.height-index l.heights) m);
}
