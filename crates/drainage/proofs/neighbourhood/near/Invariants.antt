use Rattle.std.proofs.Common.{◌≡◌, ◌<◌, None, length, get_or}
use Rattle.drainage.proofs.Prelude.{Dir, known_of, order_of, step}
use Rattle.drainage.specs.Nearby.{IsKnownLevel}
use Rattle.drainage.proofs.neighbourhood.near.Given as goal

abbrev pub invariant-loop-i : goal.invariant-loop-i
invariant-loop-i l = record {
  eight : length l.around ≡ 8;
  each : (d : Dir) → order_of d < l.i → IsKnownLevel (known_of l.tile_cache) l.t (step d l.point) (get_or l.around (order_of d) None);
}
