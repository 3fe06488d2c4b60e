use Rattle.std.proofs.Common.{◌≡◌, ◌<◌, None, Ok, length, get_or}
use Rattle.drainage.proofs.Prelude.{Dir, IsHeldFor, OnLevels, OnlyReads, beside_of, order_of, terrain}
use Rattle.drainage.proofs.levels_near.levels_around.Given as goal

abbrev pub invariant-loop-i : goal.invariant-loop-i
invariant-loop-i g l = record {
  reads : OnlyReads {T = Unit {0}} g.S.Samples l.fn.samples l.samples (Ok tt);
  held : IsHeldFor g.S.Samples l.samples l.held;
  eight : length l.found ≡ 8;
  levels : g.S.Samples.is_honest l.samples → OnLevels (g.S.Samples.mosaic l.fn.samples) (λ level. (d : Dir) → order_of d < l.i → get_or l.found (order_of d) None ≡ beside_of (terrain (g.S.Samples.mosaic l.fn.samples)) level l.point d);
}
