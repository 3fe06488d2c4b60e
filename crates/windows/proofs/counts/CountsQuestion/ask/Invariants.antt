use Rattle.std.proofs.Common.{◌≡◌, None, length}
use Rattle.windows.specs.Telling.{Tells}
use Rattle.windows.proofs.UpstreamCounts.{AreSoFar}
use Rattle.windows.proofs.counts.CountsQuestion.ask.Given as goal

abbrev pub invariant-loop-at : goal.invariant-loop-at
invariant-loop-at g l = record {
  whole : length l.into ≡ length l.fn.into;
  told : Tells g.E.Engine l.fn.engine l.engine 1 None (λ m. AreSoFar m l.self.0 l.side l.tiles.items l.at l.into);
}
