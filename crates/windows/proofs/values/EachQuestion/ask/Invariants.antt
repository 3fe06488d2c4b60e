use Rattle.std.proofs.Common.{◌≡◌, None, length}
use Rattle.windows.specs.Telling.{Tells}
use Rattle.windows.specs.Windows.{AreTo}
use Rattle.windows.proofs.values.EachQuestion.ask.Given as goal

abbrev pub invariant-loop-k : goal.invariant-loop-k
invariant-loop-k g l = record {
  whole : length l.into ≡ length l.fn.into;
  told : Tells g.E.Engine l.fn.engine l.engine l.k None (λ m. AreTo l.self.1 (g.V.PointValue.is m) l.k l.into);
}
