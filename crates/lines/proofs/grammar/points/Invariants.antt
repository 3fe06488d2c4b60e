use Rattle.std.proofs.Common.{◌≡◌, ◌*◌, take, length}
use Rattle.lines.specs.Grammar.{coordinates}
use Rattle.lines.proofs.grammar.points.Given as goal

abbrev pub invariant-loop-place : goal.invariant-loop-place
invariant-loop-place l = record {
  count : length l.points.items ≡ l.place;
  points : coordinates l.points.items ≡ take (2 * l.place) l.numbers;
}
