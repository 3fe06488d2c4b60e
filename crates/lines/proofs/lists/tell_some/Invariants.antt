use Rattle.std.proofs.Common.{◌≡◌, ◌+◌, ◌-◌, ◌≤◌, ◌<◌, ◌++◌, drop, flat_map, length}
use Rattle.lines.proofs.lists.tell_some.Given as goal

abbrev pub invariant-loop-count : goal.invariant-loop-count
invariant-loop-count g l = record {
  within : l.count ≤ length l.elements;
  room : length l.part.items < 3072;
  told : l.part.items ++ flat_map g.T.Element.text (drop l.count l.elements) ≡ l.fn.part.items ++ flat_map g.T.Element.text l.elements;
  some : length l.fn.part.items + l.count ≤ length l.part.items;
}

abbrev pub decreases-loop-count : goal.decreases-loop-count
decreases-loop-count g l = length l.elements - l.count
