use Rattle.std.proofs.Common.{◌≡◌}
use Rattle.page_map.proofs.Ending.{IsGivenBack}
use Rattle.page_map.proofs.page_map.give_back.Given as goal

abbrev pub invariant-loop-entry : goal.invariant-loop-entry
invariant-loop-entry l = record {
  range : l.free.range ≡ l.initial.free.range;
  given : IsGivenBack l.ending l.entries.entries l.entry-iterator l.free;
}
