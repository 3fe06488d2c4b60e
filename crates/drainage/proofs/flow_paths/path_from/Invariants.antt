use Rattle.drainage.proofs.Prelude.{IsFollowed, IsHeldFor, IsMarkedOnce, Ok, OnLevels, OnlyReads, length, terrain, ◌-◌, ◌≤◌}
use Rattle.drainage.proofs.flow_paths.path_from.Given as goal

abbrev pub invariant-steps : goal.invariant-steps
invariant-steps g l = record {
  reads : OnlyReads {T = Unit {0}} g.S.Samples l.fn.samples l.samples (Ok tt);
  held : IsHeldFor g.S.Samples l.samples l.held;
  marked_once : IsMarkedOnce l.marks l.path.items;
  short : length l.path.items ≤ l.most;
  followed : g.S.Samples.is_honest l.samples → OnLevels (g.S.Samples.mosaic l.fn.samples) (λ level. IsFollowed (terrain (g.S.Samples.mosaic l.fn.samples)) level l.fn.point l.last l.path.items);
}

abbrev pub decreases-steps : goal.decreases-steps
decreases-steps g l = l.most - length l.path.items
