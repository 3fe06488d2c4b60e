use Rattle.flow_d8.proofs.Prelude.{Dir, IsIn, IsMember, length, no_run, slice_index_or, sum, ℕ, ◌+◌, ◌-◌, ◌<◌, ◌≡◌, ◌≤◌}
use Rattle.flow_d8.specs.Members.{AreFoundIn, IsSettledBeside}
use Rattle.flow_d8.proofs.collecting.Members.collect.Given as goal

abbrev pub invariant-runs : goal.invariant-runs
invariant-runs l = record {
  seed : l.self.seed ≡ l.fn.self.seed;
  begun : IsMember l.self.marks l.fn.self.seed;
  found : AreFoundIn l.known l.self;
  within : l.i ≤ length l.self.runs.items;
  settled : (j k : ℕ) (d : Dir) → j < l.i → IsIn (slice_index_or l.self.runs.items j no_run) k → IsSettledBeside l.known l.self k d;
}

abbrev pub decreases-runs : goal.decreases-runs
decreases-runs l = sum l.self.marks + length l.self.runs.items - l.i
