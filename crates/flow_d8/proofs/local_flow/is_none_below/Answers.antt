use Rattle.std.proofs.Common.{rules}
use Rattle.lattice.specs.declared.direction.Dir.TheVariants.{East}
use Rattle.flow_d8.proofs.local_flow.is_none_below.Goals as goal

pub returns-then-height-at-7 : goal.returns-then-height-at-7
returns-then-height-at-7 c h East = search rules
returns-then-height-at-7 c h _ = search rules
