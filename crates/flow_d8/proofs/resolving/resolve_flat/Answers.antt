use Rattle.flow_d8.proofs.Waves.Runs.{listed_within}
use Rattle.flow_d8.proofs.resolving.resolve_flat.Goals as goal

pub returns-clause-listed : goal.returns-clause-listed
returns-clause-listed c = listed_within c.collect.new.self.marks c.resolve_members.new.marks c.collect.new.self.runs.items c.in_ok-met.ensures.listed c.resolve_members.ensures.whole c.resolve_members.ensures.outside
