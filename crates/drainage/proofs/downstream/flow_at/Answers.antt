use Rattle.catalogue.proofs.Questioned.{answered_here}
use Rattle.drainage.proofs.downstream.flow_at.Goals as goal

pub returns-then-drains-clause-flow : goal.returns-then-drains-clause-flow
returns-then-drains-clause-flow g c honest = c.flow-flow.ensures.flow (g.S.Samples.mosaic c.args.samples.now) (c.requires.held honest)

pub returns-then-drains-clause-held : goal.returns-then-drains-clause-held
returns-then-drains-clause-held g c honest = c.flow-flow.ensures.left (g.S.Samples.mosaic c.args.samples.now) (c.requires.held honest)

pub returns-then-drains-clause-asked : goal.returns-then-drains-clause-asked
returns-then-drains-clause-asked g c = answered_here g.S.Samples g.met.S.Samples.keeps_itself c.args.samples.now _

pub flow_by_levels-requires-clause-held : goal.flow_by_levels-requires-clause-held
flow_by_levels-requires-clause-held g c honest = c.flow-flow.ensures.left (g.S.Samples.mosaic c.args.samples.now) (c.requires.held honest)

pub flow_by_levels-requires-clause-known : goal.flow_by_levels-requires-clause-known
flow_by_levels-requires-clause-known g c honest = c.flow-flow.ensures.flow (g.S.Samples.mosaic c.args.samples.now) (c.requires.held honest)
