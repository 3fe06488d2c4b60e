use Rattle.drainage.proofs.Prelude.{Mosaic, is_sink, subst, terrain, ◌≡◌}
use Rattle.flow_d8.proofs.Sayings.Draining.{near_flow}
use Rattle.catalogue.proofs.Questioned.{answered_here}
use Rattle.drainage.proofs.downstream.flow_by_levels.Goals as goal

pub returns-then-not-matches-clause-asked : goal.returns-then-not-matches-clause-asked
returns-then-not-matches-clause-asked g c = answered_here g.S.Samples g.met.S.Samples.keeps_itself c.args.samples.now _

pub returns-in_default-present_holder-clause-asked : goal.returns-in_default-present_holder-clause-asked
returns-in_default-present_holder-clause-asked g c = answered_here g.S.Samples g.met.S.Samples.keeps_itself c.args.samples.now _

pub returns-then-is_due-clause-asked : goal.returns-then-is_due-clause-asked
returns-then-is_due-clause-asked g c = answered_here g.S.Samples g.met.S.Samples.keeps_itself c.args.samples.now _

pub returns-then-is_due-clause-held : goal.returns-then-is_due-clause-held
returns-then-is_due-clause-held g c honest = c.is_due.ensures (g.S.Samples.mosaic c.args.samples.now) (c.requires.held honest)

pub near_levels-requires-clause-held : goal.near_levels-requires-clause-held
near_levels-requires-clause-held g c honest = c.is_due.ensures (g.S.Samples.mosaic c.args.samples.now) (c.requires.held honest)

pub returns-clause-flow : goal.returns-clause-flow
returns-clause-flow g c honest level filled =
    let a = c.args.samples.now in
    let b = c.near_levels.new.samples in
    let e = c.in_ok-near.ensures in
    let before = e.asked.reads.honest honest in
    let m = g.S.Samples.mosaic a in
    let sink = subst (λ (n : Mosaic). c.is_sink.result ≡ is_sink n c.args.point) (e.asked.reads.mosaic honest) (c.is_sink.ensures honest) in
    near_flow (terrain m) level c.args.point c.flow_near.result (c.flow_near.ensures m c.args.point (g.met.S.Samples.is_mosaic a before) (e.near honest) sink level filled)
