use Rattle.drainage.proofs.Prelude.{Corner, IfOk, IsToldOf, IsTrue, List, Mosaic, OnLevels, asked_refused, is_ground, length, reads_as, subst, sym, terrain, ◌∙◌, ◌≤◌}
use Rattle.drainage.proofs.Flows.Followed.{held_still}
use Rattle.catalogue.proofs.Questioned.{answered, answered_here, refused_by}
use Rattle.drainage.proofs.Questions.Told.{told_of, drained_told, draining_tells}
use Rattle.drainage.proofs.prepared_flows.flow_anywhere.Goals as goal

pub returns-then-drains-clause-flow : goal.returns-then-drains-clause-flow
returns-then-drains-clause-flow g c honest level filled =
    let m = g.S.Samples.mosaic c.args.samples.now in
    told_of m level c.args.point c.flow-flow.result (c.flow-flow.ensures.flow m (c.requires.held honest) level filled) (draining_tells c.flow-flow.result (c.drains.ensures.0 c.if-drains.true))

pub returns-then-drains-clause-held : goal.returns-then-drains-clause-held
returns-then-drains-clause-held g c honest = c.flow-flow.ensures.left (g.S.Samples.mosaic c.args.samples.now) (c.requires.held honest)

pub returns-then-drains-clause-asked : goal.returns-then-drains-clause-asked
returns-then-drains-clause-asked g c = answered_here g.S.Samples g.met.S.Samples.keeps_itself c.args.samples.now _

pub returns-in_err-is_ground-clause-held : goal.returns-in_err-is_ground-clause-held
returns-in_err-is_ground-clause-held g c =
    let a = c.args.samples.now in
    held_still g.S.Samples a c.is_ground.new.samples _ c.flow-flow.new.self c.in_err-is_ground.ensures.reads (λ honest. c.flow-flow.ensures.left (g.S.Samples.mosaic a) (c.requires.held honest))

pub returns-in_err-is_ground-clause-asked : goal.returns-in_err-is_ground-clause-asked
returns-in_err-is_ground-clause-asked g c =
    let a = c.args.samples.now in
    let b = c.is_ground.new.samples in
    let r = c.in_err-is_ground.field-0.0 in
    refused_by g.S.Samples a b c.from_residual.result r c.from_residual.ensures.1 (asked_refused g.S.Samples a b r c.in_err-is_ground.ensures.reads)

pub returns-then-not-branch-clause-held : goal.returns-then-not-branch-clause-held
returns-then-not-branch-clause-held g c =
    let a = c.args.samples.now in
    held_still g.S.Samples a c.is_ground.new.samples _ c.flow-flow.new.self c.in_ok-is_ground.ensures.reads (λ honest. c.flow-flow.ensures.left (g.S.Samples.mosaic a) (c.requires.held honest))

pub returns-then-not-branch-clause-asked : goal.returns-then-not-branch-clause-asked
returns-then-not-branch-clause-asked g c =
    let a = c.args.samples.now in
    let b = c.is_ground.new.samples in
    answered g.S.Samples a b _ (reads_as g.S.Samples a b c.in_ok-is_ground.field-0 (tt {0}) c.in_ok-is_ground.ensures.reads)

pub flow_by_tiles-requires : goal.flow_by_tiles-requires
flow_by_tiles-requires g c =
    let a = c.args.samples.now in
    let b = c.is_ground.new.samples in
    let e = c.in_ok-is_ground.ensures in
    record {
      held = held_still g.S.Samples a b _ c.flow-flow.new.self e.reads (λ honest. c.flow-flow.ensures.left (g.S.Samples.mosaic a) (c.requires.held honest));
      ground = λ honest. subst (λ (m : Mosaic). IsTrue (is_ground m c.args.point)) (sym (e.reads.mosaic honest)) (sym (e.value honest) ∙ c.if-not-branch.false);
    }

pub returns-clause-flow : goal.returns-clause-flow
returns-clause-flow g c honest =
    let e = c.in_ok-is_ground.ensures in
    let mid = c.flow_by_tiles.ensures.asked.reads.honest honest in
    subst (λ (m : Mosaic). IfOk c.flow_by_tiles.result (λ flow. OnLevels m (λ level. IsToldOf (terrain m) level c.args.point flow))) (e.reads.mosaic mid)
    (drained_told (g.S.Samples.mosaic c.is_ground.new.samples) c.args.point c.flow_by_tiles.result (c.flow_by_tiles.ensures.flow honest) c.flow_by_tiles.ensures.drains)
