use Rattle.flow_d8.proofs.Prelude.{arith, cases_eq, inl, inr, order_of, slice_index_or, subst, sym, Unknown, ◌≡◌}
use Rattle.water.proofs.Compass.{dir_at_place}
use Rattle.flow_d8.specs.Filled.{number_of}
use Rattle.flow_d8.specs.Members.{IsSettledBeside}
use Rattle.flow_d8.specs.Tiles.{by_of}
use Rattle.flow_d8.proofs.Waves.Runs.{grows_on, settled_on}
use Rattle.flow_d8.proofs.collecting.Members.visit_around.Goals as goal

pub returns-then-not-branch-clause-grows : goal.returns-then-not-branch-clause-grows
returns-then-not-branch-clause-grows c = grows_on c.args.known.now c.args.self.now c.loop-i.self c.loop-i.invariant.grows c.visit.new.self c.in_ok-visit.ensures.grows

pub loop-i-preserved : goal.loop-i-preserved
loop-i-preserved c =
    let was = c.loop-i.invariant in
    let known = c.args.known.now in
    let new = c.visit.new.self in
    let grows = c.in_ok-visit.ensures.grows in
    record {
      grows = grows_on known c.args.self.now c.loop-i.self was.grows new grows;
      settled = λ d less. elim (cases_eq (order_of d) c.loop-i.i) [
        | inl same ↦ subst (IsSettledBeside known new c.args.from) (dir_at_place d _ c.loop-i.i same) (c.in_ok-visit.ensures.settled c.if-not-branch.false)
        | inr other ↦ settled_on known c.loop-i.self new grows c.args.from d (was.settled d (omega arith))
      ];
    }

pub returns-then-not-branch-clause-met : goal.returns-then-not-branch-clause-met
unfolding by_of
returns-then-not-branch-clause-met c =
    let tiles = c.args.known.now.tiles.now in
    let flows = c.args.known.now.flows.now in
    let from = c.args.from in
    let grows = c.in_ok-visit.ensures.grows in
    let member = grows.kept from (c.loop-i.invariant.grows.kept from c.requires.member) in
    let joined = grows.found.joined from member in
    record {
      beside = (joined.0, from, _, (joined.1, (grows.found.flat from member, c.point_beside.ensures)));
      nothing = subst (λ q. slice_index_or flows (number_of tiles.side tiles.corners q) Unknown ≡ Unknown) (sym c.point_beside.ensures) (c.in_ok-visit.ensures.unknown c.if-not-branch.true);
    }
