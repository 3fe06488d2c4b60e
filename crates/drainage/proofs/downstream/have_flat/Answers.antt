use Rattle.std.proofs.Common.{IsTrue, Ok, Option, sym, subst, arith, ◌*◌, ◌∙◌, ◌≡◌, ◌≤◌}
use Rattle.std.specs.Prelude.{IfSome}
use Rattle.flow_d8.specs.FlowGrids.{flow_of}
use Rattle.drainage.proofs.Prelude.{OnGround, Point, Unknown, reads_on}
use Rattle.flow_cache.specs.FlowCaches.{known_count}
use Rattle.flow_cache.proofs.Caches.KnownCount.{count_bound}
use Rattle.catalogue.proofs.Questioned.{answered, refused_after, asked_reads}
use Rattle.drainage.proofs.Tiles.GroundAtHand.{met_ground}
use Rattle.drainage.proofs.downstream.have_flat.Goals as goal
use Rattle.drainage.proofs.downstream.have_flat.Goals.{In-Some}

-- the point where the search met an unknown flow
module _ (g : _) (c : In-Some g) where
  met : flow_of c.tiles.flows.grid.tiles c.tiles.flows.grid.flows.items c.in-Some.next ≡ Unknown
  met = (subst (λ (o : Option Point). IfSome o (λ p. (flow_of c.tiles.flows.grid.tiles c.tiles.flows.grid.flows.items p ≡ Unknown) × OnGround c.tiles.flows.grid.tiles c.tiles.flows.grid.flows.items (λ t level. IsTrue (t.is_ground p)))) c.in-Some.is c.in_ok-next.ensures.met).0

pub have_tile-requires-clause-ground : goal.have_tile-requires-clause-ground
have_tile-requires-clause-ground g c honest =
    let b = c.tiles.samples in
    let old = c.tiles.flows.grid in
    let said = subst (λ (o : Option Point). IfSome o (λ p. (flow_of old.tiles old.flows.items p ≡ Unknown) × OnGround old.tiles old.flows.items (λ t level. IsTrue (t.is_ground p)))) c.in-Some.is c.in_ok-next.ensures.met in
    met_ground (g.S.Samples.mosaic b) (g.met.S.Samples.is_mosaic b honest) old.tiles old.flows.items c.in-Some.next (c.tiles.invariant.right honest).grid said.1

pub tiles-preserved : goal.tiles-preserved
tiles-preserved g c =
    let e = c.in_ok-have_tile.ensures in
    let so = c.tiles.invariant in
    record {
      reads = reads_on g.S.Samples g.met.S.Samples.keeps_on c.args.samples.now c.tiles.samples c.have_tile.new.samples tt (Ok tt) so.reads (asked_reads g.S.Samples c.tiles.samples c.have_tile.new.samples _ e.asked);
      held = e.held;
      right = e.right;
      kept = λ p known. e.kept p (λ nothing. known (sym (so.kept p known) ∙ nothing)) ∙ so.kept p known;
      more = let before = so.more in let more = e.more in omega (arith, before, more);
      side = e.side ∙ so.side;
    }

pub tiles-smaller : goal.tiles-smaller
tiles-smaller g c =
    let e = c.in_ok-have_tile.ensures in
    let so = c.tiles.invariant in
    let grown = e.grown (met g (goal.at.tiles-smaller g c).In-Some) in
    let new = c.have_tile.new.flows.grid in
    omega (arith, grown, count_bound new)

pub returns-in_err-have_tile-clause-asked : goal.returns-in_err-have_tile-clause-asked
returns-in_err-have_tile-clause-asked g c =
    refused_after g.S.Samples g.met.S.Samples.keeps_on c.args.samples.now c.tiles.samples c.have_tile.new.samples c.from_residual-in_err-have_tile.result c.in_err-have_tile.field-0.0 c.from_residual-in_err-have_tile.ensures.1 c.tiles.invariant.reads c.in_err-have_tile.ensures.asked

pub returns-in_err-have_tile-clause-kept : goal.returns-in_err-have_tile-clause-kept
returns-in_err-have_tile-clause-kept g c p known =
    let before = c.tiles.invariant.kept p known in
    c.in_err-have_tile.ensures.kept p (λ nothing. known (sym before ∙ nothing)) ∙ before

pub returns-clause-asked : goal.returns-clause-asked
returns-clause-asked g c = answered g.S.Samples c.args.samples.now c.tiles.samples (tt {0}) c.tiles.invariant.reads
