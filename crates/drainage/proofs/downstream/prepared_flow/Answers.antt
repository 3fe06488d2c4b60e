use Rattle.std.proofs.Common.{IsTrue, Ok, Option, length, sym, ap, ◌*◌, ◌-◌, ◌<◌, ◌≤◌, ◌≡◌, ◌∙◌, subst, arith, true≢false}
use Rattle.std.specs.Prelude.{IfSome, IfNone, ℕ}
use Rattle.drainage.proofs.Prelude.{CrossesFlat, Drains, FlowGrid, IsCacheOf, IsFlow, Mosaic, OnGround, OnLevels, OnlyReads, Point, Tiles, Unknown, most_samples, reads_on, terrain}
use Rattle.flow_d8.specs.Filled.{number_of}
use Rattle.flow_d8.specs.FlowGrids.{KeepsKnown, flow_of}
use Rattle.flow_d8.proofs.Sayings.Draining.{known_at}
use Rattle.flow_cache.specs.FlowCaches.{known_count}
use Rattle.flow_cache.proofs.Caches.KnownCount.{count_bound, count_resolved, unknown_still}
use Rattle.flow_cache.proofs.Caches.FlowCaches.{cache_resolved}
use Rattle.catalogue.proofs.Questioned.{refused_after, asked_reads, stopped}
use Rattle.drainage.proofs.Tiles.GroundAtHand.{met_ground, settled}
use Rattle.drainage.proofs.downstream.prepared_flow.Goals as goal
use Rattle.drainage.proofs.downstream.prepared_flow.Goals.{After-resolve, In_ok-have_tile-2}

-- a point's known flow stays known
still_known : (old new : FlowGrid) (p : Point) → KeepsKnown old.tiles old.flows.items new.tiles new.flows.items → (flow_of old.tiles old.flows.items p ≡ Unknown → ⊥) → flow_of new.tiles new.flows.items p ≡ Unknown → ⊥
still_known old new p kept known nothing = known (sym (kept p known) ∙ nothing)

-- of fewer samples nothing is known
fewer_left : (new : FlowGrid) (before : ℕ) → before < known_count new.flows.items → most_samples - known_count new.flows.items < most_samples - before
fewer_left new before more = omega (arith, count_bound new, more)

-- resolving the flat keeps the cache right
module _ (g : _) (c : After-resolve g) where
  right : g.S.Samples.is_honest c.tiles.samples → IsCacheOf (g.S.Samples.mosaic c.tiles.samples) c.resolve.new.self
  right honest = cache_resolved (g.S.Samples.mosaic c.tiles.samples) (g.met.S.Samples.is_mosaic c.tiles.samples honest) c.tiles.flows c.resolve.new.self c.resolve.ensures.tiles c.resolve.ensures.flows c.resolve.ensures.slots (c.tiles.invariant.right honest)

pub returns-in_err-met-clause-right : goal.returns-in_err-met-clause-right
returns-in_err-met-clause-right g c = right g (goal.at.returns-in_err-met-clause-right g c).After-resolve

pub have_tile-requires-in-Some-clause-ground : goal.have_tile-requires-in-Some-clause-ground
have_tile-requires-in-Some-clause-ground g c honest =
    let b = c.tiles.samples in
    let old = c.tiles.flows.grid in
    let said = subst (λ (o : Option Point). IfSome o (λ p. (flow_of old.tiles old.flows.items p ≡ Unknown) × OnGround old.tiles old.flows.items (λ t level. IsTrue (t.is_ground p)))) c.in-Some.is c.in_ok-met.ensures.met in
    met_ground (g.S.Samples.mosaic b) (g.met.S.Samples.is_mosaic b honest) old.tiles old.flows.items c.in-Some.met (c.tiles.invariant.right honest).grid said.1

pub have_tile-requires-in-Some-clause-right : goal.have_tile-requires-in-Some-clause-right
have_tile-requires-in-Some-clause-right g c = right g (goal.at.have_tile-requires-in-Some-clause-right g c).After-resolve

-- after the flow of the point met is known, the loop's invariant holds again
module _ (g : _) (c : In_ok-have_tile-2 g) where
  reads : OnlyReads {T = Unit {0}} g.S.Samples c.args.samples.now c.have_tile-in-Some.new.samples (Ok tt)
  reads = reads_on g.S.Samples g.met.S.Samples.keeps_on c.args.samples.now c.tiles.samples c.have_tile-in-Some.new.samples tt (Ok tt) c.tiles.invariant.reads
      (asked_reads g.S.Samples c.tiles.samples c.have_tile-in-Some.new.samples _ c.in_ok-have_tile-2.ensures.asked)

  known : flow_of c.have_tile-in-Some.new.flows.grid.tiles c.have_tile-in-Some.new.flows.grid.flows.items c.args.point ≡ Unknown → ⊥
  known = still_known c.resolve.new.self.grid c.have_tile-in-Some.new.flows.grid c.args.point c.in_ok-have_tile-2.ensures.kept
      (subst (λ (t : Tiles). flow_of t c.resolve.new.self.grid.flows.items c.args.point ≡ Unknown → ⊥) (sym c.resolve.ensures.tiles)
      (known_at c.tiles.flows.grid.flows.items c.resolve.new.self.grid.flows.items (number_of c.tiles.flows.grid.tiles.side c.tiles.flows.grid.tiles.corners c.args.point) c.resolve.ensures.tells c.tiles.invariant.known))

  side : c.have_tile-in-Some.new.flows.grid.tiles.side ≡ c.args.flows.now.grid.tiles.side
  side = c.in_ok-have_tile-2.ensures.side ∙ (ap (λ (t : Tiles). t.side) c.resolve.ensures.tiles ∙ c.tiles.invariant.side)

  -- the loop's measure falls: more samples have a known flow
  grown : known_count c.tiles.flows.grid.flows.items < known_count c.have_tile-in-Some.new.flows.grid.flows.items
  grown =
      let old = c.tiles.flows.grid in
      let mid = c.resolve.new.self.grid in
      let said = subst (λ (o : Option Point). IfSome o (λ p. (flow_of old.tiles old.flows.items p ≡ Unknown) × OnGround old.tiles old.flows.items (λ t level. IsTrue (t.is_ground p)))) c.in-Some.is c.in_ok-met.ensures.met in
      let nothing : flow_of mid.tiles mid.flows.items c.in-Some.met ≡ Unknown =
      ap (λ (t : Tiles). flow_of t mid.flows.items c.in-Some.met) c.resolve.ensures.tiles ∙ unknown_still old.flows.items mid.flows.items (number_of old.tiles.side old.tiles.corners c.in-Some.met) c.resolve.ensures.tells said.0 in
      let more = c.in_ok-have_tile-2.ensures.grown nothing in
      let same = count_resolved old.flows.items mid.flows.items c.resolve.ensures.tells in
      omega (arith, more, same)

pub tiles-preserved-then-met_tiles-le-FEW_TILES : goal.tiles-preserved-then-met_tiles-le-FEW_TILES
tiles-preserved-then-met_tiles-le-FEW_TILES g c =
    let e = c.in_ok-have_tile-2.ensures in
    let met = (goal.at.tiles-preserved-then-met_tiles-le-FEW_TILES g c).In_ok-have_tile-2 in
    record { reads = reads g met; held = e.held; right = e.right; known = known g met; side = side g met }

pub tiles-smaller-then-met_tiles-le-FEW_TILES : goal.tiles-smaller-then-met_tiles-le-FEW_TILES
tiles-smaller-then-met_tiles-le-FEW_TILES g c =
    let met = (goal.at.tiles-smaller-then-met_tiles-le-FEW_TILES g c).In_ok-have_tile-2 in
    fewer_left c.have_tile-in-Some.new.flows.grid (known_count c.tiles.flows.grid.flows.items) (grown g met)

pub tiles-preserved : goal.tiles-preserved
tiles-preserved g c =
    let e = c.in_ok-have_flat.ensures in
    let met = (goal.at.tiles-preserved g c).In_ok-have_tile-2 in
    record {
      reads = reads_on g.S.Samples g.met.S.Samples.keeps_on c.args.samples.now c.have_tile-in-Some.new.samples c.have_flat.new.samples tt (Ok tt) (reads g met) (asked_reads g.S.Samples c.have_tile-in-Some.new.samples c.have_flat.new.samples _ e.asked);
      held = e.held;
      right = e.right;
      known = still_known c.have_tile-in-Some.new.flows.grid c.have_flat.new.flows.grid c.args.point e.kept (known g met);
      side = e.side ∙ side g met;
    }

pub tiles-smaller : goal.tiles-smaller
tiles-smaller g c =
    let e = c.in_ok-have_flat.ensures in
    let met = (goal.at.tiles-smaller g c).In_ok-have_tile-2 in
    let more = grown g met in
    let then_more = e.more in
    fewer_left c.have_flat.new.flows.grid (known_count c.tiles.flows.grid.flows.items) (omega (arith, more, then_more))

pub returns-in_err-have_tile-2-clause-asked : goal.returns-in_err-have_tile-2-clause-asked
returns-in_err-have_tile-2-clause-asked g c =
    refused_after g.S.Samples g.met.S.Samples.keeps_on c.args.samples.now c.tiles.samples c.have_tile-in-Some.new.samples c.from_residual-in_err-have_tile-2.result c.in_err-have_tile-2.field-0.0 c.from_residual-in_err-have_tile-2.ensures.1 c.tiles.invariant.reads c.in_err-have_tile-2.ensures.asked

pub returns-in_err-have_flat-clause-asked : goal.returns-in_err-have_flat-clause-asked
returns-in_err-have_flat-clause-asked g c =
    refused_after g.S.Samples g.met.S.Samples.keeps_on c.args.samples.now c.have_tile-in-Some.new.samples c.have_flat.new.samples c.from_residual-in_err-have_flat.result c.in_err-have_flat.field-0.0 c.from_residual-in_err-have_flat.ensures.1
    (reads g (goal.at.returns-in_err-have_flat-clause-asked g c).In_ok-have_tile-2) c.in_err-have_flat.ensures.asked

pub returns-then-not-drains-clause-right : goal.returns-then-not-drains-clause-right
returns-then-not-drains-clause-right g c = right g (goal.at.returns-then-not-drains-clause-right g c).After-resolve

pub returns-then-not-drains-clause-asked : goal.returns-then-not-drains-clause-asked
returns-then-not-drains-clause-asked g c =
    let a = c.args.samples.now in
    let b = c.tiles.samples in
    let p = c.args.point in
    let old = c.tiles.flows.grid in
    let new = c.resolve.new.self.grid in
    let so = c.tiles.invariant in
    stopped g.S.Samples a b so.reads
    (λ honest.
    let m = g.S.Samples.mosaic b in
    let before = so.reads.honest honest in
    let ground = subst (λ (n : Mosaic). IsTrue ((terrain n).is_ground p)) (sym (so.reads.mosaic honest)) (c.requires.ground before) in
    let flow = flow_of new.tiles new.flows.items p in
    let said = subst (λ (o : Option Point). IfNone o ((flow_of old.tiles old.flows.items p ≡ Unknown → ⊥) → OnGround old.tiles old.flows.items (λ t level. IsTrue (t.is_ground p) → (j : ℕ) → CrossesFlat t level p j → Drains flow))) c.in_default.is c.in_ok-met.ensures.drains in
    let drains : Drains flow = settled m (g.met.S.Samples.is_mosaic b honest) old.tiles old.flows.items p flow (so.right honest).grid ground (said so.known) in
    true≢false (sym (c.drains.ensures.1 (subst Drains (sym c.flow-flow.ensures.value) drains)) ∙ c.if-not-drains.true))

pub returns-clause-flow : goal.returns-clause-flow
returns-clause-flow g c honest level filled =
    let b = c.tiles.samples in
    let grid = (right g (goal.at.returns-clause-flow g c).After-resolve honest).grid in
    let said : OnLevels (g.S.Samples.mosaic b) (λ level. IsFlow (terrain (g.S.Samples.mosaic b)) level c.args.point c.flow-flow.result) =
    λ level filled. c.flow-flow.ensures.says (terrain (g.S.Samples.mosaic b)) level (grid.told level filled) in
    subst (λ (n : Mosaic). OnLevels n (λ level. IsFlow (terrain n) level c.args.point c.flow-flow.result)) (c.tiles.invariant.reads.mosaic honest) said level filled

pub returns-clause-right : goal.returns-clause-right
returns-clause-right g c = right g (goal.at.returns-clause-right g c).After-resolve
