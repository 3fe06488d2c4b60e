use Rattle.flow_d8.specs.FlowGrids.{AreKnown}
use Rattle.drainage.proofs.Prelude.{AreRangesOf, AreSlotsOf, AreTileFlows, Contains, Corner, Flow, IsCacheOf, IsGridOf, List, Mosaic, Slot, Tiles, ap, arith, length, square_some, subst, sym, ◌*◌, ◌<◌, ◌∙◌, ◌≡◌}
use Rattle.flow_cache.proofs.Caches.FlowCaches.{slots_push}
use Rattle.flow_cache.proofs.Caches.KnownCount.{count_push}
use Rattle.flow_d8.proofs.Samples.GridFacts.{grid_push}
use Rattle.drainage.proofs.Tiles.GroundAtHand.{some_holds}
use Rattle.catalogue.proofs.Questioned.{stopped_here}
use Rattle.drainage.proofs.downstream.push_tile.Goals as goal

pub returns-in_default-clause-asked : goal.returns-in_default-clause-asked
returns-in_default-clause-asked g c =
    let a = c.args.samples.now in
    let laws = g.met.S.Samples in
    stopped_here g.S.Samples g.met.S.Samples.keeps_itself a
    (λ honest. some_holds (g.S.Samples.mosaic a) (laws.is_mosaic a honest) (g.S.Samples.side_of a) (laws.same_side a honest) (g.S.Samples.corners a) (laws.same_corners a honest) c.args.point
    (c.requires.ground honest) c.in_default.ensures.none)

pub returns-in_err-push-clause-right : goal.returns-in_err-push-clause-right
returns-in_err-push-clause-right g c honest =
    let read = c.in_ok-prepared.ensures.asked.reads in
    let so = c.requires.right (read.honest honest) in
    let old = c.args.flows.now in
    let new = c.push.new.self in
    let failed = c.in_err-push.ensures.failed in
    subst (λ (n : Mosaic). IsCacheOf n new) (sym (read.mosaic honest)) (record {
      grid = subst (λ (l : List Flow). IsGridOf (g.S.Samples.mosaic c.args.samples.now) new.grid.tiles l) (sym failed.1) (subst (λ (t : Tiles). IsGridOf (g.S.Samples.mosaic c.args.samples.now) t old.grid.flows.items) (sym failed.0) so.grid);
      slots = subst (λ (l : List Slot). AreSlotsOf (g.S.Samples.mosaic c.args.samples.now) new.grid.tiles l) (sym failed.2) (subst (λ (t : Tiles). AreSlotsOf (g.S.Samples.mosaic c.args.samples.now) t old.slots.items) (sym failed.0) so.slots);
    })

pub returns-clause-grown : goal.returns-clause-grown
returns-clause-grown g c =
    let old = c.args.flows.now.grid in
    let bytes = c.deref.result.now in
    let some = square_some old.tiles.side c.count-valid.ensures.valid.side_low in
    let whole : length bytes ≡ old.tiles.side * old.tiles.side = ap (λ (l : List Flow). length l) c.deref.ensures.value ∙ (c.in_ok-prepared.ensures.whole ∙ ap (λ s. s * s) (sym c.requires.side)) in
    count_push old.flows.items bytes c.push.new.self.grid.flows.items c.in_ok-push.ensures.items (subst (λ l. 0 < l) (sym whole) some) (subst AreKnown (sym c.deref.ensures.value) c.in_ok-prepared.ensures.known)

pub returns-clause-right : goal.returns-clause-right
returns-clause-right g c honest =
    let a = c.args.samples.now in
    let laws = g.met.S.Samples in
    let m = g.S.Samples.mosaic a in
    let read = c.in_ok-prepared.ensures.asked.reads in
    let before = read.honest honest in
    let so = c.requires.right before in
    let old = c.args.flows.now.grid in
    let new = c.push.new.self.grid in
    let told = subst (λ (l : List Flow). AreTileFlows m c.in-Some.corner l) (sym c.deref.ensures.value) (c.in_ok-prepared.ensures.flows honest) in
    let present = subst (λ (cs : List Corner). Contains cs c.in-Some.corner) (sym (laws.same_corners a before)) c.in-Some.ensures.some.0 in
    let ranges = subst (λ n. AreRangesOf n m c.in-Some.corner c.in_ok-prepared.prepared.ranges.items) (sym c.requires.side) (c.in_ok-prepared.ensures.ranges honest) in
    subst (λ (n : Mosaic). IsCacheOf n c.push.new.self) (sym (read.mosaic honest)) (record {
      grid = grid_push m old.tiles new.tiles old.flows.items c.deref.result.now new.flows.items c.in-Some.corner c.in_ok-push.ensures.side c.in_ok-push.ensures.corners present told c.in_ok-push.ensures.flows so.grid;
      slots = slots_push m old.tiles new.tiles c.args.flows.now.slots.items c.push.new.self.slots.items c.in-Some.corner c.in_ok-prepared.prepared.ranges.items c.in_ok-push.ensures.side c.in_ok-push.ensures.corners
          c.in_ok-push.ensures.slots.0 c.in_ok-push.ensures.slots.1 ranges so.slots;
    })
