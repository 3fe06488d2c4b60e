use Rattle.std.proofs.Common.{List, subst, sym, arith, ap, inl, inr, length, get_or, ◌*◌, ◌%◌, ◌<◌, ◌∙◌, ◌≡◌}
use Rattle.flow_d8.proofs.Sayings.Draining.{decide_known}
use Rattle.drainage.proofs.Prelude.{AreRangesOf, AreSlotsOf, AreTileFlows, Contains, Corner, Flow, IsCacheOf, IsGridOf, Mosaic, Tiles, Unknown, no_corner, square_some, true≢false}
use Rattle.flow_cache.proofs.Caches.FlowCaches.{grid_filled, in_slot, slots_filled}
use Rattle.flow_d8.specs.PresentTiles.{corners_of}
use Rattle.catalogue.proofs.Questioned.{stopped_here}
use Rattle.drainage.proofs.downstream.fill_tile.Goals as goal

pub returns-then-not-present-clause-asked : goal.returns-then-not-present-clause-asked
returns-then-not-present-clause-asked g c =
    let a = c.args.samples.now in
    let laws = g.met.S.Samples in
    stopped_here g.S.Samples laws.keeps_itself a
    (λ honest.
    let listed = subst (λ (cs : List Corner). Contains cs c.corner-corner.result) (laws.same_corners a honest) (subst (Contains (corners_of (g.S.Samples.mosaic a))) (sym c.corner-corner.ensures) ((c.requires.right honest).grid.present c.args.slot c.requires.slot)) in
    true≢false (sym (c.present.ensures.answer.1 listed) ∙ c.if-not-present.true))

pub returns-clause-filled : goal.returns-clause-filled
returns-clause-filled g c k at unknown =
    let old = c.args.flows.now.grid in
    let n = old.tiles.side in
    let e = k % (n * n) in
    let some = square_some n c.count-valid.ensures.valid.side_low in
    let inside : e < n * n = omega (arith, some) in
    let filled = c.fill.ensures.flows in
    let bytes = c.deref.result.now in
    let whole : length bytes ≡ n * n = ap (λ (l : List Flow). length l) c.deref.ensures.value ∙ (c.in_ok-prepared.ensures.whole ∙ ap (λ s. s * s) (sym c.requires.side)) in
    let split = in_slot old.tiles c.args.slot k at in
    elim (decide_known (get_or old.flows.items k Unknown)) [
      | inl nothing ↦
          let is = ap (λ j. get_or c.fill.new.self.grid.flows.items j Unknown) split ∙ filled.filled e inside (ap (λ j. get_or old.flows.items j Unknown) (sym split) ∙ nothing) in
          c.in_ok-prepared.ensures.known e (subst (λ (l : List Flow). e < length l) c.deref.ensures.value (subst (λ l. e < l) (sym whole) inside))
          (ap (λ (l : List Flow). get_or l e Unknown) (sym c.deref.ensures.value) ∙ (sym is ∙ unknown))
      | inr known ↦ known (sym (filled.known k known) ∙ unknown)
    ]

pub returns-clause-right : goal.returns-clause-right
returns-clause-right g c honest =
    let a = c.args.samples.now in
    let laws = g.met.S.Samples in
    let m = g.S.Samples.mosaic a in
    let read = c.in_ok-prepared.ensures.asked.reads in
    let before = read.honest honest in
    let so = c.requires.right before in
    let old = c.args.flows.now in
    let new = c.fill.new.self in
    let slot = c.args.slot in
    let corner = get_or old.grid.tiles.corners slot no_corner in
    let some = square_some old.grid.tiles.side c.count-valid.ensures.valid.side_low in
    let bytes = c.deref.result.now in
    let flows = subst (λ (d : Corner). AreTileFlows m d bytes) c.corner-corner.ensures (subst (λ (l : List Flow). AreTileFlows m c.corner-corner.result l) (sym c.deref.ensures.value) (c.in_ok-prepared.ensures.flows honest)) in
    let ranges = subst (λ (d : Corner). AreRangesOf old.grid.tiles.side m d c.in_ok-prepared.prepared.ranges.items) c.corner-corner.ensures
    (subst (λ n. AreRangesOf n m c.corner-corner.result c.in_ok-prepared.prepared.ranges.items) (sym c.requires.side) (c.in_ok-prepared.ensures.ranges honest)) in
    subst (λ (x : Mosaic). IsCacheOf x new) (sym (read.mosaic honest)) (record {
      grid = subst (λ (t : Tiles). IsGridOf m t new.grid.flows.items) (sym c.fill.ensures.tiles) (grid_filled m old.grid.tiles slot bytes old.grid.flows.items new.grid.flows.items c.fill.ensures.flows some flows so.grid);
      slots = subst (λ (t : Tiles). AreSlotsOf m t new.slots.items) (sym c.fill.ensures.tiles)
          (slots_filled m old.grid.tiles old.slots.items new.slots.items slot c.in_ok-prepared.prepared.ranges.items c.fill.ensures.here c.fill.ensures.others ranges so.slots);
    })
