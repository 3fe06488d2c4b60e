use Rattle.flow_d8.proofs.Prelude.{AreKnown, AreTileFlows, Contains, List, [], ap, ap₂, arith, get_or, length, no_corner, subst, suc, sym, take, ◌++◌, ◌+◌, ◌<◌, ◌∙◌, ◌∷◌, ◌≡◌}
use Rattle.std.proofs.Math.Seq.{take-suc}
use Rattle.std.proofs.lemmas.List.Elements.{Contains-get_or}
use Rattle.lattice.specs.Corners.{Corner}
use Rattle.flow_d8.proofs.Samples.GridFacts.{grid_push}
use Rattle.flow_d8.proofs.Samples.Slots.{known_append}
use Rattle.flow_d8.proofs.filled.prepare_all.Goals as goal

pub loop-tile-preserved : goal.loop-tile-preserved
loop-tile-preserved c =
    let was = c.loop-tile.invariant in
    let t = c.args.tiles.now in
    let tile = c.loop-tile.tile in
    let e = c.in_ok-push.ensures in
    let corner = get_or t.corners tile no_corner in
    let corner_is : c.corner.result ≡ corner = c.corner.ensures in
    let small : tile < length t.corners = omega (arith, c.loop-tile-test.true, c.tiles-tile-end.ensures.value) in
    let next : suc tile ≡ tile + 1 = omega arith in
    record {
      side = e.side ∙ was.side;
      corners = e.corners ∙ ap₂ (λ (l : List Corner) (d : Corner). l ++ d ∷ []) was.corners corner_is ∙ sym (take-suc t.corners tile no_corner small) ∙ ap (λ k. take k t.corners) next;
      known = known_append c.loop-tile.grid.flows.items c.deref.result.now c.push.new.self.flows.items was.known (subst AreKnown (sym c.deref.ensures.value) c.in_ok-flows.ensures.known) e.items;
      told = λ m is of.
          grid_push m c.loop-tile.grid.tiles c.push.new.self.tiles c.loop-tile.grid.flows.items c.deref.result.now c.push.new.self.flows.items c.corner.result e.side e.corners
          (subst (λ (l : List Corner). Contains l c.corner.result) of.corners (subst (Contains t.corners) (sym corner_is) (Contains-get_or t.corners tile no_corner small)))
          (subst (λ (d : Corner). AreTileFlows m d c.deref.result.now) (sym corner_is) (subst (AreTileFlows m corner) (sym c.deref.ensures.value) (c.in_ok-flows.ensures.flows m is of)))
          e.flows (was.told m is of);
    }
