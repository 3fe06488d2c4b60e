use Rattle.flow_d8.proofs.Prelude.{ArePadded, AreTileFlows, Corner, IsPaddedTile, IsTrue, filled_of, get_or, is_present, no_corner, subst, sym, ◌∙◌, ◌≡◌}
use Rattle.flow_d8.proofs.Mosaics.LevelsOf.{padded_is, tile_present}
use Rattle.flow_d8.proofs.filled.prepare_tile.Goals as goal

pub returns-clause-flows : goal.returns-clause-flows
returns-clause-flows c m is of =
    let t = c.args.tiles.now in
    let levels = c.args.levels.now in
    let sinks = c.args.sinks.now in
    let f = filled_of t levels sinks in
    let corner = get_or t.corners c.args.tile no_corner in
    let corner_is : c.corner-corner.result ≡ corner = c.corner-corner.ensures in
    let padded = padded_is m is f corner c.in_ok-padded.padded.items of c.in_ok-padded.ensures.whole (c.in_ok-padded.ensures.padded sinks) in
    let tile : IsPaddedTile m c.corner-corner.result c.deref.result.now c.sides.result sinks = record {
      present = subst (λ (d : Corner). IsTrue (is_present m d)) (sym corner_is) (tile_present m is f of c.args.tile c.requires.tile);
      levels_are = subst (λ (d : Corner). ArePadded m d c.deref.result.now) (sym corner_is) (subst (ArePadded m corner) (sym c.deref.ensures.value) padded);
      sides_are = c.sides.ensures m levels sinks is of;
      sinks_are = of.sinks;
    } in
    subst (λ (d : Corner). AreTileFlows m d c.in_ok-flows.flows.items) corner_is (c.in_ok-flows.ensures.flows m is (sym (c.side.ensures.value ∙ of.side)) tile)
