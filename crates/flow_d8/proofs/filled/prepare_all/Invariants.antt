use Rattle.flow_d8.proofs.Prelude.{AreKnown, IsFilledOf, IsGridOf, filled_of, take, ◌≡◌}
use Rattle.lattice.specs.Mosaic.{Mosaic, IsMosaic}
use Rattle.flow_d8.proofs.filled.prepare_all.Given as goal

abbrev pub invariant-loop-tile : goal.invariant-loop-tile
invariant-loop-tile l = record {
  side : l.grid.tiles.side ≡ l.tiles.side;
  corners : l.grid.tiles.corners ≡ take l.tile l.tiles.corners;
  known : AreKnown l.grid.flows.items;
  told : (m : Mosaic) → IsMosaic m → IsFilledOf m (filled_of l.tiles l.levels l.sinks) → IsGridOf m l.grid.tiles l.grid.flows.items;
}
