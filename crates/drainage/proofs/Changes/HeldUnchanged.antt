-- Where no height changes, all that is held is right still.
use Rattle.drainage.proofs.Prelude.{AreFilledLevels, AreFlows, AreSlotsOf, Corner, DifferAt, DrainageCache, FlowCache, HasLevel, IsHeldOf, Mosaic, Point, Slot, TileCache, ℤ, are_right, flow_cache_right, known_of, padded_point, subst, sym, terrain, ◌∙◌, ◌≡◌}
use Rattle.std.specs.Prelude.{Option, Some, None, List, Contains, slice_index_or}
use Rattle.lattice.specs.Height.{height_of}
use Rattle.flow_d8.specs.Tiles.{Tiles, no_corner, place_of}
use Rattle.flow_cache.proofs.Changes.LevelRanges.{ends_as}
use Rattle.drainage.proofs.Caches.Listed.{listed_same}
use Rattle.levels.proofs.Changes.Unchanged.{ground, known_still, same_terrain}

module _ (m new : Mosaic) (p : Point) (differ : DifferAt m new p) (here : height_of new p ≡ height_of m p) where
  tiles_still : (tile_cache : Option TileCache) → are_right m tile_cache → are_right new tile_cache
  tiles_still None right = tt
  tiles_still (Some tile_cache) right = known_still m new p differ here (known_of tile_cache) right

  levels_back : (level : Point → ℤ) → AreFilledLevels (terrain new) level → AreFilledLevels (terrain m) level
  levels_back level filled = subst (λ t. AreFilledLevels t level) (sym (same_terrain m new p differ here)) filled

  slots_still : (tiles : Tiles) (slots : List Slot) → AreSlotsOf m tiles slots → AreSlotsOf new tiles slots
  slots_still tiles slots right i small =
      let n = tiles.side in
      let c = slice_index_or tiles.corners i no_corner in
      let ranges = right i small in
      record {
        within = λ level filled h j row column on. ranges.within level (levels_back level filled) h j row column (sym (ground m new p differ here (padded_point n c h j)) ∙ on);
        ends = λ level filled b r known. ends_as r (HasLevel n m c level b) (HasLevel n new c level b) (λ v (h, j, row, column, block, on, at). (h, j, row, column, block, ground m new p differ here (padded_point n c h j) ∙ on, at))
            (ranges.ends level (levels_back level filled) b r known);
      }

  flows_still : (flow_cache : Option FlowCache) → flow_cache_right m flow_cache → flow_cache_right new flow_cache
  flows_still None right = tt
  flows_still (Some cache) right = record {
    grid = record {
      same_side = right.grid.same_side ∙ sym differ.around.same_side;
      present = λ i small. subst (λ (cs : List Corner). Contains cs (slice_index_or cache.grid.tiles.corners i no_corner)) (sym differ.around.same_corners) (right.grid.present i small);
      told = λ level filled. subst (λ t. AreFlows t level (place_of cache.grid.tiles) cache.grid.flows.items) (same_terrain m new p differ here) (right.grid.told level (levels_back level filled));
    };
    slots = slots_still cache.grid.tiles cache.slots.items right.slots;
  }

  pub held_unchanged : (held : DrainageCache) → IsHeldOf m held → IsHeldOf new held
  held_unchanged held right = record {
    tile_cache = tiles_still held.tile_cache right.tile_cache;
    flow_cache = flows_still held.flow_cache right.flow_cache;
    corners = listed_same m new differ.around.same_corners held.corners right.corners;
  }
