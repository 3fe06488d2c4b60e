use Rattle.std.proofs.Common.{◌≡◌, drop}
use Rattle.cow_tree.specs.Past.{past_tile}
use Rattle.cow_tree.proofs.past_planes.PastPlanes.tile.Given as goal

abbrev pub invariant-loop-tile : goal.invariant-loop-tile
invariant-loop-tile l = past_tile (drop l.tile-index l.self.tiles.items) l.corner ≡ past_tile l.self.tiles.items l.corner
