use Rattle.std.proofs.Common.{map, string_bytes, take}
use Rattle.mosaic_tiles.specs.Layers.{AreNames}
use Rattle.mosaic_tiles.proofs.layers.named.Given as goal

abbrev pub invariant-loop-name : goal.invariant-loop-name
invariant-loop-name l = AreNames (map string_bytes (take l.name-index l.names)) l.corners.items
