use Rattle.std.proofs.Common.{take}
use Rattle.edits.proofs.BoxVoids.TilesFound.{FindsTiles}
use Rattle.edits.proofs.void_tiles.tiles_of_box.Given as goal

abbrev pub invariant-loop-corner : goal.invariant-loop-corner
invariant-loop-corner g l = FindsTiles g.S.Samples l.from l.to (take l.corner-index l.corner-items) l.fn.samples l.samples l.tiles.items
