use Rattle.std.proofs.Common.{◌<◌, length}
use Rattle.flow_cache.proofs.flow_cache.FlowCache.oldest.Given as goal

abbrev pub invariant-loop-slot : goal.invariant-loop-slot
invariant-loop-slot l = l.oldest < length l.self.grid.tiles.corners
