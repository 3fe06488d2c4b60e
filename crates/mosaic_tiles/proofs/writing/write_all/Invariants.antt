use Rattle.std.proofs.Common.{map, string_bytes}
use Rattle.mosaic_tiles.specs.Layers.{IsCountAsked}
use Rattle.mosaic_tiles.proofs.writing.write_all.Given as goal

abbrev pub invariant-loop-i : goal.invariant-loop-i
invariant-loop-i l = IsCountAsked (map string_bytes l.fn.asked.names.now) l.count
