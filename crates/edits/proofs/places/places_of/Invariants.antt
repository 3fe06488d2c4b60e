use Rattle.std.proofs.Common.{take}
use Rattle.edits.proofs.PlaceLemmas.{PlacesAmong}
use Rattle.edits.proofs.places.places_of.Given as goal

abbrev pub invariant-loop-corner : goal.invariant-loop-corner
invariant-loop-corner g l = PlacesAmong (g.S.Samples.side_of l.samples) (g.S.Samples.corners l.samples) (take l.corner-index l.corner-items) l.point l.places.items
