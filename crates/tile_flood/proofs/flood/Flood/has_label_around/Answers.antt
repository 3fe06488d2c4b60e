use Rattle.std.proofs.Common.{arith}
use Rattle.tile_flood.proofs.Dependence.{window_point_of}
use Rattle.tile_flood.proofs.flood.Flood.has_label_around.Goals as goal

pub returns : goal.returns
returns c all z small beside on = let spot = window_point_of c.args.n c.args.point z beside in let low = spot.1.0 in c.loop-d.invariant spot.0 z (omega arith) small spot.1.1 on
