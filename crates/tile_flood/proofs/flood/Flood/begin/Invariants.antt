use Rattle.tile_flood.specs.Floods.{IsBeginningIn, StayListedIn}
use Rattle.tile_flood.proofs.flood.Flood.begin.Given as goal

abbrev pub invariant-loop-k : goal.invariant-loop-k
invariant-loop-k l = record { state : IsBeginningIn l.block l.points l.self l.k; listed : StayListedIn l.block l.fn.self l.self }
