use Rattle.tile_flood.specs.Floods.{AreMendingIn, StayListedIn}
use Rattle.tile_flood.proofs.flood.Flood.settle_changes.Given as goal

abbrev pub invariant-loop : goal.invariant-loop
invariant-loop l = record { state : AreMendingIn l.block l.self; listed : StayListedIn l.block l.fn.self l.self }
