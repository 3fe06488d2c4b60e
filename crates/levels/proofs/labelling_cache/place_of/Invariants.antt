use Rattle.levels.proofs.Prelude.{All, HeldLabelling, take, ◌≢◌}
use Rattle.levels.proofs.labelling_cache.place_of.Given as goal

abbrev pub invariant-loop-at : goal.invariant-loop-at
invariant-loop-at l = All (λ (one : HeldLabelling). one.place ≢ l.t) (take l.at l.held)
