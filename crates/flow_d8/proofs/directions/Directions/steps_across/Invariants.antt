use Rattle.flow_d8.proofs.Prelude.{count_of, ◌-◌, ◌≡◌}
use Rattle.flow_d8.specs.Directions.{walk}
use Rattle.flow_d8.proofs.Paths.Crossing.{and_more}
use Rattle.flow_d8.proofs.directions.Directions.steps_across.Given as goal

abbrev pub invariant-loop-steps : goal.invariant-loop-steps
invariant-loop-steps l = walk l.self (count_of l.self.tiles) l.number ≡ and_more l.steps (walk l.self (count_of l.self.tiles - l.steps) l.at)
