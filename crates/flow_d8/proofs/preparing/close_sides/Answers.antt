use Rattle.flow_d8.proofs.Prelude.{Dir, IsClosedAt, NorthEast, NorthWest, Sides, SouthEast, SouthWest, ℕ, along_of, arith, ◌+◌, ◌<◌}
use Rattle.flow_d8.proofs.preparing.close_sides.Goals as goal

along_below : (n : ℕ) (sides : Sides) (d : Dir) (r s : ℕ) → IsClosedAt n sides d r s → along_of d r s + 1 < n
along_below n sides SouthEast r s at = absurd at
along_below n sides SouthWest r s at = absurd at
along_below n sides NorthWest r s at = absurd at
along_below n sides NorthEast r s at = absurd at
along_below n sides _ r s at = at.3

pub returns-clause-told : goal.returns-clause-told
returns-clause-told c d r s at = c.loop-i.invariant.told d r s at (omega (arith, along_below c.args.tile.now.side c.args.tile.now.sides.now d r s at, c.loop-i-test.false, c.samples-n.ensures.value))
