-- What a flow says: whether it shows where its point drains, and in which direction. Also: opposite directions.
use Rattle.std.specs.Prelude.{Option, Some, None}
use Rattle.lattice.specs.declared.direction.Dir.{Dir}
use Rattle.lattice.specs.declared.direction.Dir.TheVariants.{East, SouthEast, South, SouthWest, West, NorthWest, North, NorthEast}
use Rattle.water.specs.declared.flow.Flow.{Flow}
use Rattle.water.specs.declared.flow.Flow.TheVariants.{Unknown, NoGround, Outlet, To, Beside, Flat, FlatTo}

-- the flow shows where the point drains
abbrev pub Drains : Flow → Type 0
Drains Unknown = ⊥
Drains NoGround = ⊥
Drains Flat = ⊥
Drains _ = Unit {0}

-- the flow is resolved: it shows where the point drains, or that it isn't ground
abbrev pub IsTellingAll : Flow → Type 0
IsTellingAll Unknown = ⊥
IsTellingAll Flat = ⊥
IsTellingAll _ = Unit {0}

-- the flow's direction, if it has one
abbrev pub direction_of : Flow → Option Dir
direction_of (To d) = Some d
direction_of (Beside d) = Some d
direction_of (FlatTo d) = Some d
direction_of _ = None

-- the opposite direction
abbrev pub back_of : Dir → Dir
back_of East = West
back_of SouthEast = NorthWest
back_of South = North
back_of SouthWest = NorthEast
back_of West = East
back_of NorthWest = SouthEast
back_of North = South
back_of NorthEast = SouthWest
