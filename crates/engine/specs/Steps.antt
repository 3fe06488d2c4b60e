-- What a step and an upgrade may answer, and the state afterwards (defined by this product). A step is an event; only a
-- store has upgrades.
use Rattle.std.specs.Prelude.{◌≡◌, ◌≢◌, ◌+◌, ◌<◌, Bool, not, IsTrue, IsFalse, [], filter, Contains, Option, Some, None, Result, Ok, Err}
use Rattle.lattice.specs.Corners.{Corner, same_corner}
use Rattle.lattice.specs.declared.refusal.Refusal.{Refusal}
use Rattle.lattice.specs.declared.refusal.Refusal.TheVariants.{Device, NoMemory, Failed, Worn, TooSmall, NotOld}
use Rattle.engine.specs.State.{Contents, State, last_number, if_numbered}
use Rattle.engine.specs.Outcomes.{Stays, StaysFailed, Fails}

-- A commit made these contents.
pub record Commits (s : State) (made : Contents) (t : State) : Type 0 where
  pub working : IsFalse s.failed
  pub room : s.contents.number < last_number
  pub made_is : t ≡ record s { contents = made }

-- A commit would be made, but the commit number can't grow.
pub record IsWornOut (s t : State) : Type 0 where
  pub stays : Stays s t
  pub worn : s.contents.number ≡ last_number

-- ---- steps

-- the contents after one more commit, with the tile no longer stale
abbrev pub stepped : Corner → Contents → Contents
stepped c was = record was { number = was.number + 1; stale = filter (λ d. not (same_corner d c)) was.stale }

-- A step is for a stale tile, or for none if no tile is stale.
abbrev pub IsStepOf : Contents → Option Corner → Type 0
IsStepOf was (Some c) = Contains was.stale c
IsStepOf was None = was.stale ≡ []

-- the contents of a step's commit, if the disk fails in it
abbrev pub step_in_doubt : Contents → Option Corner → Option Contents
step_in_doubt was (Some c) = if_numbered was (Some (stepped c was))
step_in_doubt was None = None

abbrev pub StepsNot : State → Refusal → State → Type 0
StepsNot s Failed t = StaysFailed s t
StepsNot s Device t = (tile : Option Corner) × (IsStepOf s.contents tile × Fails s (step_in_doubt s.contents tile) t)
StepsNot s NoMemory t = Stays s t
StepsNot s Worn t = IsWornOut s t × (s.contents.stale ≢ [])
StepsNot s r t = ⊥

-- a step, answered with the tile whose planes it stored, or none
abbrev pub Steps : State → Result (Option Corner) Refusal → State → Type 0
Steps s (Ok None) t = Stays s t × IsStepOf s.contents None
Steps s (Ok (Some c)) t = IsStepOf s.contents (Some c) × Commits s (stepped c s.contents) t
Steps s (Err r) t = StepsNot s r t

-- ---- upgrades

-- the contents after one more commit in the second version: the mosaic, its sinks, the count and the stale tiles stay
abbrev pub upgraded : Contents → Contents
upgraded was = record was { version = 2; number = was.number + 1 }

-- The store is of the first version. `has_room` says whether its disk has the sectors that the second version needs.
pub record IsOld (s : State) (has_room : Bool) : Type 0 where
  pub version : s.contents.version ≡ 1
  pub fits : IsTrue has_room

abbrev pub UpgradesNot : Bool → State → Refusal → State → Type 0
UpgradesNot has_room s Failed t = StaysFailed s t
UpgradesNot has_room s NotOld t = Stays s t × (s.contents.version ≡ 2)
UpgradesNot has_room s TooSmall t = Stays s t × (s.contents.version ≡ 1) × IsFalse has_room
UpgradesNot has_room s Worn t = IsWornOut s t × IsOld s has_room
UpgradesNot has_room s Device t = IsOld s has_room × Fails s (if_numbered s.contents (Some (upgraded s.contents))) t
UpgradesNot has_room s NoMemory t = Stays s t
UpgradesNot has_room s r t = ⊥

abbrev pub Upgrades : Bool → State → Result (Unit {0}) Refusal → State → Type 0
Upgrades has_room s (Ok u) t = IsOld s has_room × Commits s (upgraded s.contents) t
Upgrades has_room s (Err r) t = UpgradesNot has_room s r t
