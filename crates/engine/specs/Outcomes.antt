-- What a store may answer to a command or a query, and its state afterwards (defined by this product). Each relation
-- reads: in state s the call may answer r and lead to state t.
use Rattle.std.specs.Prelude.{◌≡◌, ℕ, ◌+◌, ◌-◌, ◌<◌, ℤ, length, IsTrue, IsFalse, List, Option, Some, None, Result, Ok, Err, map}
use Rattle.lattice.specs.Corners.{Corner}
use Rattle.lattice.specs.declared.point.Point.{Point}
use Rattle.lattice.specs.declared.height.Height.{Height}
use Rattle.lattice.specs.declared.height.Height.TheVariants as height
use Rattle.lattice.specs.declared.refusal.Refusal.{Refusal}
use Rattle.lattice.specs.declared.refusal.Refusal.TheVariants.{NoTile, Outside, Void, Device, NoMemory, Failed, Worn}
use Rattle.lattice.specs.Mosaic.{Mosaic, is_present, samples_of}
use Rattle.lattice.specs.Height.{height_of}
use Rattle.lattice.specs.Ground.{terrain}
use Rattle.lattice.specs.Terrain.{IsFilledLevel}
use Rattle.hgt.specs.Bytes.{hgt_bytes}
use Rattle.edits.specs.declared.command.Command.{Command}
use Rattle.edits.specs.Effect.{effect}
use Rattle.water.specs.FlowPath.{IsFlowPath, IsInWatershed}
use Rattle.water.specs.declared.run.Run.{Run}
use Rattle.water.specs.Runs.{AreRuns}
use Rattle.water.specs.Questions.{IsAnswered, DrainsBy}
use Rattle.engine.specs.State.{Contents, State, last_number, made_by, in_doubt, failing}
use Rattle.engine.specs.declared.info.Info.{Info}

-- The state stays, and the store hasn't failed.
pub record Stays (s t : State) : Type 0 where
  pub working : IsFalse s.failed
  pub same : t ≡ s

-- The store had failed already, and stays failed.
pub record StaysFailed (s t : State) : Type 0 where
  pub failed : IsTrue s.failed
  pub same : t ≡ s

-- The disk failed in this call, and this commit is in doubt.
pub record Fails (s : State) (doubt : Option Contents) (t : State) : Type 0 where
  pub working : IsFalse s.failed
  pub fails : t ≡ failing s doubt

-- The command is accepted as number k, and the new mosaic is its effect.
pub record Accepts (capacity : ℕ) (s : State) (c : Command) (k : ℕ) (t : State) : Type 0 where
  pub working : IsFalse s.failed
  pub effect_is : (new : Mosaic) × ((effect capacity s.contents.mosaic c ≡ Ok new) × (t ≡ record s { contents = made_by s.contents c new }))
  pub counted : k ≡ s.contents.count + 1
  pub room : s.contents.number < last_number

-- The command would be accepted, but the commit number can't grow.
pub record IsWorn (capacity : ℕ) (s : State) (c : Command) (t : State) : Type 0 where
  pub stays : Stays s t
  pub accepted : (new : Mosaic) × (effect capacity s.contents.mosaic c ≡ Ok new)
  pub worn : s.contents.number ≡ last_number

-- The refusal is that of the command's tests.
pub record Refuses (capacity : ℕ) (s : State) (c : Command) (r : Refusal) (t : State) : Type 0 where
  pub stays : Stays s t
  pub refused : effect capacity s.contents.mosaic c ≡ Err r

abbrev pub AppliesNot : ℕ → State → Command → Refusal → State → Type 0
AppliesNot capacity s c Failed t = StaysFailed s t
AppliesNot capacity s c Device t = Fails s (in_doubt capacity s.contents c) t
AppliesNot capacity s c NoMemory t = Stays s t
AppliesNot capacity s c Worn t = IsWorn capacity s c t
AppliesNot capacity s c r t = Refuses capacity s c r t

-- a command, answered with the number of accepted commands
abbrev pub Applies : ℕ → State → Command → Result ℕ Refusal → State → Type 0
Applies capacity s c (Ok k) t = Accepts capacity s c k t
Applies capacity s c (Err r) t = AppliesNot capacity s c r t

abbrev pub ElevatesNot : State → Refusal → State → Type 0
ElevatesNot s Failed t = StaysFailed s t
ElevatesNot s Device t = Fails s None t
ElevatesNot s r t = ⊥

-- the height of a point
abbrev pub Elevates : State → Point → Result Height Refusal → State → Type 0
Elevates s p (Ok h) t = Stays s t × (h ≡ height_of s.contents.mosaic p)
Elevates s p (Err r) t = ElevatesNot s r t

abbrev pub ExportsNot : State → Corner → Refusal → State → Type 0
ExportsNot s c Failed t = StaysFailed s t
ExportsNot s c Device t = Fails s None t
ExportsNot s c NoMemory t = Stays s t
ExportsNot s c NoTile t = Stays s t × (samples_of s.contents.mosaic c ≡ None)
ExportsNot s c r t = ⊥

-- the samples of a tile as HGT bytes
abbrev pub Exports : State → Corner → Result (List ℕ) Refusal → State → Type 0
Exports s c (Ok bytes) t = Stays s t × ((samples : List _) × ((samples_of s.contents.mosaic c ≡ Some samples) × (bytes ≡ hgt_bytes samples)))
Exports s c (Err r) t = ExportsNot s c r t

-- values for all samples of a present tile
abbrev pub TellsTile : {X : Type 0} → (Mosaic → Corner → List X → Type 0) → State → Corner → Result (List X) Refusal → State → Type 0
TellsTile Says s c (Ok values) t = Stays s t × (IsTrue (is_present s.contents.mosaic c) × Says s.contents.mosaic c values)
TellsTile Says s c (Err r) t = ExportsNot s c r t

abbrev pub ListsNot : State → Refusal → State → Type 0
ListsNot s Failed t = StaysFailed s t
ListsNot s NoMemory t = Stays s t
ListsNot s r t = ⊥

-- the corners of the present tiles, in order
abbrev pub Lists : State → Result (List Corner) Refusal → State → Type 0
Lists s (Ok corners) t = Stays s t × (corners ≡ map (λ tile. tile.corner) s.contents.mosaic.tiles)
Lists s (Err r) t = ListsNot s r t

-- the declared sinks, in the order of points
abbrev pub ListsSinks : State → Result (List Point) Refusal → State → Type 0
ListsSinks s (Ok points) t = Stays s t × (points ≡ s.contents.mosaic.sinks)
ListsSinks s (Err r) t = ListsNot s r t

-- the numbers of these contents, for a store of this capacity
abbrev pub info_of : (capacity : ℕ) → Contents → Info
info_of capacity c = record {
  side = c.mosaic.side;
  capacity = capacity;
  version = c.version;
  count = c.count;
  commits = c.number;
  fresh = length c.mosaic.tiles - length c.stale;
  stale = length c.stale;
}

abbrev pub Informs : ℕ → State → Result Info Refusal → State → Type 0
Informs capacity s (Ok info) t = Stays s t × (info ≡ info_of capacity s.contents)
Informs capacity s (Err r) t = ListsNot s r t

abbrev pub AnswersNot : State → Point → Refusal → State → Type 0
AnswersNot s p Outside t = Stays s t × (height_of s.contents.mosaic p ≡ height.Outside)
AnswersNot s p Void t = Stays s t × (height_of s.contents.mosaic p ≡ height.Void)
AnswersNot s p NoMemory t = Stays s t
AnswersNot s p Failed t = StaysFailed s t
AnswersNot s p Device t = Fails s None t
AnswersNot s p r t = ⊥

-- the filled level of a point
abbrev pub Fills : State → Point → Result ℤ Refusal → State → Type 0
Fills s p (Ok level) t = Stays s t × IsFilledLevel (terrain s.contents.mosaic) p level
Fills s p (Err r) t = AnswersNot s p r t

-- the code of a point's direction
abbrev pub Directs : State → Point → Result ℕ Refusal → State → Type 0
Directs s p (Ok code) t = Stays s t × IsAnswered s.contents.mosaic p (λ level. DrainsBy (terrain s.contents.mosaic) level p code)
Directs s p (Err r) t = AnswersNot s p r t

-- the flow path of a point
abbrev pub Traces : State → Point → Result (List Point) Refusal → State → Type 0
Traces s p (Ok path) t = Stays s t × IsAnswered s.contents.mosaic p (λ level. IsFlowPath (terrain s.contents.mosaic) level p path)
Traces s p (Err r) t = AnswersNot s p r t

-- the watershed of a point
abbrev pub Sheds : State → Point → Result (List Run) Refusal → State → Type 0
Sheds s p (Ok runs) t = Stays s t × IsAnswered s.contents.mosaic p (λ level. AreRuns (IsInWatershed (terrain s.contents.mosaic) level p) runs)
Sheds s p (Err r) t = AnswersNot s p r t
