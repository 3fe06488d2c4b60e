-- A session, item by item (defined by this product).
use Rattle.std.specs.Prelude.{◌≡◌, ℕ, List, [], ◌∷◌, Option, Result, Ok, Err, OnOk}
use Rattle.engine.specs.Runs.{last_of}
use Rattle.lines.specs.Ahead.{Lookahead, IsRest, to_come}
use Rattle.lines.specs.declared.language.Language.{Language}
use Rattle.serving.specs.Outputs.{Stream, HasLeft}
use Rattle.serving.specs.Items.{Item}
use Rattle.serving.specs.Session.{Steps}
use Rattle.serving.specs.declared.session.Next.{Next}
use Rattle.serving.specs.declared.session.Next.TheVariants.{More, End}
use Rattle.serving.specs.declared.session.ServeFault.{ServeFault}

-- the state of a session between two items
pub record Moment (R O E : Type 0) : Type 0 where
  pub ahead : Lookahead
  pub reader : R
  pub writer : O
  pub engine : E

-- the state before the first item, with this many reads allowed
abbrev pub at_first : {R O E : Type 0} → R → O → E → Moment R O E
at_first reader writer engine = record { ahead = record { bytes = []; given = 0; reads = 18446744073709551615 }; reader = reader; writer = writer; engine = engine }

-- the result of the last step
abbrev pub ended : Result (Unit {0}) ServeFault → Result Next ServeFault
ended (Ok u) = Ok End
ended (Err fault) = Err fault

module _ {R O E : Type 0} (IsRight : E → Item → List ℕ → E → Type 0) (language : Language) (remaining : R → Option (List ℕ)) (stream : O → Stream) where
  -- one step, which ends so
  pub record IsStep (was : Moment R O E) (now : Moment R O E) (result : Result Next ServeFault) : Type 0 where
    pub engines : List E
    pub engine : last_of was.engine engines ≡ now.engine
    pub item : Steps language IsRight (to_come was.ahead (remaining was.reader)) (to_come now.ahead (remaining now.reader)) (stream was.writer).contents (stream now.writer).contents was.engine engines result
    pub left : OnOk result (HasLeft (stream was.writer) (stream now.writer))

  -- An item was read and answered, and its reply was flushed. After the item's end no further read was made.
  pub record IsTurn (was now : Moment R O E) : Type 0 where
    pub step : IsStep was now (Ok More)
    pub rest : IsRest now.ahead

  -- turns one after another, from this moment on
  abbrev pub AreTurns : Moment R O E → List (Moment R O E) → Type 0
  AreTurns was [] = Unit {0}
  AreTurns was (now ∷ more) = IsTurn was now × AreTurns now more

  -- A session from one moment to another: turns, and then the step that ends it.
  pub record GoesInTurn (first : Moment R O E) (reader : R) (writer : O) (engine : E) (result : Result (Unit {0}) ServeFault) : Type 0 where
    pub moments : List (Moment R O E)
    pub turns : AreTurns first moments
    pub ahead : Lookahead
    pub last : IsStep (last_of first moments) (record { ahead = ahead; reader = reader; writer = writer; engine = engine }) (ended result)
