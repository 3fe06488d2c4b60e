-- What the calls on an output have written (defined by this product).
use Rattle.std.specs.Prelude.{◌≡◌, ◌≤◌, ◌<◌, ◌⊎◌, ℕ, List, length, take, Option, Bool, true, Result, Ok, Err}
use Rattle.std.specs.Io.KnownBytes.{Appends, Keeps}
use Rattle.catalogue.specs.Reading.{HasRisen}
use Rattle.serving.specs.declared.session.ServeFault.{ServeFault}
use Rattle.serving.specs.declared.session.ServeFault.TheVariants.{Output}

-- the bytes written, if they are known; the number of failed calls, at most the largest 64-bit number; and whether a
-- flush has succeeded since the last write
pub record Stream : Type 0 where
  pub contents : Option (List ℕ)
  pub failures : ℕ
  pub is_flushed : Bool

abbrev pub HasFailed : Stream → Type 0
HasFailed s = 0 < s.failures

-- A call failed and wrote nothing.
abbrev pub Fails : Stream → Stream → Type 0
Fails old new = Keeps old.contents new.contents × HasRisen old.failures new.failures

-- At least one of the bytes was written, or the call failed.
abbrev pub Writes : {E : Type 0} → Stream → Stream → Result ℕ E → List ℕ → Type 0
Writes old new (Ok n) bytes = (0 < n) × (n ≤ length bytes) × Appends old.contents new.contents (take n bytes) × (new.failures ≡ old.failures)
Writes old new (Err e) bytes = Fails old new

-- All written bytes were flushed, or the call failed.
abbrev pub Flushes : {E : Type 0} → Stream → Stream → Result (Unit {0}) E → Type 0
Flushes old new (Ok u) = Keeps old.contents new.contents × (new.failures ≡ old.failures) × (new.is_flushed ≡ true)
Flushes old new (Err e) = Fails old new

-- A prefix of the text was written.
abbrev pub Begins : Option (List ℕ) → Option (List ℕ) → List ℕ → Type 0
Begins written new text = (n : ℕ) × Appends written new (take n text)

-- A prefix of the text was written, and a call failed.
abbrev pub Breaks : Stream → Stream → List ℕ → Type 0
Breaks old new text = Begins old.contents new.contents text × HasRisen old.failures new.failures

-- The whole text was written and flushed, and no call failed.
pub record Leaves (old new : Stream) (text : List ℕ) : Type 0 where
  pub whole : Appends old.contents new.contents text
  pub none : new.failures ≡ old.failures
  pub flushed : new.is_flushed ≡ true

-- The whole text was written and flushed; or a prefix of it was written, and a call failed.
abbrev pub Puts : Stream → Stream → List ℕ → Type 0
Puts old new text = Leaves old new text ⊎ Breaks old new text

-- Nothing was written, or all written bytes were flushed.
abbrev pub HasLeft : Stream → Stream → Type 0
HasLeft old new = (new ≡ old) ⊎ (new.is_flushed ≡ true)

-- The answer is a fault of the output exactly if a write or a flush has failed.
pub record TellsFailure {T : Type 0} (old new : Stream) (result : Result T ServeFault) : Type 0 where
  pub told : (new.failures ≡ old.failures) ⊎ (result ≡ Err Output)
  pub caused : result ≡ Err Output → HasFailed new
