-- What the calls that write a text do to an output, before the flush.
use Rattle.std.specs.Prelude.{◌≡◌, ℕ, List, Result, Ok, Err}
use Rattle.std.specs.Io.KnownBytes.{Appends}
use Rattle.serving.specs.Outputs.{Breaks, Stream}

-- The whole text was written and no call failed, or a call failed.
abbrev pub WritesAll : {E : Type 0} → Stream → Stream → Result (Unit {0}) E → List ℕ → Type 0
WritesAll old new (Ok u) text = Appends old.contents new.contents text × (new.failures ≡ old.failures)
WritesAll old new (Err e) text = Breaks old new text
