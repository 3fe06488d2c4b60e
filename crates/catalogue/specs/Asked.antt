-- How a question over samples changes them, and how it may be refused (defined by this product).
use Rattle.std.specs.Prelude.{◌≡◌, ◌≢◌, Result, Err, IsOk, IfErr}
use Rattle.lattice.specs.declared.refusal.Refusal.{Refusal}
use Rattle.lattice.specs.declared.refusal.Refusal.TheVariants.{Outside, Void, NoMemory, Damaged}
use Rattle.catalogue.specs.Readers.{OnlyReads}
use Rattle.catalogue.specs.declared.samples.Samples.{Ghosts}

-- the refusals of a question whose reads were all answered
abbrev pub IsOwnRefusal : Refusal → Type 0
IsOwnRefusal Outside = Unit {0}
IsOwnRefusal Void = Unit {0}
IsOwnRefusal NoMemory = Unit {0}
IsOwnRefusal Damaged = Unit {0}
IsOwnRefusal _ = ⊥

-- A question only reads samples. A refused read refuses it. Otherwise it is answered or refused for another reason, and
-- the samples can still be read.
pub record Asked {S T : Type 0} (g : Ghosts S) (old new : S) (result : Result T Refusal) : Type 0 where
  -- the result of the reads
  pub read : Result (Unit {0}) Refusal
  pub reads : OnlyReads g old new read
  pub passed : IfErr read (λ r. result ≡ Err r)
  pub own : IsOk read → IfErr result IsOwnRefusal
  -- Honest samples that were ready aren't Damaged.
  pub sound : g.is_honest new → g.is_ready old → result ≢ Err Damaged
