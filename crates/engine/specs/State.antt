-- The state of a store, which its promises are about (defined by this product).
use Rattle.std.specs.Prelude.{ℕ, ◌+◌, nat_lt, if◌then◌else◌, Bool, true, false, List, [], Option, Some, None, Result, Ok, Err}
use Rattle.lattice.specs.Corners.{Corner}
use Rattle.lattice.specs.declared.refusal.Refusal.{Refusal}
use Rattle.lattice.specs.Mosaic.{Mosaic, empty_mosaic}
use Rattle.edits.specs.declared.command.Command.{Command}
use Rattle.edits.specs.Effect.{effect}
use Rattle.edits.specs.Touched.{stale_after}

-- the contents of a store: its format's version, the mosaic, the number of commands accepted since the format, the
-- number of its last commit, and the present tiles without kept planes, in order
pub record Contents : Type 0 where
  pub version : ℕ
  pub mosaic : Mosaic
  pub count : ℕ
  pub number : ℕ
  pub stale : List Corner

-- a state: the last known contents; whether the disk failed a call or an opening was refused since the last successful
-- opening; and the contents of the commit in doubt, if there is one
pub record State : Type 0 where
  pub contents : Contents
  pub failed : Bool
  pub doubt : Option Contents

-- the contents after formatting in the second version: no tile, no command, the first commit
abbrev pub fresh : ℕ → Contents
fresh n = record { version = 2; mosaic = empty_mosaic n; count = 0; number = 1; stale = [] }

-- the contents after formatting in the first version
abbrev pub fresh_1 : ℕ → Contents
fresh_1 n = record (fresh n) { version = 1 }

-- the contents after an accepted command made the new mosaic
abbrev pub made_by : Contents → Command → Mosaic → Contents
made_by was c new = record was {
  mosaic = new;
  count = was.count + 1;
  number = was.number + 1;
  stale = stale_after was.mosaic c was.stale new;
}

-- the contents that the command would make, if it isn't refused
abbrev pub would_make : Contents → Command → Result Mosaic Refusal → Option Contents
would_make was c (Ok new) = Some (made_by was c new)
would_make was c (Err r) = None

-- the greatest commit number
abbrev pub last_number : ℕ
last_number = 18446744073709551615

-- the contents that a commit would make, if the commit number can grow
abbrev pub if_numbered : Contents → Option Contents → Option Contents
if_numbered was made = if nat_lt was.number last_number then made else None

-- the contents of a command's commit, if the disk fails in it
abbrev pub in_doubt : ℕ → Contents → Command → Option Contents
in_doubt capacity was c = if_numbered was (would_make was c (effect capacity was.mosaic c))

-- the state after the disk failed a call, with this commit in doubt
abbrev pub failing : State → Option Contents → State
failing s doubt = record { contents = s.contents; failed = true; doubt = doubt }

-- the state with these contents, without a failure
abbrev pub working : Contents → State
working c = record { contents = c; failed = false; doubt = None }
