use Rattle.std.proofs.Common.{◌≡◌, List, ℕ, take}
use Rattle.std.specs.Borrow.{Bor}
use Rattle.std.specs.Prelude.{fold}
use Rattle.clap.specs.Words.{App, Text, app_of, with_subcommand}
use Rattle.server.specs.Subcommands.{empty_app, words_app}
use Rattle.server.proofs.arguments.command.Given as goal

-- a subcommand's name and the names of its texts
abbrev pub Row : Type 0
Row = Bor Text × Bor (List (Bor Text))

abbrev pub step : App → Row → App
step app row = with_subcommand app (words_app row.0.now row.1.now).top

-- the program's clap command, built from the rows before this one
pub record IsBuilt (rows : List Row) (i : ℕ) (app : App) : Type 0 where
  pub is : app ≡ fold step empty_app (take i rows)

abbrev pub invariant-loop-name : goal.invariant-loop-name
invariant-loop-name l = IsBuilt l.name-items l.name-index (app_of l.command)
