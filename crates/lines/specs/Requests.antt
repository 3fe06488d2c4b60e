-- The request of a line's text, and what each command makes of its arguments.
use Rattle.std.specs.Prelude.{ℕ, List, Option, Some, None}
use Rattle.lines.specs.declared.keyword.Keyword.{Keyword}
use Rattle.lines.specs.declared.language.Language.{Language}
use Rattle.lines.specs.declared.request.Request.{Request}
use Rattle.lines.specs.declared.request.Request.TheVariants.{Import, Ask, BadName, Quit}
use Rattle.lines.specs.Grammar.{Asked, AskImport, AskEvent, AskNoTile, AskQuit, Takes, LineAsks}

abbrev pub asked : Request → Asked
asked (Import name len) = AskImport name.now len
asked (Ask event) = AskEvent event
asked BadName = AskNoTile
asked Quit = AskQuit

-- the request of a command with these arguments, or None
abbrev pub IsRequest : Keyword → List (List ℕ) → Option Request → Type 0
IsRequest keyword args (Some r) = Takes keyword args (asked r)
IsRequest keyword args None = (a : Asked) → Takes keyword args a → ⊥

-- the request of a line, or None for a line outside the grammar
abbrev pub IsRequestOf : Language → List ℕ → Option Request → Type 0
IsRequestOf language line (Some r) = LineAsks language line (asked r)
IsRequestOf language line None = (a : Asked) → LineAsks language line a → ⊥
