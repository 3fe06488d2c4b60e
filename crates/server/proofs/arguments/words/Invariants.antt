use Rattle.std.proofs.Common.{◌≡◌, take}
use Rattle.clap.specs.Words.{app_of}
use Rattle.server.specs.Subcommands.{words_app}
use Rattle.server.proofs.arguments.words.Given as goal

abbrev pub invariant-loop-text : goal.invariant-loop-text
invariant-loop-text l = app_of l.command ≡ words_app l.name (take l.text-index l.texts)
