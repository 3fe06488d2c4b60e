-- What the program writes about files that were to be written, and the exit status (defined by this product).
use Rattle.std.specs.Prelude.{◌≡◌, ℕ, Result, Ok, Err, string_bytes}
use Rattle.server.specs.Endings.{EndsReplying, TellsRefusal, count_line, fault_line}
use Rattle.server.specs.Program.{TellsFault}
use Rattle.server.specs.declared.places.MakeFault.TheVariants.{Closed}
use Rattle.serving.specs.Outputs.{Puts, Stream}
use Rattle.serving.specs.declared.session.ServeFault.TheVariants as stream
use Rattle.mosaic_tiles.specs.declared.writing.Fault.{Fault}
use Rattle.mosaic_tiles.specs.declared.writing.Fault.TheVariants.{Refused, Path, Output}

-- The program wrote the number of files, or why not all were written.
abbrev pub EndsWriting : Result ℕ Fault → Stream → Stream → ℕ → Type 0
EndsWriting (Ok count) written new status = EndsReplying (count_line count) written new status
EndsWriting (Err (Refused r)) written new status = TellsRefusal r written new status
EndsWriting (Err (Path path)) written new status = TellsFault (string_bytes path) Closed written new status
EndsWriting (Err Output) written new status = Puts written new (fault_line stream.Output) × (status ≡ 1)
