-- What the program does with its words (defined by this product).
use Rattle.std.specs.Prelude.{◌≡◌, ◌⊎◌, ℕ, List, map, string_bytes, Result, IfOk}
use Rattle.serving.specs.Outputs.{Stream}
use Rattle.mosaic_tiles.specs.Endings.{EndsWriting}
use Rattle.mosaic_tiles.specs.Layers.{AskedBy, IsCountAsked}
use Rattle.mosaic_tiles.specs.Reading.{AsksToRead}
use Rattle.mosaic_tiles.specs.declared.layers.Writing.{Writing}
use Rattle.mosaic_tiles.specs.declared.writing.Fault.{Fault}

-- The program wrote files of tiles, and then their number, or why not all were written.
abbrev pub Writes : Writing → Stream → Stream → ℕ → Type 0
Writes asked written new status = (made : Result ℕ Fault) × IfOk made (IsCountAsked (map string_bytes asked.names.now)) × EndsWriting made written new status

-- The words ask to write files of tiles, and then nothing is read and no file of the places is asked for; or they don't, and
-- then this is done.
abbrev pub DoesAsked : (words : List (List ℕ)) → (Untouched : Type 0) → Stream → Stream → ℕ → (Else : Type 0) → Type 0
DoesAsked words Untouched written new status Else =
    ((asked : Writing) × AskedBy words asked × Untouched × Writes asked written new status)
    ⊎ (((asked : Writing) → AskedBy words asked → ⊥) × Else)

-- the words ask to read questions for a store, and then no file of the places is asked for; or they don't, and then this is done
abbrev pub ReadsOrRuns : (words : List (List ℕ)) → (Untouched : Type 0) → (Reads : List ℕ → Type 0) → (Runs : Type 0) → Type 0
ReadsOrRuns words Untouched Reads Runs =
    ((path : List ℕ) × AsksToRead words path × Untouched × Reads path)
    ⊎ (((path : List ℕ) → AsksToRead words path → ⊥) × Runs)
