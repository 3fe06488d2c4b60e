-- A session of questions about a store that another program may be writing (defined by this product).
use Rattle.std.specs.Prelude.{◌≡◌, ◌⊎◌, ℕ, List, Option, Result, Err}
use Rattle.disk.specs.declared.disk.Disk.{Ghosts}
use Rattle.engine.specs.declared.event.Event.TheVariants as ask
use Rattle.engine.specs.declared.event.Reply.{Reply}
use Rattle.lines.specs.declared.language.Language.TheVariants.{Tiles}
use Rattle.server.specs.Endings.{EndsSession, fault_line}
use Rattle.server.specs.Program.{TellsFault}
use Rattle.server.specs.declared.places.MakeFault.TheVariants.{Closed}
use Rattle.serving.specs.Outputs.{HasFailed, Puts, Stream}
use Rattle.serving.specs.Served.{Outcome}
use Rattle.serving.specs.declared.session.ServeFault.{ServeFault}
use Rattle.serving.specs.declared.session.ServeFault.TheVariants.{Output}
use Rattle.mosaic_tiles.specs.Reading.{AnswersOrNot, Responds, TellsAnswer}
use Rattle.mosaic_tiles.specs.declared.store_reader.StoreReader.{StoreReader}
use Rattle.mosaic_tiles.specs.declared.store_reader.Unanswered.{Unanswered}

module _ {D : Type 0} (g : Ghosts D) where
  -- The count of commands is told first, and then each item is answered; or why there is no count, and then nothing is read.
  abbrev pub ReadsStore : (path : List ℕ) → (before after : Option (List ℕ)) → Stream → Stream → ℕ → Type 0
  ReadsStore path before after written new status =
      ((after ≡ before) × TellsFault path Closed written new status)
      ⊎ ((result : Result Reply Unanswered) × (text : List ℕ) × AnswersOrNot g ask.Count result × TellsAnswer result text × (
      ((why : Unanswered) × (result ≡ Err why) × (after ≡ before) × Puts written new text × (status ≡ 1))
      ⊎ ((mid : Stream) × Puts written mid text × (
      ((after ≡ before) × HasFailed mid × Puts mid new (fault_line Output) × (status ≡ 1))
      ⊎ ((last : Stream) × (first : StoreReader D g) × (later : List (StoreReader D g)) × (served : Result (Unit {0}) ServeFault)
      × Outcome Tiles (λ (was : StoreReader D g) i told now. Responds g i told) before after mid.contents last.contents first later served × EndsSession served last new status)))))
