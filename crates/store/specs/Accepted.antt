-- Which commands were accepted, as far as callers can know (defined by this product).
use Rattle.std.specs.Prelude.{◌≡◌, ◌⊎◌, ℕ, ◌+◌, Bool, true, false, List, [], ◌∷◌, ◌++◌, length, Option, Some, None, unwrap_or}
use Rattle.edits.specs.declared.command.Command.{Command}
use Rattle.edits.specs.Effect.{after, accepted}
use Rattle.engine.specs.State.{Contents}

-- What callers know about the commands since an opening. Commands refused by their tests aren't listed. An upgrade is
-- remembered for good.
pub record Since : Type 0 where
  -- the commands that were answered Done, in order
  pub done : List Command
  -- the first command in doubt: a stop came before its answer, or the answer was Device
  pub doubt : Option Command
  -- whether an upgrade was answered Ok, since then or before
  pub upgraded : Bool

abbrev pub none_asked : Since
none_asked = record { done = []; doubt = None; upgraded = false }

-- the knowledge after an opening that found the accepted contents
abbrev pub found_too : Since → Since
found_too since = record none_asked { upgraded = since.upgraded }

abbrev pub done_too : Since → Command → Since
done_too since c = record since { done = since.done ++ c ∷ [] }

abbrev pub doubted_too : Since → Command → Since
doubted_too since c = record since { doubt = Some (unwrap_or since.doubt c) }

abbrev pub upgraded_too : Since → Since
upgraded_too since = record since { upgraded = true }

-- If an upgrade was answered Ok, the version is the second.
abbrev pub KeepsUpgrade : Since → Contents → Type 0
KeepsUpgrade since c = since.upgraded ≡ true → c.version ≡ 2

-- These commands were accepted: each that was answered Done, in order, and then none or the one in doubt.
abbrev pub AreAccepted : Since → List Command → Type 0
AreAccepted since commands = (commands ≡ since.done) ⊎ ((c : Command) × (since.doubt ≡ Some c) × (commands ≡ since.done ++ c ∷ []))

-- These commands, done one after another and none refused, make the contents from the earlier ones.
pub record ComesBy (capacity : ℕ) (was : Contents) (commands : List Command) (c : Contents) : Type 0 where
  pub mosaic : c.mosaic ≡ after capacity was.mosaic commands
  pub none_refused : accepted capacity was.mosaic commands ≡ length commands
  pub count : c.count ≡ was.count + length commands

-- Accepted commands make the contents from the earlier ones. If an upgrade was answered Ok, the contents are upgraded.
abbrev pub IsMadeOf : (capacity : ℕ) → Contents → Since → Contents → Type 0
IsMadeOf capacity was since c = (commands : List Command) × AreAccepted since commands × ComesBy capacity was commands c × KeepsUpgrade since c
