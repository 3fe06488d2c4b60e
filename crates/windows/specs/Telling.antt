-- What an engine answered about its mosaic to a number of questions (defined by this product).
use Rattle.std.specs.Prelude.{◌≡◌, ◌≢◌, ◌<◌, ◌≤◌, ℕ, IsTrue, Option, Some, None, Result, Ok, Err}
use Rattle.catalogue.specs.Reading.{HasRisen}
use Rattle.lattice.specs.Mosaic.{Mosaic}
use Rattle.lattice.specs.declared.refusal.Refusal.{Refusal}
use Rattle.lattice.specs.declared.refusal.Refusal.TheVariants.{Device, Failed}
use Rattle.engine.specs.State.{Contents, State}
use Rattle.engine.specs.declared.engine.Engine.{Ghosts}

abbrev pub refusal_of : {T : Type 0} → Result T Refusal → Option Refusal
refusal_of (Ok value) = None
refusal_of (Err r) = Some r

module _ {E : Type 0} (g : Ghosts E) where
  -- The engine is in a state with these contents.
  abbrev pub Has : E → Contents → Type 0
  Has e contents = (s : State) × (g.is_at e s × (s.contents ≡ contents))

  -- This many questions were asked; or fewer, if the last one was refused with this refusal.
  pub record Tells (old new : E) (count : ℕ) (refused : Option Refusal) (Says : Mosaic → Type 0) : Type 0 where
    -- An engine that is honest afterwards was honest before. Its contents stay, and `Says` is true of their mosaic.
    pub honest : g.is_honest new → g.is_honest old
    pub kept : g.is_honest new → (contents : Contents) → Has old contents → Has new contents
    pub says : g.is_honest new → (contents : Contents) → Has old contents → Says contents.mosaic
    -- On any disk: the refusal is Failed exactly if the engine had failed before, and Device only if the disk fails
    -- now.
    pub had_failed : 0 < count → IsTrue (g.has_failed old) → refused ≡ Some Failed
    pub failed : refused ≡ Some Failed → IsTrue (g.has_failed old)
    pub device : refused ≡ Some Device → HasRisen (g.failures old) (g.failures new)
    pub stays : refused ≢ Some Device → g.has_failed new ≡ g.has_failed old
    pub later : g.failures old ≤ g.failures new
    -- Nothing is written, and the capacity stays.
    pub writes : g.writes new ≡ g.writes old
    pub capacity : g.capacity_of new ≡ g.capacity_of old

  -- The question is refused at once and nothing is asked; or it is asked.
  abbrev pub Asked : (old new : E) (first : Option Refusal) (count : ℕ) (refused : Option Refusal) (Says : Mosaic → Type 0) → Type 0
  Asked old new (Some r) count refused Says = (refused ≡ Some r) × (new ≡ old)
  Asked old new None count refused Says = Tells old new count refused Says
