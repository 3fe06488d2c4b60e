-- Stores of which each answer was confirmed.
use Rattle.std.proofs.Common.{◌≡◌, [], ◌∷◌, Bool, true, refl, subst}
use Rattle.std.specs.Prelude.{Ok}
use Rattle.std.proofs.Math.Logic.{∥∥₁_map}
use Rattle.disk.specs.declared.disk.Disk.{Ghosts}
use Rattle.engine.specs.Engines.{IsCall}
use Rattle.engine.specs.declared.event.Event.{Event}
use Rattle.engine.specs.declared.event.Reply.{Reply}
use Rattle.roots.specs.RootTests.{HasTested}
use Rattle.roots.specs.Slots.{IsNotPassed, StandsOpen, other}
use Rattle.store.specs.RootTests.{Tests}
use Rattle.store.specs.Sessions.{IsOpening}
use Rattle.store.specs.StoreState.{members}
use Rattle.store.specs.Stores.{disk_of, root_of, slot_of}
use Rattle.store.specs.declared.store.Store.{Store}
use Rattle.mosaic_tiles.specs.Reading.{Confirmed, IsConfirmed}

module _ {D : Type 0} (g : Ghosts D) where
  pub just_opened : (disk : D) (store : Store D g) → IsOpening g disk (Ok store) → IsConfirmed g store
  just_opened disk store opening = ∣ (disk, store, [], opening, refl) ∣₁

  pub one_more : (old new : Store D g) (event : Event) (answer : Reply) → IsConfirmed g old → Confirmed g old event answer new → IsConfirmed g new
  one_more old new event answer was is =
      ∥∥₁_map was (λ comes. (comes.0, comes.1, record { event = event; answer = answer; store = new } ∷ comes.2, comes.3, (refl, old, comes.4, is)))

  -- a question between two tests that said yes
  pub confirmed : (old ready asked new : Store D g) (event : Event) (answer : Reply) (current stands : Bool) → Tests g (IsNotPassed (other (slot_of old))) old ready (Ok current) → current ≡ true → IsCall (members g) ready event answer asked
      → Tests g StandsOpen asked new (Ok stands) → HasTested g (slot_of asked) (root_of asked) (disk_of asked) stands (disk_of new) → stands ≡ true → Confirmed g old event answer new
  confirmed old ready asked new event answer current stands tested is_current call confirms tests is_standing = record {
    ready = ready;
    asked = asked;
    current = subst (λ (yes : Bool). Tests g (IsNotPassed (other (slot_of old))) old ready (Ok yes)) is_current tested;
    call = call;
    stands = subst (λ (yes : Bool). Tests g StandsOpen asked new (Ok yes)) is_standing confirms;
    tested = subst (λ (yes : Bool). HasTested g (slot_of asked) (root_of asked) (disk_of asked) yes (disk_of new)) is_standing tests;
  }
