use Rattle.std.proofs.Common.{◌≡◌, ◌+◌, ◌*◌, ℕ, List, [], ◌∷◌, ◌++◌, codes, Ok, Err, inl, inr, refl, sym, ap, ◌∙◌, subst}
use Rattle.edits.specs.declared.command.Command.TheVariants.{Import}
use Rattle.engine.specs.Engines.{answered}
use Rattle.engine.specs.declared.event.Event.TheVariants as ask
use Rattle.engine.specs.declared.event.Reply.TheVariants as reply
use Rattle.store.specs.Sessions.{Asked, Unopened, Ended}
use Rattle.store.specs.Stores.{side_of}
use Rattle.server.specs.OnDisks.{most_bytes}
use Rattle.server.specs.Places.{Reads}
use Rattle.server.specs.declared.places.TileFault.{TileFault}
use Rattle.server.specs.declared.places.TileFault.TheVariants as fault
use Rattle.server.proofs.disks.import_tile.Goals as goal

pub returns-in-Err : goal.returns-in-Err
returns-in-Err g c = ([], refl, (Unopened c.args.disk (Err c.in-Err.refused) ∷ [], inl (c.in-Err.refused, refl, c.in-Err.ensures, refl, (refl, c.refuse.ensures))))

pub returns-in-Err-Unreadable : goal.returns-in-Err-Unreadable
returns-in-Err-Unreadable g c =
    let store = c.in-Ok.store in
    let most : c.file_bytes.result + 1 ≡ most_bytes (side_of store) = ap (λ (n : ℕ). n + 1) (c.file_bytes.ensures.value ∙ ap (λ (n : ℕ). 2 * (n * n)) c.side.ensures) in (
      Reads c.args.tile.now (c.file_bytes.result + 1) (Err fault.Unreadable) ∷ [],
      (
        c.read.new.self,
        subst (λ (f : TileFault). g.P.Places.accessed c.args.places.now (Reads c.args.tile.now (c.file_bytes.result + 1) (Err f)) c.read.new.self) c.in-Err-Unreadable.field-0-is c.in-Err-Unreadable.ensures,
        refl,
      ),
      (
        Ended c.args.disk store [] ∷ [],
        inr (store, [], refl, c.in-Ok.ensures, tt, sym c.into_disk.ensures, (Err fault.Unreadable, ap (λ (n : ℕ). Reads c.args.tile.now n (Err fault.Unreadable) ∷ []) most, (refl, c.write_message-status.ensures))),
      ),
    )

pub returns-in-Err-NoMemory : goal.returns-in-Err-NoMemory
returns-in-Err-NoMemory g c =
    let store = c.in-Ok.store in
    let most : c.file_bytes.result + 1 ≡ most_bytes (side_of store) = ap (λ (n : ℕ). n + 1) (c.file_bytes.ensures.value ∙ ap (λ (n : ℕ). 2 * (n * n)) c.side.ensures) in (
      Reads c.args.tile.now (c.file_bytes.result + 1) (Err fault.NoMemory) ∷ [],
      (
        c.read.new.self,
        subst (λ (f : TileFault). g.P.Places.accessed c.args.places.now (Reads c.args.tile.now (c.file_bytes.result + 1) (Err f)) c.read.new.self) c.in-Err-NoMemory.field-0-is c.in-Err-NoMemory.ensures,
        refl,
      ),
      (
        Ended c.args.disk store [] ∷ [],
        inr (
          store,
          [],
          refl,
          c.in-Ok.ensures,
          tt,
          sym c.into_disk-in-Err-NoMemory.ensures,
          (Err fault.NoMemory, ap (λ (n : ℕ). Reads c.args.tile.now n (Err fault.NoMemory) ∷ []) most, (refl, c.refuse-status.ensures)),
        ),
      ),
    )

pub returns : goal.returns
returns g c =
    let store = c.in-Ok.store in
    let bytes = c.new-bytes.result in
    let most : c.file_bytes.result + 1 ≡ most_bytes (side_of store) = ap (λ (n : ℕ). n + 1) (c.file_bytes.ensures.value ∙ ap (λ (n : ℕ). 2 * (n * n)) c.side.ensures) in
    let calls = record { call = Asked (ask.Do (Import c.args.corner bytes)) (answered reply.Done c.apply-applied.result); store = c.apply-applied.new.self } ∷ [] in (
      Reads c.args.tile.now (c.file_bytes.result + 1) (Ok c.in-Ok-read.bytes.items) ∷ [],
      (c.read.new.self, c.in-Ok-read.ensures, refl),
      (
        Ended c.args.disk store calls ∷ [],
        inr (
          store,
          calls,
          refl,
          c.in-Ok.ensures,
          (c.apply-applied.ensures, tt),
          sym c.into_disk-2.ensures,
          (
            Ok bytes,
            subst (λ (b : List ℕ). Reads c.args.tile.now (c.file_bytes.result + 1) (Ok c.in-Ok-read.bytes.items) ∷ [] ≡ Reads c.args.tile.now (most_bytes (side_of store)) (Ok b) ∷ []) (sym c.new-bytes.ensures)
                (ap (λ (n : ℕ). Reads c.args.tile.now n (Ok c.in-Ok-read.bytes.items) ∷ []) most),
            (c.apply-applied.result, refl, c.end_command.ensures),
          ),
        ),
      ),
    )
