use Rattle.std.proofs.Common.{arith, ◌≡◌, ◌≤◌, ◌⊎◌, ℕ, List, Option, Some, inl, inr, refl, sym, ap, ◌∙◌, subst}
use Rattle.core.specs.declared.mem.manually_drop.ManuallyDrop.{ManuallyDrop}
use Rattle.cow_tree.specs.Trees.{IsRefused}
use Rattle.disk.specs.Disk.{HasRisen}
use Rattle.engine.specs.State.{working}
use Rattle.image_disk.specs.ImageDisks.{bytes_of}
use Rattle.image_disk.specs.Images.{sectors_in, image_in}
use Rattle.image_disk.specs.contracts.ImageDiskDisk.TheImpl.{ghosts}
use Rattle.stored_mosaic.specs.Standing.{StandsFor}
use Rattle.store.specs.Stores.{IsAt, disk_of}
use Rattle.lattice.specs.Refusals.{number_of}
use Rattle.lattice.specs.declared.refusal.Refusal.TheVariants.{Device, NoMemory}
use Rattle.mosaic_c.specs.Sessions.{IsOpen, IsOpenAt}
use Rattle.mosaic_c.specs.declared.session.Session.{Session}
use Rattle.mosaic_c.proofs.exports.mosaic_open.Goals as goal

pub returns-clause-opened : goal.returns-clause-opened
returns-clause-opened c = λ zero side capacity contents stands.
    let bytes : List ℕ = bytes_of c.new.result in
    let here : StandsFor (sectors_in bytes) side capacity (image_in bytes) contents =
    subst (λ (xs : List ℕ). StandsFor (sectors_in xs) side capacity (image_in xs) contents) (sym c.new.ensures.bytes) stands in
    let found = c.in-Ok.ensures.at tt side capacity contents contents (λ image may. inl (subst (λ i. StandsFor (sectors_in bytes) side capacity i contents) (sym may) here)) in
    let stood : IsAt ghosts c.in-Ok.store (working contents) = elim found.1.1 [ inl a ↦ a | inr b ↦ b ] in
    let held = ap (λ (m : ManuallyDrop Session). Some m.value) c.in-Ok-new.ensures.ok ∙ ap (λ (s : Session). Some s) c.new-2.ensures in
    let is_open : IsOpen (record { store = c.in-Ok.store }) capacity contents = record {
      at = stood;
      takes = found.1.0;
      none_failed = (disk_of c.in-Ok.store).faults ∙ (c.in-Ok.ensures.writes ∙ (sym c.new.result.faults ∙ c.new.ensures.failures));
    } in
    subst (λ (o : Option Session). IsOpenAt o capacity contents) (sym (c.put.ensures ∙ held)) is_open

none_risen : HasRisen 0 0 → ⊥
none_risen risen = let low : 1 ≤ 0 = risen in omega (arith, low)

-- an image's reads never fail: its failures are its writes, and an opening makes none
no_fault : (c : goal.After-number) → c.in-Err.refused.refusal ≡ Device → ⊥
no_fault c device =
    let none : c.in-Err.refused.disk.failures ≡ 0 = c.in-Err.refused.disk.faults ∙ (c.in-Err.ensures.writes ∙ (sym c.new.result.faults ∙ c.new.ensures.failures)) in
    none_risen (subst (λ (k : ℕ). HasRisen 0 k) none (subst (λ (k : ℕ). HasRisen k c.in-Err.refused.disk.failures) c.new.ensures.failures (c.in-Err.ensures.device device)))

pub returns-in-Err-clause-sure : goal.returns-in-Err-clause-sure
returns-in-Err-clause-sure c = λ side capacity contents stands.
    let bytes : List ℕ = bytes_of c.new.result in
    let here : StandsFor (sectors_in bytes) side capacity (image_in bytes) contents =
    subst (λ (xs : List ℕ). StandsFor (sectors_in xs) side capacity (image_in xs) contents) (sym c.new.ensures.bytes) stands in
    let why : (c.in-Err.refused.refusal ≡ Device) ⊎ (c.in-Err.refused.refusal ≡ NoMemory) =
    c.in-Err.ensures.sure tt side capacity contents contents (λ image may. inl (subst (λ i. StandsFor (sectors_in bytes) side capacity i contents) (sym may) here)) in
    elim why [ inl device ↦ absurd (no_fault c device) | inr memory ↦ inr (c.number.ensures ∙ ap number_of memory) ]

pub returns-in-Err-clause-refused : goal.returns-in-Err-clause-refused
returns-in-Err-clause-refused c = λ nonzero.
    elim (c.in-Err.ensures.refused tt) [
      | inl device ↦ absurd (no_fault c device)
      | inr (inl memory) ↦ inl (c.number.ensures ∙ ap number_of memory)
      | inr (inr is) ↦ inr (c.in-Err.refused.refusal, (subst (λ (xs : List ℕ). IsRefused (sectors_in xs) (image_in xs) c.in-Err.refused.refusal) c.new.ensures.bytes is, c.number.ensures))
    ]
