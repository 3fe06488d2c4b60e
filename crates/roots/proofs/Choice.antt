-- What follows from the contents of the two slots.
use Rattle.std.proofs.Common.{◌≡◌, Option, Some, Result, Ok, Bool, true, false, sym, ◌∙◌, subst}
use Rattle.disk.specs.Disk.{Image}
use Rattle.page_codec.specs.Roots.{RootValue}
use Rattle.page_codec.specs.declared.damaged.Damaged.{Damaged}
use Rattle.roots.specs.declared.slot.Slot.{Slot}
use Rattle.roots.specs.declared.slot.Slot.TheVariants.{A, B}
use Rattle.roots.specs.Found.{HoldsEarlier, FoundIn}
use Rattle.roots.specs.Opening.{Holds}
use Rattle.roots.specs.Slots.{other, IsAt}

beside : (s : Slot) (o : Bool) (root : RootValue) (image : Image) (here there : Option (Result RootValue Damaged)) → here ≡ Some (Ok root) → HoldsEarlier o root there → Holds s image here → Holds (other s) image there
    → IsAt s o root image
beside s false root image here there is none h t =
    let at = subst (λ (x : Option (Result RootValue Damaged)). Holds s image x) is h in
    let shut = subst (λ (x : Option (Result RootValue Damaged)). Holds (other s) image x) none t in
    record {
      current = record { opened = at.0; here = at.1; greatest = λ shown. absurd (cc (sym shut ∙ shown)) };
      shown = λ x. absurd (cc x);
      shut = λ _. shut;
      earlier = λ x. absurd (cc x);
    }
beside s true root image here there is e h t =
    let at = subst (λ (x : Option (Result RootValue Damaged)). Holds s image x) is h in
    let behind = subst (λ (x : Option (Result RootValue Damaged)). Holds (other s) image x) e.1 t in
    record {
      current = record { opened = at.0; here = at.1; greatest = λ _. (e.0, behind.1, e.2) };
      shown = λ _. behind.0;
      shut = λ x. absurd (cc x);
      earlier = λ _. (e.0, behind.1, e.2);
    }

pub found_at : (s : Slot) (o : Bool) (root : RootValue) (a b : Option (Result RootValue Damaged)) (image : Image) → FoundIn s o root a b → Holds A image a → Holds B image b → IsAt s o root image
found_at A o root a b image found ha hb = beside A o root image a b found.0 found.1 ha hb
found_at B o root a b image found ha hb = beside B o root image b a found.0 found.1 hb ha
