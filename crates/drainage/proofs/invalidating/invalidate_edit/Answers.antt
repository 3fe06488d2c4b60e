use Rattle.drainage.proofs.Prelude.{IsHeldOf, patched, refl, subst, sym}
use Rattle.edits.specs.declared.edit.Edit.{Edit}
use Rattle.edits.specs.Edits.{edit_made}
use Rattle.drainage.proofs.Changes.EditedBox.{differ_patched}
use Rattle.levels.proofs.Changes.Reached.{unmoved}
use Rattle.drainage.proofs.invalidating.invalidate_edit.Goals as goal

pub returns-in-Voids-clause-still : goal.returns-in-Voids-clause-still
returns-in-Voids-clause-still c m valid right = c.invalidate_between.ensures.right m m (unmoved m c.in-Voids.from c.in-Voids.to) (λ q level none. absurd none) right

pub returns-in-Voids-clause-changed : goal.returns-in-Voids-clause-changed
returns-in-Voids-clause-changed c m valid tells right =
    subst (λ (e : Edit). IsHeldOf (edit_made e m) c.invalidate_between.new.self) (sym c.in-Voids.is)
    (c.invalidate_between.ensures.right m (patched c.in-Voids.from c.in-Voids.to c.in-Voids.height m) (differ_patched c.in-Voids.from c.in-Voids.to c.in-Voids.height m valid) (λ q level none. absurd none) right)

pub returns-in-Add-clause-still : goal.returns-in-Add-clause-still
returns-in-Add-clause-still c m valid right = c.invalidate_tile.ensures.still m right

pub returns-in-Drop-clause-still : goal.returns-in-Drop-clause-still
returns-in-Drop-clause-still c m valid right = c.invalidate_tile-in-Drop.ensures.still m right

pub returns-in-Add-clause-changed : goal.returns-in-Add-clause-changed
returns-in-Add-clause-changed c m valid tells right =
    subst (λ (e : Edit). IsHeldOf (edit_made e m) c.invalidate_tile.new.self) (sym c.in-Add.is)
    (c.invalidate_tile.ensures.comes m _ refl valid right)

pub returns-in-Drop-clause-changed : goal.returns-in-Drop-clause-changed
returns-in-Drop-clause-changed c m valid tells right =
    subst (λ (e : Edit). IsHeldOf (edit_made e m) c.invalidate_tile-in-Drop.new.self) (sym c.in-Drop.is) (c.invalidate_tile-in-Drop.ensures.goes m valid right)
