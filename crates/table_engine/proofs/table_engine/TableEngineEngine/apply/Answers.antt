use Rattle.std.proofs.Common.{rules, ◌≡◌, ◌<◌, List, filter, not, sym, ap, ◌∙◌, subst}
use Rattle.std.specs.Prelude.{Result, Ok}
use Rattle.lattice.specs.Mosaic.{Mosaic}
use Rattle.lattice.specs.declared.refusal.Refusal.{Refusal}
use Rattle.catalogue.specs.Tiles.{corners_of}
use Rattle.lattice.specs.Corners.{Corner}
use Rattle.edits.specs.Edits.{FitsIn, edit_made, goes_stale_by}
use Rattle.edits.specs.Effect.{effect}
use Rattle.engine.specs.declared.event.Event.TheVariants as ask
use Rattle.table_engine.specs.TableState.{stale_among}
use Rattle.drainage.specs.Between.{IsHeldOf}
use Rattle.table_engine.proofs.FreshTiles.{stale_then}
use Rattle.table_engine.proofs.TableCalls.{called, called_same, done, old, worn}
use Rattle.table_engine.proofs.table_engine.TableEngineEngine.apply.Goals as goal

pub apply_edit-requires : goal.apply_edit-requires
apply_edit-requires c =
    let is = c.in_ok-edit.ensures in
    subst (λ (m : Mosaic). FitsIn m.side (corners_of m) m.sinks c.in_ok-edit.edit) (sym is.reads.keeps) is.fits

pub invariant_of-self-in_err-apply_edit : goal.invariant_of-self-in_err-apply_edit
invariant_of-self-in_err-apply_edit c =
    let e = c.self.inside in
    let same : c.apply_edit.new.table ≡ e.table = c.in_err-apply_edit.ensures.unchanged ∙ c.in_ok-edit.ensures.reads.keeps in
    record {
      valid = search rules;
      above = search rules;
      within = search rules;
      right = subst (λ (m : Mosaic). IsHeldOf m c.invalidate_edit.new.held) (sym same) (c.invalidate_edit.ensures.still e.table c.self.invariant.valid c.self.invariant.right);
    }

pub returns-then-self : goal.returns-then-self
returns-then-self c =
    let e = c.self.inside in
    let reads = c.in_ok-edit.ensures.reads in
    let valid = reads.never_refuses c.self.invariant.valid in
    called_same e.table e.capacity e.fresh.items e.count e.number c.args.self.now c.self.view_is (ask.Do c.args.command.now) _ c.edit_of.new.samples reads.keeps
    (worn (old e.table e.capacity e.fresh.items e.count e.number) c.args.command.now _ (c.in_ok-edit.ensures.made valid) c.if-self.true)

pub returns : goal.returns
returns c =
    let e = c.self.inside in
    let command = c.args.command.now in
    let edit = c.in_ok-edit.edit in
    let reads = c.in_ok-edit.ensures.reads in
    let valid = reads.never_refuses c.self.invariant.valid in
    let new = c.apply_edit.new.table in
    let is : edit_made edit e.table ≡ new = ap (edit_made edit) (sym reads.keeps) ∙ sym c.in_ok-apply_edit.ensures.made in
    let makes : effect e.capacity e.table command ≡ Ok new = c.in_ok-edit.ensures.made valid ∙ ap (λ (m : Mosaic). let r : Result Mosaic Refusal = Ok m in r) is in
    let side : new.side ≡ e.table.side = c.commands_make_mosaics.ensures.side e.capacity e.table command new makes in
    let below : e.number < 18446744073709551615 = search rules in
    let left : c.in_ok-fresh.fresh.items ≡ filter (λ p. not (goes_stale_by e.table.side (corners_of e.table) edit p)) e.fresh.items =
    c.in_ok-fresh.ensures.corners
    ∙ ap (λ (m : Mosaic). filter (λ p. not (goes_stale_by m.side (corners_of m) edit p)) c.deref.result.now) reads.keeps
    ∙ ap (λ (was : List Corner). filter (λ p. not (goes_stale_by e.table.side (corners_of e.table) edit p)) was) c.deref.ensures.value in
    called e.table e.capacity e.fresh.items e.count e.number c.args.self.now c.self.view_is (ask.Do command) _ _
    (done e.table e.capacity e.fresh.items e.count e.number command new c.in_ok-fresh.fresh.items makes side below
    (stale_then e.capacity e.table command new edit makes (c.in_ok-edit.ensures.stale valid) e.fresh.items ∙ ap (stale_among (corners_of new)) (sym left)))

pub invariant_of-self-2 : goal.invariant_of-self-2
invariant_of-self-2 c =
    let e = c.self.inside in
    let edit = c.in_ok-edit.edit in
    let reads = c.in_ok-edit.ensures.reads in
    let valid = reads.never_refuses c.self.invariant.valid in
    let new = c.apply_edit.new.table in
    let is : edit_made edit e.table ≡ new = ap (edit_made edit) (sym reads.keeps) ∙ sym c.in_ok-apply_edit.ensures.made in
    record {
      valid = search rules;
      above = search rules;
      within = c.commands_make_mosaics.ensures.capacity e.capacity e.table c.args.command.now new c.self.invariant.within (c.in_ok-edit.ensures.made valid ∙ ap (λ (m : Mosaic). let r : Result Mosaic Refusal = Ok m in r) is);
      right = subst (λ (m : Mosaic). IsHeldOf m c.invalidate_edit.new.held) is (c.invalidate_edit.ensures.changed e.table c.self.invariant.valid (c.in_ok-edit.ensures.heights valid) c.self.invariant.right);
    }
