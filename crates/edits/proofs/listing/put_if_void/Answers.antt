use Rattle.edits.proofs.Prelude.{Sets, and-true, ap, false, height_of, inl, inr, is_void_at, is_void_height, of_z, same_point, subst, sym, to_z, to_z-of_z, true, ◌&&◌, ◌∙◌, ◌≡◌}
use Rattle.std.proofs.lemmas.Result.{on_ok_weaker}
use mir.Syntax.{w16}
use Rattle.lattice.specs.declared.height.Height.TheVariants as height
use Rattle.edits.proofs.BoxVoids.BoxPlaces.{not_void_is, void_is}
use Rattle.edits.proofs.Plans.Setting.{fits_kept, sets_alike, sets_kept, sets_none}
use Rattle.edits.proofs.listing.put_if_void.Goals as goal

pub returns-in-Void-clause-sets : goal.returns-in-Void-clause-sets
returns-in-Void-clause-sets g c = λ honest.
    let old = c.args.samples.now in
    let n = g.S.Samples.side_of old in
    let cs = g.S.Samples.corners old in
    let a = c.args.changes.now.items in
    let b = c.put.new.changes.items in
    let m = g.S.Samples.mosaic old in
    let p = c.args.point in
    let read = c.in_ok-height.ensures.reads in
    let void : height_of m p ≡ height.Void = sym (c.in_ok-height.ensures.value honest) ∙ c.in-Void.is in
    on_ok_weaker c.put.result
    (λ put. subst (λ v. Sets n cs (λ q. same_point q p && is_void_at m q) v a b) (to_z-of_z w16 c.args.sample c.ranges.sample)
    (sets_alike n cs (λ q. same_point q p) (λ q. same_point q p && is_void_at m q) (to_z w16 (of_z w16 c.args.sample)) (λ q. sym (void_is m p true (ap is_void_height void) q ∙ and-true (same_point q p))) a b
    (sets_kept (λ q. same_point q p) (to_z w16 (of_z w16 c.args.sample)) (g.S.Samples.side_of c.height.new.samples) n (g.S.Samples.corners c.height.new.samples) cs a b read.side read.corners put)))
    c.put.ensures.sets

pub returns-in-Void-clause-fits : goal.returns-in-Void-clause-fits
returns-in-Void-clause-fits g c =
    let old = c.args.samples.now in
    let read = c.in_ok-height.ensures.reads in
    on_ok_weaker c.put.result
    (λ fits. fits_kept (g.S.Samples.side_of c.height.new.samples) (g.S.Samples.side_of old) (g.S.Samples.corners c.height.new.samples) (g.S.Samples.corners old) c.args.changes.now.items c.put.new.changes.items read.side read.corners fits)
    c.put.ensures.fits

pub returns-in-Outside-clause-sets : goal.returns-in-Outside-clause-sets
returns-in-Outside-clause-sets g c = λ honest.
    let m = g.S.Samples.mosaic c.args.samples.now in
    let p = c.args.point in
    let found = c.in_ok-height.field-0 in
    let ground : is_void_height found ≡ false = elim c.in-Outside.is [ inl outside ↦ ap is_void_height outside | inr at ↦ ap is_void_height at.1 ] in
    sets_none (g.S.Samples.side_of c.args.samples.now) (g.S.Samples.corners c.args.samples.now) (λ q. same_point q p && is_void_at m q) c.args.sample
    (not_void_is m p found (sym (c.in_ok-height.ensures.value honest)) ground) c.args.changes.now.items
