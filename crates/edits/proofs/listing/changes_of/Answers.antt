use Rattle.edits.proofs.Prelude.{AreSetOnce, Edit, IfOk, IfOk-weaker, Point, SetOnce, ℕ, ap, edit_made, is_in_box, is_void_at, of_z, patched, rules, subst, sym, to_z, to_z-of_z, ◌&&◌, ◌∙◌}
use mir.Syntax.{w16}
use mir.Val.{SFits}
use Rattle.edits.proofs.Plans.Setting.{once_all, sets_all}
use Rattle.edits.proofs.listing.changes_of.Goals as goal

pub returns-in-Voids-clause-changes : goal.returns-in-Voids-clause-changes
returns-in-Voids-clause-changes g c = λ honest.
    let laws = g.met.S.Samples in
    let old = c.args.samples.now in
    let n = g.S.Samples.side_of old in
    let cs = g.S.Samples.corners old in
    let m = g.S.Samples.mosaic old in
    let from = c.in-Voids.from in
    let to = c.in-Voids.to in
    let h = c.in-Voids.height in
    let was = c.put_in_voids.ensures.reads.honest honest in
    let fits : SFits w16 h = search rules in
    IfOk-weaker c.put_in_voids.result _ _
    (λ changes sets. sets_all n cs (λ p. is_in_box from to p && is_void_at m p) (to_z w16 (of_z w16 h)) changes.items sets m (laws.is_mosaic old was) (laws.same_side old was) (laws.same_corners old was)
    ∙ ap (λ v. patched from to v m) (to_z-of_z w16 h fits) ∙ ap (λ (e : Edit). edit_made e m) (sym c.in-Voids.is))
    (c.put_in_voids.ensures.sets honest)

pub returns-in-Voids-clause-once : goal.returns-in-Voids-clause-once
returns-in-Voids-clause-once g c = λ honest.
    let laws = g.met.S.Samples in
    let old = c.args.samples.now in
    let n = g.S.Samples.side_of old in
    let m = g.S.Samples.mosaic old in
    let test = λ (p : Point). is_in_box c.in-Voids.from c.in-Voids.to p && is_void_at m p in
    subst (λ (e : Edit). IfOk c.put_in_voids.result (λ changes. AreSetOnce m e changes.items)) (sym c.in-Voids.is)
    (IfOk-weaker c.put_in_voids.result _ _
    (λ changes sets. subst (λ (k : ℕ). SetOnce k test changes.items) (sym (laws.same_side old (c.put_in_voids.ensures.reads.honest honest))) (once_all n (g.S.Samples.corners old) test _ changes.items sets))
    (c.put_in_voids.ensures.sets honest))
