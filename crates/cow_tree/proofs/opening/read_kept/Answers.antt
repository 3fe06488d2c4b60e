use Rattle.cow_tree.proofs.Prelude.{Image, NoneKept, NonePlane, ℕ, subst, sym}
use Rattle.cow_tree.proofs.ReadOnly.{refused_for, handed_on}
use Rattle.cow_tree.proofs.Reasons.{no_levels, no_labels}
use Rattle.cow_tree.proofs.opening.read_kept.Goals as goal

pub returns-in_err-levels-clause-refused : goal.returns-in_err-levels-clause-refused
returns-in_err-levels-clause-refused g c honest =
    let d = g.D.Disk in
    let old = c.args.roots.now.disk in
    handed_on _ c.from_residual.result c.in_err-levels.field-0.0 c.from_residual.ensures.1 (refused_for _ _ c.in_err-levels.field-0.0
    (λ none. subst (NoneKept c.args.format (d.size old) (d.seen old)) (sym c.in-Some.is) (no_levels c.args.format (d.size old) (d.seen old) c.in-Some.kept none)) (c.in_err-levels.ensures.refused honest))

pub returns-in_err-labels-clause-refused : goal.returns-in_err-labels-clause-refused
returns-in_err-labels-clause-refused g c honest =
    let d = g.D.Disk in
    let first = c.in_ok-levels.ensures.reads in
    let old = c.args.roots.now.disk in
    handed_on _ c.from_residual-in_err-labels.result c.in_err-labels.field-0.0 c.from_residual-in_err-labels.ensures.1 (refused_for _ _ c.in_err-labels.field-0.0
    (λ none. subst (NoneKept c.args.format (d.size old) (d.seen old)) (sym c.in-Some.is) (no_labels c.args.format (d.size old) (d.seen old) c.in-Some.kept
    (subst (λ (n : ℕ). NonePlane c.args.format n (d.seen old) c.in-Some.kept.labels) first.size
    (subst (λ (i : Image). NonePlane c.args.format (d.size c.read_plane.new.roots.disk) i c.in-Some.kept.labels) (first.seen (c.in_err-labels.ensures.reads.honest honest)) none)))) (c.in_err-labels.ensures.refused honest))
