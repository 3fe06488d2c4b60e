use Rattle.cow_tree.proofs.Prelude.{EntryValue, Err, Image, NoneKept, NonePlane, ℕ, ap, subst}
use Rattle.cow_tree.proofs.ReadOnly.{refused_for, handed_on, refused_again, read_after}
use Rattle.cow_tree.proofs.Reasons.{no_heights, no_kept}
use Rattle.cow_tree.proofs.opening.read_planes.Goals as goal

pub returns-in_err-heights-clause-refused : goal.returns-in_err-heights-clause-refused
returns-in_err-heights-clause-refused g c honest =
    let d = g.D.Disk in
    let old = c.args.roots.now.disk in
    handed_on _ c.from_residual.result c.in_err-heights.field-0.0 c.from_residual.ensures.1 (refused_for _ _ c.in_err-heights.field-0.0
    (λ none. no_heights c.args.format (d.size old) (d.seen old) c.args.entry.now (subst (NonePlane c.args.format (d.size old) (d.seen old)) (ap (λ (e : EntryValue). e.heights) c.entry.view_is) none)) (c.in_err-heights.ensures.refused honest))

pub returns-in_err-kept-clause-refused : goal.returns-in_err-kept-clause-refused
returns-in_err-kept-clause-refused g c honest =
    let d = g.D.Disk in
    let old = c.args.roots.now.disk in
    let first = c.in_ok-heights.ensures.reads in
    handed_on _ c.from_residual-in_err-kept.result c.in_err-kept.field-0.0 c.from_residual-in_err-kept.ensures.1 (refused_for _ _ c.in_err-kept.field-0.0
    (λ none. no_kept c.args.format (d.size old) (d.seen old) c.args.entry.now
    (subst (λ (n : ℕ). NoneKept c.args.format n (d.seen old) c.args.entry.now.kept) first.size
    (subst (λ (i : Image). NoneKept c.args.format (d.size c.read_plane.new.roots.disk) i c.args.entry.now.kept) (first.seen (c.in_err-kept.ensures.reads.honest honest))
    (subst (NoneKept c.args.format (d.size c.read_plane.new.roots.disk) (d.seen c.read_plane.new.roots.disk)) (ap (λ (e : EntryValue). e.kept) c.entry.view_is) none)))) (c.in_err-kept.ensures.refused honest))

pub returns-in_err-kept-clause-reads : goal.returns-in_err-kept-clause-reads
returns-in_err-kept-clause-reads g c =
    refused_again g.D.Disk c.args.roots.now c.read_kept.new.roots c.in_err-kept.field-0.0 c.from_residual-in_err-kept.result c.from_residual-in_err-kept.ensures.1
    (read_after g.D.Disk c.args.roots.now c.read_plane.new.roots c.read_kept.new.roots c.in_ok-heights.heights (Err c.in_err-kept.field-0.0) c.in_ok-heights.ensures.reads c.in_err-kept.ensures.reads)
