use Rattle.stored_mosaic.proofs.Prelude.{Err, IsTileOf, KeptPlanes, List, Ok, RootValue, StoredTile, ap, option_map, plane_bytes, subst, sym, ◌≡◌}
use Rattle.stored_mosaic.proofs.KeptPlanes.Labelled.{reads_refused, reads_then}
use Rattle.stored_mosaic.proofs.tree_labellings.read_kept.Goals as goal

pub returns-clause-level_bytes : goal.returns-clause-level_bytes
returns-clause-level_bytes g c honest t kept is has =
    c.in_ok-read_plane.ensures.bytes (c.in_ok-read_plane-2.ensures.reads.keeps.honest honest) t kept.levels is (ap (option_map (λ (k : KeptPlanes). k.levels)) has)

pub returns-clause-label_bytes : goal.returns-clause-label_bytes
returns-clause-label_bytes g c honest t kept is has =
    let first = c.in_ok-read_plane.ensures.reads.keeps in
    let second = c.in_ok-read_plane-2.ensures in
    let mid = second.reads.keeps.honest honest in
    subst (λ (r : RootValue). c.read_plane-2.new.bytes.items ≡ plane_bytes r.side kept.labels) first.root
    (second.bytes honest t kept.labels (subst (λ (ts : List StoredTile). IsTileOf ts c.args.corner t) (sym (first.staged mid)) is) (ap (option_map (λ (k : KeptPlanes). k.labels)) has))

pub returns-clause-reads : goal.returns-clause-reads
returns-clause-reads g c =
    reads_then g.D.Disk c.args.tree.now c.read_plane.new.tree c.read_plane-2.new.tree (Ok tt) c.in_ok-read_plane.ensures.reads c.in_ok-read_plane-2.ensures.reads

pub returns-in_err-read_plane-clause-reads : goal.returns-in_err-read_plane-clause-reads
returns-in_err-read_plane-clause-reads g c =
    let read = c.in_err-read_plane.ensures.reads in
    reads_refused g.D.Disk c.args.tree.now c.read_plane.new.tree c.from_residual-in_err-read_plane.result c.in_err-read_plane.field-0.0 c.from_residual-in_err-read_plane.ensures.1 (read.only_device c.requires.works) read

pub returns-in_err-read_plane-2-clause-reads : goal.returns-in_err-read_plane-2-clause-reads
returns-in_err-read_plane-2-clause-reads g c =
    let first = c.in_ok-read_plane.ensures.reads in
    let read = c.in_err-read_plane-2.ensures.reads in
    reads_refused g.D.Disk c.args.tree.now c.read_plane-2.new.tree c.from_residual-in_err-read_plane-2.result c.in_err-read_plane-2.field-0.0 c.from_residual-in_err-read_plane-2.ensures.1 (read.only_device first.not_failed)
    (reads_then g.D.Disk c.args.tree.now c.read_plane.new.tree c.read_plane-2.new.tree (Err c.in_err-read_plane-2.field-0.0) first read)
