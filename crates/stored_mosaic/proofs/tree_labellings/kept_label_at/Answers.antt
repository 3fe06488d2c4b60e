use Rattle.stored_mosaic.proofs.Prelude.{KeptPlanes, RootValue, ℕ, ap, mosaic_of, option_map, plane_bytes, subst, sym, ◌*◌, ◌<◌, ◌∙◌, ◌≡◌}
use Rattle.stored_mosaic.proofs.KeptPlanes.Labelled.{was_sure, keeps_there, labelled_by_bytes, least_height, failed_before, answered_whole}
use Rattle.stored_mosaic.proofs.tree_labellings.kept_label_at.Goals as goal

pub returns-then-has_failed-clause-reads : goal.returns-then-has_failed-clause-reads
returns-then-has_failed-clause-reads g c = failed_before g.D.Disk g.met.D.Disk.only_now c.args.tree.now (sym c.has_failed.ensures ∙ c.if-has_failed.true)

pub returns-clause-label_at : goal.returns-clause-label_at
returns-clause-label_at g c sure =
    let d = g.D.Disk in
    let old = c.args.tree.now in
    let m = mosaic_of d old in
    let two = c.in_ok-level.ensures in
    let there = keeps_there d old c.args.corner c.requires.levels (was_sure d old c.read_label_at.new.tree two.reads.keeps sure) in
    let made = c.labelled_at.ensures in
    labelled_by_bytes m c.args.corner (plane_bytes m.side there.kept.levels) (plane_bytes m.side there.kept.labels) there.right.labelling c.args.index c.in_ok-level.level c.in_ok-level.label
    (two.level sure.readable.honest there.tile there.kept.levels there.is (ap (option_map (λ (k : KeptPlanes). k.levels)) there.keeps) there.right.levels)
    (two.label sure.readable.honest there.tile there.kept.labels there.is (ap (option_map (λ (k : KeptPlanes). k.labels)) there.keeps) there.right.labels)
    c.labelled_at.result made.level made.label

pub returns-clause-sound : goal.returns-clause-sound
returns-clause-sound g c sure =
    let d = g.D.Disk in
    let old = c.args.tree.now in
    let m = mosaic_of d old in
    let two = c.in_ok-level.ensures in
    let was = was_sure d old c.read_label_at.new.tree two.reads.keeps sure in
    let there = keeps_there d old c.args.corner c.requires.levels was in
    let kept = there.right.labelling in
    let side : c.side-side.result ≡ m.side = c.side-side.ensures.value ∙ ap (λ (r : RootValue). r.side) c.current.ensures in
    answered_whole c.labelled_at.result (c.labelled_at.ensures.sound kept.block (plane_bytes m.side there.kept.levels) (plane_bytes m.side there.kept.labels) c.args.index (kept.ground.side ∙ sym side) kept.labelling
    (least_height m c.args.corner _ _ kept was.readable.valid)
    (subst (λ (n : ℕ). c.args.index < n * n) (sym side) c.requires.index)
    (two.level sure.readable.honest there.tile there.kept.levels there.is (ap (option_map (λ (k : KeptPlanes). k.levels)) there.keeps) there.right.levels)
    (two.label sure.readable.honest there.tile there.kept.labels there.is (ap (option_map (λ (k : KeptPlanes). k.labels)) there.keeps) there.right.labels))
