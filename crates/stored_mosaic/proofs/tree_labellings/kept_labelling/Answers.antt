use Rattle.stored_mosaic.proofs.Prelude.{IfOk, IsLabelling, List, RootValue, ℕ, ap, labels_in, levels_in, mosaic_of, plane_bytes, subst, sym, ◌∙◌, ◌≡◌}
use Rattle.stored_mosaic.proofs.KeptPlanes.Labelled.{was_sure, keeps_there, flooded_by_bytes, least_height, failed_before, not_damaged}
use Rattle.stored_mosaic.proofs.tree_labellings.kept_labelling.Goals as goal

pub returns-then-has_failed-clause-reads : goal.returns-then-has_failed-clause-reads
returns-then-has_failed-clause-reads g c = failed_before g.D.Disk g.met.D.Disk.only_now c.args.tree.now (sym c.has_failed.ensures ∙ c.if-has_failed.true)

pub returns-clause-flooded : goal.returns-clause-flooded
returns-clause-flooded g c sure =
    let d = g.D.Disk in
    let old = c.args.tree.now in
    let new = c.read_kept.new.tree in
    let bytes = c.in_ok-kept.ensures in
    let was = was_sure d old new bytes.reads.keeps sure in
    let there = keeps_there d old c.args.corner c.requires.levels was in
    let m = mosaic_of d old in
    let result = c.labelled_from.result in
    let made = c.labelled_from.ensures in
    let side : c.side-side.result ≡ m.side = c.side-side.ensures.value ∙ ap (λ (r : RootValue). r.side) c.current.ensures in
    let levels : c.deref.result.now ≡ plane_bytes m.side there.kept.levels = c.deref.ensures.value ∙ bytes.level_bytes sure.readable.honest there.tile there.kept there.is there.keeps in
    let labels : c.deref-2.result.now ≡ plane_bytes m.side there.kept.labels = c.deref-2.ensures.value ∙ bytes.label_bytes sure.readable.honest there.tile there.kept there.is there.keeps in
    flooded_by_bytes m c.args.corner (plane_bytes m.side there.kept.levels) (plane_bytes m.side there.kept.labels) there.right.labelling result
    (subst (λ (n : ℕ). IfOk result (λ l. l.side ≡ n)) side made.side)
    (subst (λ (bs : List ℕ). IfOk result (λ l. l.levels ≡ levels_in bs)) levels made.levels)
    (subst (λ (bs : List ℕ). IfOk result (λ l. l.labels ≡ labels_in bs)) labels made.labels)

pub returns-clause-sound : goal.returns-clause-sound
returns-clause-sound g c sure =
    let d = g.D.Disk in
    let old = c.args.tree.now in
    let new = c.read_kept.new.tree in
    let bytes = c.in_ok-kept.ensures in
    let was = was_sure d old new bytes.reads.keeps sure in
    let there = keeps_there d old c.args.corner c.requires.levels was in
    let m = mosaic_of d old in
    let kept = there.right.labelling in
    let side : c.side-side.result ≡ m.side = c.side-side.ensures.value ∙ ap (λ (r : RootValue). r.side) c.current.ensures in
    let levels : c.deref.result.now ≡ plane_bytes m.side there.kept.levels = c.deref.ensures.value ∙ bytes.level_bytes sure.readable.honest there.tile there.kept there.is there.keeps in
    let labels : c.deref-2.result.now ≡ plane_bytes m.side there.kept.labels = c.deref-2.ensures.value ∙ bytes.label_bytes sure.readable.honest there.tile there.kept there.is there.keeps in
    not_damaged c.labelled_from.result (c.labelled_from.ensures.sound kept.block (kept.ground.side ∙ sym side)
    (subst (λ (bs : List ℕ). IsLabelling kept.block (levels_in bs) (labels_in c.deref-2.result.now)) (sym levels)
    (subst (λ (bs : List ℕ). IsLabelling kept.block (levels_in (plane_bytes m.side there.kept.levels)) (labels_in bs)) (sym labels) kept.labelling))
    (least_height m c.args.corner _ _ kept was.readable.valid))
