use Rattle.tile_flood.proofs.Prelude.{Affected, AreCarried, AreChangesListed, Block, IsLabelling, IsTrue, List, ℕ, ℤ, length, slice_index_or, subst, sym, ◌*◌, ◌<◌, ◌∙◌}
use Rattle.tile_flood.proofs.Dependence.{full_at}
use Rattle.tile_flood.proofs.ListedChanges.{none_changed}
use Rattle.tile_flood.specs.Bands.{AreOfBand, AreOffBorders}
use Rattle.tile_flood.proofs.SameBands.{band_still}
use Rattle.tile_flood.proofs.mending.mend.Goals as goal
use Rattle.tile_flood.proofs.mending.mend.Goals.{In_ok-settle_changes}

-- changes since the given labelling are listed
listed_now : (c : In_ok-settle_changes) → AreChangesListed c.args.block.now.side c.args.block.now.heights c.args.labelled.levels c.args.labelled.labels c.settle_changes.new.self.levels.items c.settle_changes.new.self.labels.items c.settle_changes.new.self.affected.items
listed_now c =
    let b = c.args.block.now in
    let before = c.requires.before in
    let levels₀ = c.args.labelled.levels in
    let labels₀ = c.args.labelled.labels in
    let flood = c.into_flood-flood in
    let begun : AreChangesListed b.side b.heights levels₀ labels₀ flood.result.levels.items flood.result.labels.items flood.result.affected.items = rw (flood.ensures.affected, flood.ensures.levels, flood.ensures.labels)
    (none_changed b.side b.heights levels₀ labels₀ (λ e solid. full_at b.side before.heights b.sinks levels₀ labels₀ before.labelling before.carried e (before.ground e ∙ solid))) in
    let P : Block → List ℤ → List ℕ → List Affected → Type 0 = λ k. AreChangesListed k.side k.heights levels₀ labels₀ in
    subst (λ k. P k c.settle_changes.new.self.levels.items c.settle_changes.new.self.labels.items c.settle_changes.new.self.affected.items) c.view-view.ensures
    (c.in_ok-settle_changes.ensures.listed levels₀ labels₀ (c.in_ok-begin.ensures.listed levels₀ labels₀ (subst (λ k. P k flood.result.levels.items flood.result.labels.items flood.result.affected.items) (sym c.view-view.ensures) begun)))

pub changed_bands-requires-clause-inside : goal.changed_bands-requires-clause-inside
changed_bands-requires-clause-inside c =
    let affected = c.settle_changes.new.self.affected.items in
    subst (λ (k : Block). (j : ℕ) (d : Affected) → j < length affected → (slice_index_or affected j d).point < k.side * k.side) (sym c.view-view.ensures) (listed_now (goal.at.changed_bands-requires-clause-inside c).In_ok-settle_changes).inside

-- the result is a labelling of the block itself
mended : (c : In_ok-settle_changes) → IsTrue c.in_ok-settle_changes.field-0 → IsLabelling c.args.block.now c.settle_changes.new.self.levels.items c.settle_changes.new.self.labels.items × AreCarried c.args.block.now c.settle_changes.new.self.levels.items c.settle_changes.new.self.labels.items
mended c done = subst (λ k. IsLabelling k c.settle_changes.new.self.levels.items c.settle_changes.new.self.labels.items × AreCarried k c.settle_changes.new.self.levels.items c.settle_changes.new.self.labels.items) c.view-view.ensures (c.in_ok-settle_changes.ensures.mended done)

pub returns-clause-labelling : goal.returns-clause-labelling
returns-clause-labelling c = rw c.of_flood.ensures (mended (goal.at.returns-clause-labelling c).In_ok-settle_changes c.if-not-branch.false).0

pub returns-clause-carried : goal.returns-clause-carried
returns-clause-carried c = rw c.of_flood.ensures (mended (goal.at.returns-clause-carried c).In_ok-settle_changes c.if-not-branch.false).1

pub returns-clause-bands : goal.returns-clause-bands
returns-clause-bands c n found inside off was =
    let b = c.args.block.now in
    let before = c.requires.before in
    let levels₀ = c.args.labelled.levels in
    let labels₀ = c.args.labelled.labels in
    let levels = c.settle_changes.new.self.levels.items in
    let labels = c.settle_changes.new.self.labels.items in
    let affected = c.settle_changes.new.self.affected.items in
    let changed = c.in_ok-changed_bands.changed_bands.items in
    let settled = (goal.at.returns-clause-bands c).In_ok-settle_changes in
    let now = mended settled c.if-not-branch.false in
    let away : AreOffBorders b.side levels labels changed affected (length affected) = subst (λ (k : Block). AreOffBorders k.side levels labels changed affected (length affected)) c.view-view.ensures c.in_ok-changed_bands.ensures in
    rw c.of_flood.ensures
    (subst (λ (k : ℕ). AreOfBand k levels labels n found) (sym c.side.ensures)
    (band_still b.side before.heights b.heights b.sinks levels₀ levels labels₀ labels affected before.labelling now.0 before.ground now.1 (listed_now settled) n (λ j d below. away n j d off below)
    found (subst (λ (k : ℕ). AreOfBand k levels₀ labels₀ n found) c.requires.same_side was)))
