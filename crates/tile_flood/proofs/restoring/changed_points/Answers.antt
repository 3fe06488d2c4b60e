use Rattle.std.proofs.Common.{◌≡◌, ◌*◌, ◌∙◌, ℕ, ℤ, List, length, ap, sym, subst, arith}
use Rattle.tile_flood.specs.Mending.{IsLabelledBefore}
use Rattle.tile_flood.specs.Restoring.{AreFitting, AreStanding}
use Rattle.tile_flood.proofs.Restored.{labelled_before}
use Rattle.tile_flood.proofs.restoring.changed_points.Goals as goal

pub returns-then-branch : goal.returns-then-branch
returns-then-branch c =
    let b = c.args.block.now in
    let view = c.view.result in
    let levels = c.levels.result.now in
    let labels = c.labels.result.now in
    let points = c.loop-i.points.items in
    let side : view.n ≡ b.side = ap (λ k. k.side) c.view.ensures in
    let levels_whole : length levels ≡ view.n * view.n = subst (λ (k : ℕ). length levels ≡ k * k) (c.requires ∙ sym side) (ap length c.levels.ensures.value ∙ c.levels.ensures.whole) in
    let labels_whole : length labels ≡ view.n * view.n = subst (λ (k : ℕ). length labels ≡ k * k) (c.requires ∙ sym side) (ap length c.labels.ensures.value ∙ c.labels.ensures.whole) in
    let end : c.loop-i.i ≡ view.n = omega arith in
    let fits : AreFitting view.n view.heights.now view.sinks.now levels labels points (view.n * view.n) = subst (λ (k : ℕ). AreFitting view.n view.heights.now view.sinks.now levels labels points (k * view.n)) end c.loop-i.invariant.fitting in
    let standing : AreStanding view.n view.heights.now view.sinks.now levels labels c.do_all_stand.new.stands = c.in_ok-do_all_stand.ensures.standing view.heights.now view.sinks.now (subst (AreStanding view.n view.heights.now view.sinks.now levels labels) (sym c.deref_mut-2.ensures.value) c.loop-i.invariant.standing) in
    subst (λ (ls : List ℤ). IsLabelledBefore b points ls c.args.labelled.now.labels) c.levels.ensures.value
    (subst (λ (ks : List ℕ). IsLabelledBefore b points levels ks) c.labels.ensures.value
    (subst (λ k. IsLabelledBefore k points levels labels) c.view.ensures
    (labelled_before view.n view.heights.now view.sinks.now levels labels (omega arith) view.whole.whole levels_whole labels_whole points c.samples_in_range.ensures fits
    (λ e small. standing.each e (c.in_ok-do_all_stand.ensures.all c.if-branch.true e small)))))
