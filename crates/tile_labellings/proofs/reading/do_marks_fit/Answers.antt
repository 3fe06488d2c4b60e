use Rattle.std.proofs.Common.{rules, ◌≡◌, ◌≢◌, ◌<◌, ℕ, ℤ, pos, List, None, length, get_or, slice_index, of_z, w16, true≢false, sym, ap, ◌∙◌, subst}
use Rattle.std.specs.Option.{is_some}
use Rattle.std.specs.Prelude.{not}
use Rattle.std.proofs.lemmas.List.{get_or_default}
use Rattle.lattice.specs.Mosaic.{void}
use Rattle.labelling.specs.Raising.{raised_level}
use Rattle.tile_labellings.proofs.Fitting.{any_level, one_more_fits}
use Rattle.tile_labellings.proofs.reading.do_marks_fit.Goals as goal
use Rattle.tile_labellings.proofs.reading.do_marks_fit.Goals.{then-label-known+else-is_none+then-level-2, then-label-known+else-is_none+else-level-2, else-label-known+else-level}

pub loop-index-preserved : goal.loop-index-preserved
loop-index-preserved c =
    let rim = c.args.rim.now in
    let levels = c.args.labelled.now.levels in
    let labels = c.args.labelled.now.labels in
    let k = c.loop-index.index in
    let so = c.loop-index.invariant in
    let small : k < length levels = search rules in
    let level : get_or c.levels-levels.result.now k (pos 0) ≡ get_or levels k void = ap (λ (l : List ℤ). get_or l k (pos 0)) c.levels-levels.ensures.value ∙ get_or_default levels k (pos 0) void small in
    let label : slice_index c.labels-labels.result.now k ≡ slice_index labels k = ap (λ (l : List ℕ). slice_index l k) c.labels-labels.ensures.value in
    elim c.if-label-known.branch [
      | then-label-known+else-is_none+then-level-2 w ↦
          let here : raised_level rim (get_or levels k void) (slice_index labels k) ≢ None = λ none. true≢false (sym (w.is_none.ensures ∙ ap not w.if-is_none.false) ∙ ap is_some (w.raise_at.ensures.value ∙ none)) in
          let full : get_or levels k void ≢ void = λ none. w.if-level-2.true (ap (of_z w16) (level ∙ none)) in
          record {
            fit = one_more_fits rim levels labels k here so.fit;
            any = λ other full'. subst (λ l. raised_level rim other l ≢ None) (sym (w.known-is ∙ label)) (any_level rim (slice_index labels k) (get_or levels k void) other full full' here);
          }
      | then-label-known+else-is_none+else-level-2 w ↦
          let here : raised_level rim (get_or levels k void) (slice_index labels k) ≢ None = λ none. true≢false (sym (w.is_none.ensures ∙ ap not w.if-is_none.false) ∙ ap is_some (w.raise_at.ensures.value ∙ none)) in
          record { fit = one_more_fits rim levels labels k here so.fit; any = subst (λ l. (v : ℤ) → v ≢ void → raised_level rim v l ≢ None) (sym w.known-is) so.any }
      | else-label-known+else-level w ↦
          let full : get_or levels k void ≢ void = λ none. w.if-level.false (ap (of_z w16) (level ∙ none)) in
          let same : c.loop-index.known ≡ slice_index labels k = sym w.if-label-known.false ∙ label in
          record {
            fit = one_more_fits rim levels labels k (subst (λ l. raised_level rim (get_or levels k void) l ≢ None) same (so.any (get_or levels k void) full)) so.fit;
            any = subst (λ l. (v : ℤ) → v ≢ void → raised_level rim v l ≢ None) (sym w.known-is) so.any;
          }
    ]
