use Rattle.stored_mosaic.proofs.Prelude.{IsSample, List, ℕ, ℤ, ap, arith, false, is_due, length, page_sample, subst, sym, true, ◌*◌, ◌+◌, ◌∙◌, ◌≡◌}
use Rattle.stored_mosaic.proofs.Edits.NewHeights.{length_with_bytes}
use Rattle.stored_mosaic.proofs.Pages.{with_bytes}
use Rattle.stored_mosaic.proofs.Edits.VoidPages.{IsFilledTo, filled_more, filled_same, page_filled, sample_passed}
use Rattle.stored_mosaic.proofs.voids.fill_samples.Goals as goal
use Rattle.stored_mosaic.proofs.voids.fill_samples.Goals.{then-is_due, else-is_due}

pub loop-at-preserved : goal.loop-at-preserved
loop-at-preserved c =
    let n : ℕ = c.args.side in
    let rim = c.args.rim.now in
    let patch = c.args.patch in
    let i : ℕ = c.args.index in
    let at : ℕ = c.loop-at.at in
    let was = c.args.page.now in
    let now = c.loop-at.page in
    let so = c.loop-at.invariant in
    elim c.if-is_due.branch [
      | then-is_due w ↦
          let height : ℤ = c.height_of-height.result in
          let value : height ≡ patch.height = c.height_of-height.ensures.value in
          let written = w.put_sample.ensures.bytes ∙ ap (λ (s : ℤ). with_bytes at s now) (sample_passed height c.height_of-height.ensures.sample ∙ value) in
          let page_is = w.page-is ∙ written in
          let due : is_due n rim patch (2048 * i + at) (page_sample now at) ≡ true = sym c.is_due.ensures ∙ w.if-is_due.true in
          record {
            filled = subst (λ (p : List ℕ). IsFilledTo n rim patch i (at + 1) was p) (sym page_is) (filled_more n rim patch i was at now so.filled so.long c.loop-at-test.true (subst IsSample value c.height_of-height.ensures.sample) due);
            long = ap length page_is ∙ length_with_bytes at patch.height now ∙ so.long;
            left = λ is. absurd (let e : true ≡ false = sym w.is_filled-is ∙ is in cc);
          }
      | else-is_due w ↦
          let due : is_due n rim patch (2048 * i + at) (page_sample now at) ≡ false = sym c.is_due.ensures ∙ w.if-is_due.false in
          record {
            filled = subst (λ (p : List ℕ). IsFilledTo n rim patch i (at + 1) was p) (sym w.page-is) (filled_same n rim patch i was at now so.filled due);
            long = ap length w.page-is ∙ so.long;
            left = λ is. w.page-is ∙ so.left (sym w.is_filled-is ∙ is);
          }
    ]

pub returns-clause-edited : goal.returns-clause-edited
returns-clause-edited c m valid side known of =
    let n : ℕ = c.args.side in
    let at : ℕ = c.loop-at.at in
    let all : at ≡ 2048 = let out = c.loop-at-test.false in let end = c.loop-at.auto.at-end in omega (arith, out, end) in
    page_filled n c.args.rim.now c.args.patch c.args.index c.args.page.now c.loop-at.page m valid side known of
    (subst (λ (k : ℕ). IsFilledTo n c.args.rim.now c.args.patch c.args.index k c.args.page.now c.loop-at.page) all c.loop-at.invariant.filled)
