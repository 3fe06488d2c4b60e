use Rattle.stored_mosaic.proofs.Prelude.{IsSample, List, NewHeight, ℕ, ℤ, ap, arith, get_or, length, subst, sym, ⊎_elim, ◌+◌, ◌<◌, ◌∙◌, ◌≡◌}
use Rattle.std.proofs.lemmas.Bool.{cases_Bool, or_parts}
use Rattle.stored_mosaic.proofs.Edits.NewHeights.{IsSetTo, all_set, height_passed, height_set, height_there}
use Rattle.stored_mosaic.proofs.Pages.{with_bytes}
use Rattle.stored_mosaic.proofs.Edits.VoidPages.{sample_passed}
use Rattle.stored_mosaic.proofs.heights.set_heights.Goals as goal
use Rattle.stored_mosaic.proofs.heights.set_heights.Goals.{in-Some, in_default}

pub loop-k-preserved : goal.loop-k-preserved
loop-k-preserved c =
    let n : ℕ = c.args.side in
    let heights = c.args.heights.now in
    let k : ℕ = c.loop-k.k in
    let h : NewHeight = c.nth-height.result in
    let i : ℕ = c.args.page_index in
    let was = c.args.page.now in
    let now = c.loop-k.page in
    let so = c.loop-k.invariant in
    let within : k < length heights = let less = c.loop-k-test.true in let end = c.loop-k.auto.k-end in omega (arith, less, end) in
    let is : h ≡ get_or heights k h = c.nth-height.ensures h in
    elim c.match-place_in.branch [
      | in-Some w ↦
          let metres : ℤ = w.metres_of.result in
          let value : metres ≡ h.metres = w.metres_of.ensures.value in
          let at : ℕ = w.in-Some.at in
          let passed : ◌≡◌ {A = ℤ} _ h.metres = sample_passed metres w.metres_of.ensures.sample ∙ value in
          record {
            set = λ corner.
                ⊎_elim
                (λ changed.
                let written = w.set_sample-is_set.ensures.set changed ∙ ap (λ (s : ℤ). with_bytes at s now) passed in
                subst (λ (p : List ℕ). IsSetTo n heights c.args.corner i (k + 1) was p) (sym (w.page-is ∙ written))
                (height_set n heights c.args.corner corner i was k h within is now (so.set corner) at w.in-Some.ensures.some.0 w.in-Some.ensures.some.1 (subst IsSample value w.metres_of.ensures.sample)))
                (λ same.
                let left = w.set_sample-is_set.ensures.left same in
                subst (λ (p : List ℕ). IsSetTo n heights c.args.corner i (k + 1) was p) (sym (w.page-is ∙ left.0))
                (height_there n heights c.args.corner corner i was k h within is now (so.set corner) at w.in-Some.ensures.some.0 w.in-Some.ensures.some.1 (left.1 ∙ passed)))
                (cases_Bool w.set_sample-is_set.result);
            left = λ none.
                let two = or_parts c.loop-k.is_set w.set_sample-is_set.result (sym w.is_set-is ∙ none) in
                w.page-is ∙ (w.set_sample-is_set.ensures.left two.1).0 ∙ so.left two.0;
          }
      | in_default w ↦ record {
        set = λ corner.
            subst (λ (p : List ℕ). IsSetTo n heights c.args.corner i (k + 1) was p) (sym w.page-is) (height_passed n heights c.args.corner corner i was k h within is now (so.set corner) w.in_default.ensures.none);
        left = λ none. w.page-is ∙ so.left (sym w.is_set-is ∙ none);
      }
    ]

pub returns-clause-edited : goal.returns-clause-edited
returns-clause-edited c = λ corner. all_set c.args.side c.args.heights.now c.args.corner c.args.page_index c.loop-k.k c.args.page.now c.loop-k.page (let out = c.loop-k-test.false in omega (arith, out)) (c.loop-k.invariant.set corner)
