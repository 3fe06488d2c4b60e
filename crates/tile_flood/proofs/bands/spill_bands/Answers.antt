use Rattle.std.specs.Global.{Vec}
use Rattle.std.proofs.lemmas.List.{get_or_append_left, get_or_push, length_push}
use Rattle.labelling.specs.Blocks.{LabelledGround}
use Rattle.tile_flood.proofs.Prelude.{List, Spill, [], ap, arith, cases_eq, get_or, inl, inr, length, rules, subst, sym, ℕ, ◌++◌, ◌+◌, ◌<◌, ◌∙◌, ◌∷◌, ◌≡◌}
use Rattle.tile_flood.specs.Bands.{AreBands, AreOfBand}
use Rattle.tile_flood.proofs.bands.spill_bands.Goals as goal

pub loop-view-preserved : goal.loop-view-preserved
loop-view-preserved c =
    let v = c.view-view.result in
    let bands = c.loop-view.bands.items in
    let bands' = c.push.new.self.items in
    let band = c.in_ok-band.band in
    let pushed : bands' ≡ bands ++ (band ∷ []) = c.in_ok-push.ensures.items in
    let longer : length bands' ≡ length bands + 1 = ap (λ (l : List (Vec Spill)). length l) pushed ∙ length_push bands band in
    let more = c.loop-view-test.true in
    let counted : c.len.result ≡ length bands = search rules in
    let counted' : c.len-in-loop-view.result ≡ length bands = search rules in
    let Is : ℕ → Vec Spill → Type 0 = λ b found. AreOfBand v.n v.levels.now v.labels.now b found.items in
    record {
      few = omega arith;
      each = λ b d below. elim (cases_eq b (length bands)) [
        | inl last ↦ subst (Is b) (sym (ap (λ (l : List (Vec Spill)). get_or l b d) pushed ∙ get_or_push bands band d b (sym last))) (subst (λ k. Is k band) (counted' ∙ sym last) c.in_ok-band.ensures)
        | inr other ↦ (let inside : b < length bands = omega arith in subst (Is b) (sym (ap (λ (l : List (Vec Spill)). get_or l b d) pushed ∙ get_or_append_left bands (band ∷ []) d b inside)) (c.loop-view.invariant.each b d inside))
      ];
    }

pub returns : goal.returns
returns c =
    let past = c.loop-view-test.false in
    let counted : c.len.result ≡ length c.loop-view.bands.items = search rules in
    subst (λ (g : LabelledGround). AreBands g.side g.levels g.labels c.loop-view.bands.items) (sym c.view-view.ensures)
    (record { few = c.loop-view.invariant.few; whole = omega arith; each = c.loop-view.invariant.each })
