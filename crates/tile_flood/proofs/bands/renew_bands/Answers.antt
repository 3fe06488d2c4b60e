use Rattle.std.specs.Global.{Vec}
use Rattle.labelling.specs.Blocks.{LabelledGround}
use Rattle.tile_flood.proofs.Prelude.{List, Spill, arith, cases_eq, false, get_or, refl, get_or-set_other, get_or-set_same, inl, inr, length, length-set, rules, set, subst, sym, true, ℕ, ◌+◌, ◌<◌, ◌∙◌, ◌≡◌, ◌≢◌, ap}
use Rattle.tile_flood.specs.Bands.{AreBands, AreOfBand}
use Rattle.tile_flood.proofs.bands.renew_bands.Goals as goal
use Rattle.tile_flood.proofs.bands.renew_bands.Goals.{then-not-is_still+in_ok-band, else-not-is_still}

pub loop-b-init : goal.loop-b-init
loop-b-init c = record {
  whole = refl;
  done = λ b d below. absurd (omega arith);
  still = subst (λ (g : LabelledGround). (b : ℕ) (d : Vec Spill) → b < length c.args.bands.now.items → b < length c.args.changed.now → get_or c.args.changed.now b true ≡ false → AreOfBand g.side g.levels g.labels b (get_or c.args.bands.now.items b d).items) c.view-view.ensures c.requires.still;
}

pub loop-b-preserved : goal.loop-b-preserved
loop-b-preserved c =
    let v = c.view-view.result in
    let b = c.loop-b.b in
    let bands = c.loop-b.bands.items in
    let inv = c.loop-b.invariant in
    let counted : c.len-b-end.result ≡ length c.args.bands.now.items = search rules in
    let inside : b < length bands = (let below = c.loop-b-test.true in let same = inv.whole in omega arith) in
    elim c.if-not-is_still.branch [
      | then-not-is_still+in_ok-band w ↦ rw w.bands-is (
          let bands' = w.put.new.bands.items in
          let written : bands' ≡ set bands b w.in_ok-band.band = w.put.ensures in
          let at : (d : Vec Spill) → get_or bands' b d ≡ w.in_ok-band.band = λ d. ap (λ (l : List (Vec Spill)). get_or l b d) written ∙ get_or-set_same bands b w.in_ok-band.band d inside in
          let else_at : (x : ℕ) (d : Vec Spill) → x ≢ b → get_or bands' x d ≡ get_or bands x d = λ x d other. ap (λ (l : List (Vec Spill)). get_or l x d) written ∙ get_or-set_other bands b x w.in_ok-band.band d other in
          let long : length bands' ≡ length bands = ap (λ (l : List (Vec Spill)). length l) written ∙ length-set bands b w.in_ok-band.band in
          let Is : ℕ → Vec Spill → Type 0 = λ k found. AreOfBand v.n v.levels.now v.labels.now k found.items in
          let here : (x : ℕ) (d : Vec Spill) → x ≡ b → Is x (get_or bands' x d) = λ x d same. subst (λ k. Is k (get_or bands' k d)) (sym same) (subst (Is b) (sym (at d)) w.in_ok-band.ensures) in
          record {
            whole = long ∙ inv.whole;
            done = λ x d below. elim (cases_eq x b) [ inl same ↦ here x d same | inr other ↦ subst (Is x) (sym (else_at x d other)) (inv.done x d (omega arith)) ];
            still = λ x d below flagged off. elim (cases_eq x b) [ inl same ↦ here x d same | inr other ↦ subst (Is x) (sym (else_at x d other)) (inv.still x d (omega arith) flagged off) ];
          })
      | else-not-is_still w ↦ rw w.bands-is (record {
        whole = inv.whole;
        done = λ x d below. elim (cases_eq x b) [
          | inl last ↦ (let is = c.is_still.ensures w.if-not-is_still.false in subst (λ k. AreOfBand v.n v.levels.now v.labels.now k (get_or bands k d).items) (sym last) (inv.still b d inside is.0 is.1))
          | inr other ↦ inv.done x d (omega arith)
        ];
        still = inv.still;
      })
    ]

pub returns : goal.returns
returns c =
    let past = c.loop-b-test.false in
    let same = c.loop-b.invariant.whole in
    let counted : c.len-b-end.result ≡ length c.args.bands.now.items = search rules in
    let few = c.requires.few in
    let whole = c.requires.whole in
    let v = c.view-view.result in
    let side : c.args.labelled.now.side ≡ v.n = ap (λ (g : LabelledGround). g.side) c.view-view.ensures in
    subst (λ (g : LabelledGround). AreBands g.side g.levels g.labels c.loop-b.bands.items) (sym c.view-view.ensures)
    (record { few = omega arith; whole = omega arith; each = λ b d below. c.loop-b.invariant.done b d (omega arith) })
