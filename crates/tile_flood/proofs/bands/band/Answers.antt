use Rattle.tile_flood.proofs.Prelude.{[], arith, cases_lt, inl, inr, mul-le-mul_right, subst, sym, ℕ, ◌*◌, ◌+◌, ◌<◌, ◌≡◌, ◌≤◌, Spill, List, ArePassages}
use Rattle.tile_flood.specs.Bands.{AreFoundFrom, ArePlaces}
use Rattle.tile_flood.proofs.RowBands.{none_past}
use Rattle.tile_flood.proofs.bands.band.Goals as goal

pub loop-i-init : goal.loop-i-init
loop-i-init c =
    let n = c.args.view.now.n in
    let levels = c.args.view.now.levels.now in
    let labels = c.args.view.now.labels.now in
    let from = c.args.b * 32 in
    let start = c.min-from.ensures in
    let none : [] ≡ c.in_ok-passages.passages.found.items = sym c.in_ok-passages.ensures in
    let early : c.min-from.result ≤ from = omega arith in
    let rows : c.min-from.result * n ≤ from * n = mul-le-mul_right n early in
    record {
      passages = subst (ArePassages n levels labels) none (λ p has. absurd (let some = has.1 in omega arith));
      places = subst (ArePlaces n levels labels (from * n) ((from + 32) * n)) none (λ p has. absurd (let some = has.1 in omega arith));
      upto = λ e f low high later. absurd (omega arith);
    }

pub loop-i-preserved : goal.loop-i-preserved
loop-i-preserved c =
    let n = c.args.view.now.n in
    let b = c.args.b in
    let i = c.loop-i.i in
    let inside = c.loop-i-test.true in
    let started = c.loop-i.auto.i in
    let start = c.min-from.ensures in
    let end = c.min-end.ensures in
    let low : b * 32 ≤ i = omega arith in
    let high : i + 1 ≤ b * 32 + 32 = omega arith in
    let from : (b * 32) * n ≤ i * n = mul-le-mul_right n low in
    let to : (i + 1) * n ≤ (b * 32 + 32) * n = mul-le-mul_right n high in
    record {
      passages = c.in_ok-gather_row.ensures.passages;
      places = c.in_ok-gather_row.ensures.places ((b * 32) * n) ((b * 32 + 32) * n) from to c.loop-i.invariant.places;
      upto = c.in_ok-gather_row.ensures.upto ((b * 32) * n) c.loop-i.invariant.upto;
    }

pub returns : goal.returns
returns c =
    let n = c.args.view.now.n in
    let b = c.args.b in
    let i = c.loop-i.i in
    let past = c.loop-i-test.false in
    let end = c.min-end.ensures in
    record {
      each = c.loop-i.invariant.places;
      all = λ e f low high later. elim (cases_lt e (i * n)) [
        | inl before ↦ c.loop-i.invariant.upto e f low before later
        | inr after ↦ elim (cases_lt n (b * 32 + 32)) [
          | inl last ↦ (let all : n * n ≤ i * n = mul-le-mul_right n (omega arith) in none_past n c.args.view.now.levels.now c.args.view.now.labels.now c.loop-i.passages.found.items e f (omega arith))
          | inr inner ↦ (let all : (b * 32 + 32) * n ≤ i * n = mul-le-mul_right n (omega arith) in absurd (omega arith))
        ]
      ];
    }
