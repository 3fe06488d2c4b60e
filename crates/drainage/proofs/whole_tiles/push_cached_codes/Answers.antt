use Rattle.drainage.proofs.Prelude.{AreCodesTo, IsCodeOrNone, List, [], ap, arith, length, length-append, point_of, subst, sym, ◌+◌, ◌∙◌, ◌∷◌, ℕ}
use Rattle.drainage.proofs.Questions.Told.{told_of}
use Rattle.drainage.proofs.Tiles.WholeTiles.{code_more, told_code}
use Rattle.drainage.proofs.whole_tiles.push_cached_codes.Goals as goal

pub loop-index-preserved : goal.loop-index-preserved
loop-index-preserved c =
    let so = c.loop-index.invariant in
    let old = c.loop-index.codes.items in
    let index = c.loop-index.index in
    let byte = c.code_told.result in
    record {
      whole = ap (λ (l : List ℕ). length l) c.in_ok-push.ensures.pushed ∙ (length-append old (byte ∷ []) ∙ ap (λ i. i + 1) so.whole);
      from = omega (arith, so.from);
      codes = λ m is side held before.
          let p = point_of m.side c.args.corner index in
          let flow = c.sample_flow-flow.result in
          let code = subst (λ (k : ℕ). IsCodeOrNone m p k) (sym c.code_told.ensures)
          (told_code m is p flow (λ level filled. told_of m level p flow (c.sample_flow-flow.ensures m held level filled) (c.tells_all.ensures.0 c.if-not-tells_all.false))) in
          code_more m is c.args.corner old c.push.new.items.items index byte c.in_ok-push.ensures.pushed code (so.codes m is side held before);
    }

pub returns-then-not-tells_all-clause-codes : goal.returns-then-not-tells_all-clause-codes
returns-then-not-tells_all-clause-codes c m is side held before =
    let so = c.loop-index.invariant in
    subst (λ k. AreCodesTo m c.args.corner k c.loop-index.codes.items) (sym so.whole) (so.codes m is side held before)

pub returns-clause-codes : goal.returns-clause-codes
returns-clause-codes c m is side held before =
    let so = c.loop-index.invariant in
    subst (λ k. AreCodesTo m c.args.corner k c.loop-index.codes.items) (sym so.whole) (so.codes m is side held before)
