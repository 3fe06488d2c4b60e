use Rattle.flow_d8.proofs.Prelude.{IsEnded, IsInner, [], ap, ap₂, arith, cases_lt, div-mul-add, flow_in, get_or-append-add, get_or_append_left, inl, inr, length, length-append, mod-mul-add, place_in, subst, sym, ◌%◌, ◌*◌, ◌++◌, ◌+◌, ◌/◌, ◌<◌, ◌∙◌, ◌∷◌, ◌≡◌}
use Rattle.water.specs.declared.flow.Flow.TheVariants.{Unknown}
use Rattle.flow_d8.proofs.Padded.PaddedPlaces.{inner_at}
use Rattle.flow_d8.proofs.preparing.tell_row.Goals as goal

pub ended_flow-flow-requires-clause-inner : goal.ended_flow-flow-requires-clause-inner
ended_flow-flow-requires-clause-inner c =
    let n = c.args.tile.now.side in
    let row = c.args.row in
    let column = c.loop-column.column in
    let small : column < n = omega (arith, c.loop-column-test.true, c.samples-n.ensures.value) in
    let low : row < n = c.requires.row in
    let place : (row + 2) * (n + 4) + (column + 2) ≡ (row + 2) * (n + 4) + 2 + column = omega arith in
    subst (λ w. IsInner w (length c.args.tile.now.levels.now) ((row + 2) * w + 2 + column)) (sym c.width-width.ensures.value)
    (subst (λ z. IsInner (n + 4) z ((row + 2) * (n + 4) + 2 + column)) (sym c.args.tile.now.whole)
    (subst (IsInner (n + 4) ((n + 4) * (n + 4))) place (inner_at n (row + 2) (column + 2) (omega arith) (omega arith) (omega arith) (omega arith))))

pub loop-column-preserved : goal.loop-column-preserved
loop-column-preserved c =
    let n = c.args.tile.now.side in
    let row = c.args.row in
    let column = c.loop-column.column in
    let old = c.loop-column.flows.items in
    let new = c.push.new.self.items in
    let x = c.of.result in
    let was = c.loop-column.invariant in
    let grown : new ≡ old ++ x ∷ [] = c.in_ok-push.ensures.items in
    let small : column < n = omega (arith, c.loop-column-test.true, c.samples-n.ensures.value) in
    let more : length new ≡ length old + 1 = ap (λ l. length l) grown ∙ length-append old (x ∷ []) in
    record {
      whole = omega (arith, more, was.whole);
      ended = λ e low. elim (cases_lt e (row * n + column)) [
        | inl before ↦
            subst (IsEnded c.args.tile.now.levels.now c.args.around.now (n + 4) (place_in n (e / n) (e % n)))
            (sym (ap (λ l. flow_in l e) grown ∙ get_or_append_left old (x ∷ []) Unknown e (omega (arith, was.whole)))) (was.ended e before)
        | inr after ↦
            let same : e ≡ row * n + column = omega arith in
            let quotient : e / n ≡ row = ap (λ v. v / n) same ∙ div-mul-add row n column small in
            let rest : e % n ≡ column = ap (λ v. v % n) same ∙ mod-mul-add row n column small in
            let line : (row + 2) * (n + 4) + 2 + column ≡ place_in n row column = omega arith in
            let place : (row + 2) * (n + 4) + 2 + column ≡ place_in n (e / n) (e % n) = line ∙ sym (ap₂ (place_in n) quotient rest) in
            let end : e ≡ length old + 0 = omega (arith, same, was.whole) in
            let read : flow_in new e ≡ c.ended_flow-flow.result = ap (λ l. flow_in l e) grown ∙ ap (λ i. flow_in (old ++ x ∷ []) i) end ∙ get_or-append-add old (x ∷ []) 0 Unknown ∙ c.of.ensures in
            let made = subst (λ w. IsEnded c.args.tile.now.levels.now c.args.around.now w ((row + 2) * w + 2 + column) c.ended_flow-flow.result) c.width-width.ensures.value c.ended_flow-flow.ensures in
            subst (IsEnded c.args.tile.now.levels.now c.args.around.now (n + 4) (place_in n (e / n) (e % n))) (sym read)
            (subst (λ k. IsEnded c.args.tile.now.levels.now c.args.around.now (n + 4) k c.ended_flow-flow.result) place made)
      ];
    }
