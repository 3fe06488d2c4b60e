use Rattle.flow_d8.proofs.Prelude.{IsLevelIn, [], ap, arith, cases_lt, filled_of, get_or, get_or-append-add, get_or_append_left, inl, inr, length, length-append, no_corner, of_z, padded_point, subst, sym, to_z, to_z-of_z, w16, ◌%◌, ◌++◌, ◌+◌, ◌/◌, ◌∙◌, ◌∷◌, ◌≡◌}
use Rattle.lattice.specs.Mosaic.{void}
use Rattle.flow_d8.proofs.padding.padded_levels.Goals as goal

pub loop-place-preserved : goal.loop-place-preserved
loop-place-preserved c =
    let t = c.args.tiles.now in
    let n = t.side in
    let corner = get_or t.corners c.args.tile no_corner in
    let place = c.loop-place.place in
    let old = c.loop-place.padded.items in
    let new = c.push.new.self.items in
    let x = to_z w16 (of_z w16 c.level_in.result) in
    let same_level : x ≡ c.level_in.result = to_z-of_z w16 c.level_in.result (record { sfits = c.level_in.type_inv }) in
    let was = c.loop-place.invariant in
    let grown : new ≡ old ++ x ∷ [] = c.in_ok-push.ensures.items in
    let more : length new ≡ length old + 1 = ap (λ l. length l) grown ∙ length-append old (x ∷ []) in
    let n_is : c.samples.result ≡ n = c.samples.ensures.value ∙ c.side.ensures.value in
    record {
      whole = omega (arith, more, was.whole);
      padded = λ sinks e low. elim (cases_lt e place) [
        | inl before ↦
            subst (IsLevelIn (filled_of t c.args.levels.now sinks) (padded_point n corner (e / (n + 4)) (e % (n + 4))))
            (sym (ap (λ l. get_or l e void) grown ∙ get_or_append_left old (x ∷ []) void e (omega (arith, was.whole)))) (was.padded sinks e before)
        | inr after ↦
            let same : e ≡ place = omega arith in
            let end : e ≡ length old + 0 = omega (arith, same, was.whole) in
            let read : get_or new e void ≡ x = ap (λ l. get_or l e void) grown ∙ ap (λ i. get_or (old ++ x ∷ []) i void) end ∙ get_or-append-add old (x ∷ []) 0 void in
            let made = subst (λ k. IsLevelIn (filled_of t c.args.levels.now sinks) (padded_point n corner (place / (k + 4)) (place % (k + 4))) x) n_is (subst (IsLevelIn (filled_of t c.args.levels.now sinks) (padded_point n corner (place / (c.samples.result + 4)) (place % (c.samples.result + 4)))) (sym same_level) (c.level_in.ensures sinks)) in
            subst (IsLevelIn (filled_of t c.args.levels.now sinks) (padded_point n corner (e / (n + 4)) (e % (n + 4)))) (sym read)
            (subst (λ i. IsLevelIn (filled_of t c.args.levels.now sinks) (padded_point n corner (i / (n + 4)) (i % (n + 4))) x) (sym same) made)
      ];
    }
