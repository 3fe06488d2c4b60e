use Rattle.tile_flood.proofs.Prelude.{SFits, [], ap, arith, inr, length, raised_level, rules, slice_index, slice_index_or, subst, sym, to_z-of_z, void, w16, ◌*◌, ◌++◌, ◌-◌, ◌∙◌, ◌∷◌, ◌≡◌}
use Rattle.tile_flood.proofs.Raised.{rim_filled_levels, rim_filled_can, raised_more}
use Rattle.tile_flood.proofs.raising.raise.Goals as goal

pub returns-in_default-clause-not_damaged : goal.returns-in_default-clause-not_damaged
returns-in_default-clause-not_damaged c =
    let levels = c.args.labelled.now.levels in
    let labels = c.args.labelled.now.labels in
    let at : c.raised.result ≡ raised_level c.args.rim.now (slice_index_or levels c.loop-e.e void) (slice_index labels c.loop-e.e) =
    subst (λ ls. c.raised.result ≡ raised_level c.args.rim.now (slice_index_or ls c.loop-e.e void) (slice_index labels c.loop-e.e)) c.levels-levels.ensures.value
    (subst (λ bs. c.raised.result ≡ raised_level c.args.rim.now (slice_index_or c.levels-levels.result.now c.loop-e.e void) (slice_index bs c.loop-e.e)) c.labels-labels.ensures.value c.raised.ensures) in
    let size : length c.levels-levels.result.now ≡ c.args.labelled.now.side * c.args.labelled.now.side = ap length c.levels-levels.ensures.value ∙ c.levels-levels.ensures.whole in
    λ m p h. absurd (rim_filled_can m p c.args.labelled.now.side levels labels c.args.rim.now h (inr (c.loop-e.e, (omega arith, sym at ∙ c.in_default.is))))

pub loop-e-preserved : goal.loop-e-preserved
loop-e-preserved c =
    let levels = c.args.labelled.now.levels in
    let labels = c.args.labelled.now.labels in
    let at : c.raised.result ≡ raised_level c.args.rim.now (slice_index_or levels c.loop-e.e void) (slice_index labels c.loop-e.e) =
    subst (λ ls. c.raised.result ≡ raised_level c.args.rim.now (slice_index_or ls c.loop-e.e void) (slice_index labels c.loop-e.e)) c.levels-levels.ensures.value
    (subst (λ bs. c.raised.result ≡ raised_level c.args.rim.now (slice_index_or c.levels-levels.result.now c.loop-e.e void) (slice_index bs c.loop-e.e)) c.labels-labels.ensures.value c.raised.ensures) in
    let fits : SFits w16 c.in-Some.level = search rules in
    raised_more c.args.labelled.now.side levels labels c.args.rim.now c.loop-e.filled.items c.add.new.filled.items c.loop-e.e c.in-Some.level c.loop-e.invariant
    (c.in_ok-add.ensures ∙ ap (λ v. c.loop-e.filled.items ++ v ∷ []) (to_z-of_z fits)) (sym at ∙ c.in-Some.is)

pub returns-clause-filled : goal.returns-clause-filled
returns-clause-filled c =
    let side = c.args.labelled.now.side in
    let size : length c.levels-levels.result.now ≡ side * side = ap length c.levels-levels.ensures.value ∙ c.levels-levels.ensures.whole in
    let at_end : c.loop-e.e ≡ side * side = omega arith in
    let samples : c.samples.result ≡ side = c.samples.ensures.value ∙ c.side-side.ensures in
    let same_size = c.if-rim-samples.false in
    let rim_size : length c.args.rim.now ≡ 4 * (side - 1) = same_size ∙ ap (λ n. 4 * (n - 1)) samples in
    λ m p h. rim_filled_levels m p side c.args.labelled.now.levels c.args.labelled.now.labels c.args.rim.now c.loop-e.filled.items h
    (record { rim_whole = rim_size; whole = c.loop-e.invariant.whole ∙ at_end; each = λ e less. c.loop-e.invariant.each e (omega arith) })
