use Rattle.stored_mosaic.proofs.Prelude.{Contains, Contains-push_cases, Corner, Err, List, MakesPages, Ok, Refusal, Result, ℕ, [], ap, arith, corners_of, inl, inr, pages_met, pages_met_in, pages_of, refused_as, subst, sym, take, take_all, take_more, ⊎_elim, ◌++◌, ◌+◌, ◌∙◌, ◌∷◌, ◌≡◌, ◌⊎◌}
use Rattle.stored_mosaic.proofs.Edits.PagesMet.{met_front, met_more}
use Rattle.stored_mosaic.proofs.KeptPlanes.StagingSteps.{made_as, made_on, pages_within}
use Rattle.stored_mosaic.proofs.staging_pages.stage_tiles.Goals as goal

pub stage_tile-requires-clause-present : goal.stage_tile-requires-clause-present
stage_tile-requires-clause-present g c =
    subst (λ (cs : List Corner). Contains cs c.corner-item.result) (sym c.loop-corner.invariant.pages.corners)
    (subst (Contains (corners_of c.args.tree.now)) (sym c.corner-item.is) (c.requires.present c.loop-corner.corner-index c.corner-item.result c.loop-corner-test.true))

pub returns-in_err-stage_tile-clause-makes : goal.returns-in_err-stage_tile-clause-makes
returns-in_err-stage_tile-clause-makes g c =
    let d = g.D.Disk in
    let n : ℕ = c.args.side in
    let made = g.E.PageEdit.made c.args.edit.now in
    let fits = g.E.PageEdit.fits c.args.edit.now in
    let meets = g.E.PageEdit.meets c.args.edit.now n in
    let old = c.args.tree.now in
    let new = c.stage_tile.new.tree in
    let corners = c.args.corners.now in
    let k : ℕ = c.loop-corner.corner-index in
    let here : Corner = c.corner-item.result in
    let before : ℕ = pages_met meets (pages_of n) (take k corners) in
    let own : ℕ = pages_met_in (meets here) (pages_of n) in
    let r : Refusal = c.in_err-stage_tile.field-0.0 in
    let err : Result (Unit {0}) Refusal = Err r in
    let more = met_more meets (pages_of n) corners k here c.loop-corner-test.true c.corner-item.is in
    let all = met_front meets (pages_of n) corners (k + 1) in
    let both = made_on d g.met.D.Disk.only_now n made fits (λ e i. Contains (take k corners) e) (λ e i. e ≡ here) before own old c.loop-corner.tree new tt err c.loop-corner.invariant c.in_err-stage_tile.ensures.makes in
    subst (λ (result : Result (Unit {0}) Refusal). MakesPages d n made fits (λ e i. Contains corners e) (pages_met meets (pages_of n) corners) 0 old new result) (sym (refused_as c.from_residual.result r c.from_residual.ensures.1))
    (record { pages = pages_within d (before + own) 0 (pages_met meets (pages_of n) corners) 0 old new err (omega (arith, more, all)) (omega arith) both.pages; set = λ honest s m at fit under. tt })

pub loop-corner-preserved : goal.loop-corner-preserved
loop-corner-preserved g c =
    let d = g.D.Disk in
    let n : ℕ = c.args.side in
    let made = g.E.PageEdit.made c.args.edit.now in
    let fits = g.E.PageEdit.fits c.args.edit.now in
    let meets = g.E.PageEdit.meets c.args.edit.now n in
    let old = c.args.tree.now in
    let new = c.stage_tile.new.tree in
    let corners = c.args.corners.now in
    let k : ℕ = c.loop-corner.corner-index in
    let here : Corner = c.corner-item.result in
    let before : ℕ = pages_met meets (pages_of n) (take k corners) in
    let own : ℕ = pages_met_in (meets here) (pages_of n) in
    let ok : Result (Unit {0}) Refusal = Ok tt in
    let next : take (k + 1) corners ≡ take k corners ++ here ∷ [] = take_more corners k here c.loop-corner-test.true ∙ ap (λ (x : Corner). take k corners ++ x ∷ []) (sym c.corner-item.is) in
    made_as d g.met.D.Disk.only_now n made fits (λ e i. Contains (take k corners) e ⊎ (e ≡ here)) (λ e i. Contains (take (k + 1) corners) e) (before + own) (pages_met meets (pages_of n) (take (k + 1) corners)) old new ok
    (let more = met_more meets (pages_of n) corners k here c.loop-corner-test.true c.corner-item.is in omega (arith, more))
    (λ m fit tiles under e i there. inl (⊎_elim (λ was. inl was) (λ is. inr (sym is)) (Contains-push_cases (take k corners) here e (subst (λ (l : List Corner). Contains l e) next there))))
    (made_on d g.met.D.Disk.only_now n made fits (λ e i. Contains (take k corners) e) (λ e i. e ≡ here) before own old c.loop-corner.tree new tt ok c.loop-corner.invariant c.in_ok-stage_tile.ensures.makes)

pub returns-clause-makes : goal.returns-clause-makes
returns-clause-makes g c =
    let ok : Result (Unit {0}) Refusal = Ok tt in
    subst (λ (l : List Corner). MakesPages g.D.Disk c.args.side (g.E.PageEdit.made c.args.edit.now) (g.E.PageEdit.fits c.args.edit.now) (λ e i. Contains l e)
    (pages_met (g.E.PageEdit.meets c.args.edit.now c.args.side) (pages_of c.args.side) l) 0 c.args.tree.now c.loop-corner.tree ok)
    (take_all c.loop-corner.corner-index c.args.corners.now c.loop-corner-test.false) c.loop-corner.invariant
