use Rattle.stored_mosaic.proofs.Prelude.{All, All-contains_itself, Contains, Corner, Err, List, MakesPages, Ok, Prepares, Refusal, Result, RootValue, ℕ, ap, arith, corners_of, pages_met, pages_of, refused_as, root_of, subst, sym, ◌∙◌, ◌≡◌}
use Rattle.stored_mosaic.proofs.KeptPlanes.StagingSteps.{made_behind, pages_within, prepared_pages}
use Rattle.stored_mosaic.proofs.staging_pages.stage_pages.Goals as goal

pub prepare_tiles-requires-clause-present : goal.prepare_tiles-requires-clause-present
prepare_tiles-requires-clause-present g c =
    let old = c.args.tree.now in
    subst (λ (cs : List Corner). All (Contains (corners_of old)) cs) (sym (c.as_slice.ensures.value ∙ c.corners-corners.ensures.corners)) (All-contains_itself (corners_of old))

pub returns-in_err-prepare_tiles-clause-makes : goal.returns-in_err-prepare_tiles-clause-makes
returns-in_err-prepare_tiles-clause-makes g c =
    let d = g.D.Disk in
    let old = c.args.tree.now in
    let new = c.prepare_tiles.new.tree in
    let n : ℕ = (root_of old).side in
    let meets = g.E.PageEdit.meets c.args.edit.now in
    let q : ℕ = pages_met (meets n) (pages_of n) (corners_of old) in
    let r : Refusal = c.in_err-prepare_tiles.field-0.0 in
    let err : Result (Unit {0}) Refusal = Err r in
    let done : Prepares d q old new err =
    subst (λ (k : ℕ). Prepares d (pages_met (meets k) (pages_of k) (corners_of old)) old new err) (c.side-side.ensures.value ∙ ap (λ (r : RootValue). r.side) c.current.ensures)
    (subst (λ (cs : List Corner). Prepares d (pages_met (meets c.side-side.result) (pages_of c.side-side.result) cs) old new err) (c.as_slice.ensures.value ∙ c.corners-corners.ensures.corners) c.in_err-prepare_tiles.ensures.prepares) in
    subst (λ (result : Result (Unit {0}) Refusal). MakesPages d n (g.E.PageEdit.made c.args.edit.now) (g.E.PageEdit.fits c.args.edit.now) (λ e i. Contains (corners_of old) e) q q old new result)
    (sym (refused_as c.from_residual.result r c.from_residual.ensures.1))
    (record { pages = pages_within d 0 q q q old new err (omega arith) (omega arith) (prepared_pages d g.met.D.Disk.only_now q old new err c.requires.works done); set = λ honest s m at fit under. tt })

pub stage_tiles-requires-clause-present : goal.stage_tiles-requires-clause-present
stage_tiles-requires-clause-present g c =
    let old = c.args.tree.now in
    subst (λ (cs : List Corner). All (Contains cs) c.as_slice-2.result.now) (sym c.in_ok-prepare_tiles.ensures.prepares.changes.corners)
    (subst (λ (cs : List Corner). All (Contains (corners_of old)) cs) (sym (c.as_slice-2.ensures.value ∙ c.corners-corners.ensures.corners)) (All-contains_itself (corners_of old)))

pub returns-clause-makes : goal.returns-clause-makes
returns-clause-makes g c =
    let d = g.D.Disk in
    let old = c.args.tree.now in
    let mid = c.prepare_tiles.new.tree in
    let new = c.stage_tiles.new.tree in
    let n : ℕ = (root_of old).side in
    let made = g.E.PageEdit.made c.args.edit.now in
    let fits = g.E.PageEdit.fits c.args.edit.now in
    let meets = g.E.PageEdit.meets c.args.edit.now in
    let side : c.side-side.result ≡ n = c.side-side.ensures.value ∙ ap (λ (r : RootValue). r.side) c.current.ensures in
    let q : ℕ = pages_met (meets n) (pages_of n) (corners_of old) in
    let ok : Result (Unit {0}) Refusal = Ok tt in
    let first : Prepares d q old mid ok =
    subst (λ (k : ℕ). Prepares d (pages_met (meets k) (pages_of k) (corners_of old)) old mid ok) side
    (subst (λ (cs : List Corner). Prepares d (pages_met (meets c.side-side.result) (pages_of c.side-side.result) cs) old mid ok) (c.as_slice.ensures.value ∙ c.corners-corners.ensures.corners) c.in_ok-prepare_tiles.ensures.prepares) in
    let second : MakesPages d n made fits (λ e i. Contains (corners_of old) e) q 0 mid new c.stage_tiles.result =
    subst (λ (k : ℕ). MakesPages d k made fits (λ e i. Contains (corners_of old) e) (pages_met (meets k) (pages_of k) (corners_of old)) 0 mid new c.stage_tiles.result) side
    (subst (λ (cs : List Corner). MakesPages d c.side-side.result made fits (λ e i. Contains cs e) (pages_met (meets c.side-side.result) (pages_of c.side-side.result) cs) 0 mid new c.stage_tiles.result)
    (c.as_slice-2.ensures.value ∙ c.corners-corners.ensures.corners) c.stage_tiles.ensures.makes) in
    made_behind d g.met.D.Disk.only_now n made fits (λ e i. Contains (corners_of old) e) q q old mid new c.stage_tiles.result c.requires.works first second
