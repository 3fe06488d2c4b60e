use Rattle.stored_mosaic.proofs.Prelude.{All, AreRimVoids, AreVoidTiles, AreWhole, Contains, Corner, Device, IsMosaic, IsReadable, IsUnderway, List, MakesPages, Mosaic, Ok, OnOk, Refusal, Result, RimVoids, RootValue, Settles, StoredTile, ℕ, ap, ap₂, arith, box_meets, corners_of, filled, map, mosaic_of, mosaic_of_tiles, never_refused, pages_met, pages_of, root_of, sinks_of, staged_in, subst, sym, ◌+◌, ◌-◌, ◌∙◌, ◌≡◌}
use Rattle.stored_mosaic.proofs.Edits.EditingReads.{reading}
use Rattle.stored_mosaic.proofs.KeptPlanes.StagingSteps.{only_read, pages_on, pages_within}
use Rattle.stored_mosaic.proofs.Calls.Underway.{whole_pages}
use Rattle.stored_mosaic.proofs.voids.stage_voids.Goals as goal

pub returns-clause-makes : goal.returns-clause-makes
returns-clause-makes g c =
    let d = g.D.Disk in
    let old = c.args.tree.now in
    let read = c.read_rims.new.samples in
    let new = c.stage_pages.new.tree in
    let patch = c.args.patch in
    let n : ℕ = (root_of old).side in
    let result = c.stage_pages.result in
    let reads = c.in_ok-rims.ensures.reads in
    let keeps = reads.keeps in
    let rims = c.deref.result.now in
    let corners : List Corner = map (λ (r : RimVoids). r.corner) rims in
    let listed : corners ≡ c.args.tiles.now = ap (map (λ (r : RimVoids). r.corner)) c.deref.ensures.value ∙ c.in_ok-rims.ensures.corners in
    let fits : Mosaic → Type 0 = λ m. All (AreRimVoids m patch) rims × AreVoidTiles m patch.from patch.to corners in
    let pages : ℕ → List Corner → List Corner → ℕ = λ k l cs. pages_met (box_meets k patch l) (pages_of k) cs in
    let q : ℕ = pages n c.args.tiles.now (corners_of old) in
    let rest : MakesPages d n (λ m. filled m patch) fits (λ e i. Contains (corners_of old) e) q q read new result =
    subst (λ (l : List Corner). MakesPages d n (λ m. filled m patch) fits (λ e i. Contains (corners_of old) e) (pages n l (corners_of old)) (pages n l (corners_of old)) read new result) listed
    (subst (λ (cs : List Corner). MakesPages d n (λ m. filled m patch) fits (λ e i. Contains cs e) (pages n corners cs) (pages n corners cs) read new result) keeps.corners
    (subst (λ (r : RootValue). MakesPages d r.side (λ m. filled m patch) fits (λ e i. Contains (corners_of read) e) (pages r.side corners (corners_of read)) (pages r.side corners (corners_of read)) read new result) keeps.root
    c.stage_pages.ensures.makes)) in
    let ok : Result (Unit {0}) Refusal = Ok tt in
    let first = only_read d 0 0 old read ok keeps (reading d old read keeps ok (λ is. never_refused tt Device is) (λ is. absurd (never_refused tt Device is)) (reads.ready c.requires.works)) in
    record {
      pages = pages_within d (0 + q) (0 + q) q q old new result (omega arith) (omega arith) (pages_on d 0 0 q q old read new tt result first rest.pages);
      set = λ honest s m at fit under.
          let edit = filled m patch in
          let before = rest.pages.uncommitted.returns.honest honest in
          let staged : staged_in d read ≡ staged_in d old = keeps.staged before in
          let same : mosaic_of d read ≡ m =
          ap₂ (λ (r : RootValue) sinks. mosaic_of_tiles r.side sinks (staged_in d read)) keeps.root keeps.sinks
          ∙ ap (mosaic_of_tiles n (sinks_of old)) staged ∙ fit.0 in
          let sure : IsReadable d read = record {
            honest = before;
            pages = subst AreWhole (sym staged) (whole_pages n edit m (staged_in d old) under);
            valid = subst IsMosaic (sym same) under.valid;
          } in
          let known : All (AreRimVoids m patch) c.in_ok-rims.rims.items = subst (λ (x : Mosaic). All (AreRimVoids x patch) c.in_ok-rims.rims.items) fit.0 (c.in_ok-rims.ensures.voids sure) in
          subst (λ (ts : List StoredTile). OnOk result (Settles n edit m (λ e i. Contains (corners_of old) e) ts (staged_in d new))) staged
          (rest.set honest s m (keeps.at before s at (reads.ready c.requires.works))
          (subst (λ (l : List RimVoids). All (AreRimVoids m patch) l) (sym c.deref.ensures.value) known, subst (λ (cs : List Corner). AreVoidTiles m patch.from patch.to cs) (sym listed) fit.1)
          (subst (λ (ts : List StoredTile). IsUnderway n edit m ts) (sym staged) under));
    }
