use Rattle.stored_mosaic.proofs.Prelude.{Corner, Err, IsSettled, IsUnderway, List, MakesPages, Mosaic, Ok, Refusal, Result, StoredTile, ℕ, arith, cases_lt, false, inl, inr, pages_met_in, pages_of, refused_as, subst, sym, ⊎_elim, ◌+◌, ◌<◌, ◌≡◌, ◌⊎◌}
use Rattle.stored_mosaic.proofs.Edits.PagesMet.{met_next, met_same, met_within}
use Rattle.stored_mosaic.proofs.KeptPlanes.StagingSteps.{made_as, made_on, pages_within}
use Rattle.stored_mosaic.proofs.Calls.Underway.{page_beyond, page_passed}
use Rattle.stored_mosaic.proofs.staging_pages.stage_tile.Goals as goal
use Rattle.stored_mosaic.proofs.staging_pages.stage_tile.Goals.{After-next_page}

-- A page that the edit doesn't affect counts as edited.
passed_settled : (g : _) (c : After-next_page g) → (m : Mosaic) → g.E.PageEdit.fits c.args.edit.now m → (tiles : List StoredTile) → IsUnderway c.args.side (g.E.PageEdit.made c.args.edit.now m) m tiles
    → (d : Corner) → d ≡ c.args.corner → (i : ℕ) → g.E.PageEdit.meets c.args.edit.now c.args.side c.args.corner i ≡ false → IsSettled c.args.side (g.E.PageEdit.made c.args.edit.now m) tiles d i
passed_settled g c m fit tiles under d at i out =
    subst (λ (q : Corner). IsSettled c.args.side (g.E.PageEdit.made c.args.edit.now m) tiles q i) (sym at)
    (page_passed c.args.side (g.E.PageEdit.made c.args.edit.now m) m tiles under c.args.corner i (λ t there corner. c.next_page.ensures.leaves m under.valid under.side fit t there corner i out))

pub returns-in_err-stage_page-clause-makes : goal.returns-in_err-stage_page-clause-makes
returns-in_err-stage_page-clause-makes g c =
    let d = g.D.Disk in
    let n : ℕ = c.args.side in
    let made = g.E.PageEdit.made c.args.edit.now in
    let fits = g.E.PageEdit.fits c.args.edit.now in
    let meets = g.E.PageEdit.meets c.args.edit.now n c.args.corner in
    let old = c.args.tree.now in
    let new = c.stage_page.new.tree in
    let i : ℕ = c.in-Some.index in
    let met = c.in-Some.ensures.met in
    let r : Refusal = c.in_err-stage_page.field-0.0 in
    let err : Result (Unit {0}) Refusal = Err r in
    let next = met_next meets c.pages.from i met.0 c.in-Some.ensures.passed met.2 in
    let all = met_within meets (i + 1) (pages_of n) (let below = met.1 in omega (arith, below)) in
    let both = made_on d g.met.D.Disk.only_now n made fits (λ d k. (d ≡ c.args.corner) × (k < c.pages.from)) (λ d k. (d ≡ c.args.corner) × (k ≡ i)) (pages_met_in meets c.pages.from) 1 old c.pages.tree new tt err
    c.pages.invariant.makes c.in_err-stage_page.ensures.makes in
    subst (λ (result : Result (Unit {0}) Refusal). MakesPages d n made fits (λ d k. d ≡ c.args.corner) (pages_met_in meets (pages_of n)) 0 old new result) (sym (refused_as c.from_residual.result r c.from_residual.ensures.1))
    (record { pages = pages_within d (pages_met_in meets c.pages.from + 1) 0 (pages_met_in meets (pages_of n)) 0 old new err (omega (arith, next, all)) (omega arith) both.pages; set = λ honest s m at fit under. tt })

pub pages-preserved : goal.pages-preserved
pages-preserved g c =
    let at = (goal.at.pages-preserved g c).After-next_page in
    let d = g.D.Disk in
    let n : ℕ = c.args.side in
    let corner : Corner = c.args.corner in
    let made = g.E.PageEdit.made c.args.edit.now in
    let fits = g.E.PageEdit.fits c.args.edit.now in
    let meets = g.E.PageEdit.meets c.args.edit.now n corner in
    let from : ℕ = c.pages.from in
    let i : ℕ = c.in-Some.index in
    let met = c.in-Some.ensures.met in
    let passed = c.in-Some.ensures.passed in
    let old = c.args.tree.now in
    let new = c.stage_page.new.tree in
    let ok : Result (Unit {0}) Refusal = Ok tt in
    let next = met_next meets from i met.0 passed met.2 in
    record {
      within = let below = met.1 in omega (arith, below);
      makes = made_as d g.met.D.Disk.only_now n made fits (λ d k. ((d ≡ corner) × (k < from)) ⊎ ((d ≡ corner) × (k ≡ i))) (λ d k. (d ≡ corner) × (k < i + 1)) (pages_met_in meets from + 1) (pages_met_in meets (i + 1)) old new ok
          (omega (arith, next))
          (λ m fit tiles under d k here.
          ⊎_elim (λ before. inl (inl (here.0, before)))
          (λ later. ⊎_elim (λ between. inr (passed_settled g at m fit tiles under d here.0 k (passed k later between))) (λ last. inl (inr (here.0, let below = here.1 in omega (arith, last, below)))) (cases_lt k i))
          (cases_lt k from))
          (made_on d g.met.D.Disk.only_now n made fits (λ d k. (d ≡ corner) × (k < from)) (λ d k. (d ≡ corner) × (k ≡ i)) (pages_met_in meets from) 1 old c.pages.tree new tt ok
          c.pages.invariant.makes c.in_ok-stage_page.ensures.makes);
    }

pub returns-clause-makes : goal.returns-clause-makes
returns-clause-makes g c =
    let at = (goal.at.returns-clause-makes g c).After-next_page in
    let n : ℕ = c.args.side in
    let corner : Corner = c.args.corner in
    let made = g.E.PageEdit.made c.args.edit.now in
    let meets = g.E.PageEdit.meets c.args.edit.now n corner in
    let ok : Result (Unit {0}) Refusal = Ok tt in
    let out = c.in_default.ensures.none in
    made_as g.D.Disk g.met.D.Disk.only_now n made (g.E.PageEdit.fits c.args.edit.now) (λ d k. (d ≡ corner) × (k < c.pages.from)) (λ d k. d ≡ corner) (pages_met_in meets c.pages.from) (pages_met_in meets (pages_of n))
    c.args.tree.now c.pages.tree ok (let all = met_same meets c.pages.from (pages_of n) c.pages.invariant.within out in omega (arith, all))
    (λ m fit tiles under d k here.
    ⊎_elim (λ before. inl (here, before))
    (λ from. ⊎_elim (λ below. inr (passed_settled g at m fit tiles under d here k (out k from below))) (λ past. inr (page_beyond n (made m) tiles d k past)) (cases_lt k (pages_of n)))
    (cases_lt k c.pages.from))
    c.pages.invariant.makes
