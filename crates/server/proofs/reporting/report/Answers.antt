use Rattle.std.proofs.Common.{◌≡◌, ℕ, List, false, ap₂, sym, ◌∙◌, subst}
use Rattle.std.specs.Prelude.{Result, Ok, Err, OnOk, IfErr}
use Rattle.std.specs.Global.{Vec}
use Rattle.lattice.specs.Corners.{Corner}
use Rattle.lattice.specs.declared.refusal.Refusal.{Refusal}
use Rattle.lattice.specs.declared.refusal.Refusal.TheVariants.{NoMemory}
use Rattle.derived.specs.Kept.{stale_in}
use Rattle.engine.specs.Engines.{items_in}
use Rattle.store.specs.Stores.{root_of, has_failed}
use Rattle.cow_tree.proofs.Uncommitted.{refused_as}
use Rattle.store.proofs.Calls.StoreCalls.{only_memory, tiles_at}
use Rattle.server.specs.Report.{report_text}
use Rattle.server.proofs.reporting.report.Goals as goal

-- If the seams were counted, the store hasn't failed.
then_works : (seams : Result ℕ Refusal) (n : ℕ) (X : Type 0) → seams ≡ Ok n → OnOk seams X → X
then_works seams n X was is = subst (λ (answer : Result ℕ Refusal). OnOk answer X) was is

pub returns-in_err-corners-clause-memory : goal.returns-in_err-corners-clause-memory
returns-in_err-corners-clause-memory g c =
    let store = c.args.store.now in
    let r : Refusal = c.in_err-corners.field-0.0 in
    let works = then_works c.args.seams c.in_ok-seams.seams (has_failed store ≡ false) c.in_ok-seams.was c.requires.works in
    let memory : r ≡ NoMemory = only_memory g.D.Disk store works (Err r) c.in_err-corners.ensures in
    rw c.in_ok-seams.was
    (subst (λ (answer : Result (Vec ℕ) Refusal). IfErr (items_in answer) (λ why. why ≡ NoMemory))
    (sym (refused_as c.from_residual-in_err-corners.result r c.from_residual-in_err-corners.ensures.1)) memory)

pub returns-clause-report : goal.returns-clause-report
returns-clause-report g c honest s at =
    let d = g.D.Disk in
    let store = c.args.store.now in
    let works = then_works c.args.seams c.in_ok-seams.seams (has_failed store ≡ false) c.in_ok-seams.was c.requires.works in
    let tiles = tiles_at d store works (Ok c.in_ok-corners.corners) c.in_ok-corners.ensures honest s at in
    let seams = c.in_ok-seams.seams in
    let text =
    c.in_ok-text.ensures
    ∙ ap₂ (λ (k n : ℕ). report_text k n (stale_in (root_of store)) c.as_slice.result.now seams) at.in_state.count at.in_state.number
    ∙ ap₂ (λ (stale corners : List Corner). report_text s.contents.count s.contents.number stale corners seams) at.in_state.stale (c.as_slice.ensures.value ∙ tiles) in
    rw c.in_ok-seams.was text
