use Rattle.std.proofs.Common.{◌⊎◌, ◌<◌, Bool, true, false, Ok, sym, subst, arith}
use Rattle.disk.specs.Disk.{Image}
use Rattle.page_codec.specs.Roots.{RootValue}
use Rattle.disk.specs.Stops.{LeavesOnly}
use Rattle.roots.specs.Roots.{IsReady}
use Rattle.roots.specs.Slots.{IsAt, KeepsAll}
use Rattle.roots.specs.Found.{HasMoved, KeepsEarlierYet}
use Rattle.roots.proofs.Answered.{noted_ok, noted_works}
use Rattle.roots.proofs.Filled.{committing, committed}
use Rattle.roots.proofs.Readers.{kept_yet, then_filled}
use Rattle.roots.proofs.roots.Roots.commit.Goals as goal
use Rattle.roots.proofs.roots.Roots.commit.Goals.{After-noted}

-- what a stop leaves once `fill_slot` has answered
leaves : (g : _) (c : After-noted g) (honest : g.D.Disk.honest c.fill_slot-answer.new.disk) (ready : IsReady g.D.Disk c.args.self.now)
    → LeavesOnly g.D.Disk c.args.self.now.disk c.fill_slot-answer.new.disk (λ image. KeepsAll c.args.self.now.root (g.D.Disk.may c.args.self.now.disk) image ⊎ HasMoved c.args.root.now (g.D.Disk.seen c.args.self.now.disk) image)
leaves g c honest ready =
    let d = g.D.Disk in
    let old = c.args.self.now in
    let mid = c.begin.new.self in
    let mid_honest = c.fill_slot-answer.ensures.honest honest in
    let each : (i : Image) → d.may mid.disk i → IsAt mid.slot false mid.root i = λ i may. subst (λ (b : Bool). IsAt mid.slot b mid.root i) (mid.shut c.in_ok-begin.ensures.begun) ((c.in_ok-begin.ensures.ready mid_honest ready).each i may) in
    let less : old.root.number < c.args.root.now.number = omega (arith, c.requires.next) in
    committing d mid.slot c.other-slot.result old.root mid.root c.args.root.now old.disk mid.disk c.fill_slot-answer.new.disk c.begin.ensures.root c.other-slot.ensures
    (c.begin.ensures.any_moment mid_honest ready) (c.in_ok-begin.ensures.pages mid_honest) each less (g.met.D.Disk.seen_may mid.disk mid_honest) (c.fill_slot-answer.ensures.any_moment honest)

pub returns-in_err-noted-clause-any_moment : goal.returns-in_err-noted-clause-any_moment
returns-in_err-noted-clause-any_moment g c honest ready = leaves g (goal.at.returns-in_err-noted-clause-any_moment g c).After-noted honest ready

pub returns-clause-any_moment : goal.returns-clause-any_moment
returns-clause-any_moment g c honest ready = leaves g (goal.at.returns-clause-any_moment g c).After-noted honest ready

pub returns-clause-ready : goal.returns-clause-ready
returns-clause-ready g c honest ready =
    let d = g.D.Disk in
    let mid = c.begin.new.self in
    let mid_honest = c.fill_slot-answer.ensures.honest honest in
    let new = c.fill_slot-answer.new.disk in
    let seen = d.seen mid.disk in
    let at : IsAt mid.slot false mid.root seen = subst (λ (b : Bool). IsAt mid.slot b mid.root seen) (mid.shut c.in_ok-begin.ensures.begun) ((c.in_ok-begin.ensures.ready mid_honest ready).each seen (g.met.D.Disk.seen_may mid.disk mid_honest)) in
    let less : mid.root.number < c.args.root.now.number = subst (λ (r : RootValue). r.number < c.args.root.now.number) (sym c.begin.ensures.root) (omega (arith, c.requires.next)) in
    let durable = noted_ok c.fill_slot-answer.result _ _ _ _ c.in_ok-noted.ensures (c.fill_slot-answer.ensures.durable honest) in
    let others = noted_ok c.fill_slot-answer.result _ _ _ _ c.in_ok-noted.ensures (c.fill_slot-answer.ensures.others honest) in
    let spelled = noted_ok c.fill_slot-answer.result _ _ _ _ c.in_ok-noted.ensures (c.fill_slot-answer.ensures.root honest) in
    let opened = noted_ok c.fill_slot-answer.result _ _ _ _ c.in_ok-noted.ensures (c.fill_slot-answer.ensures.opened honest) in
    let now = committed mid.slot c.other-slot.result mid.root c.args.root.now c.copy-self.result seen (d.seen new) c.other-slot.ensures c.copy-self.ensures at less others spelled opened in
    record {
      works = noted_works c.fill_slot-answer.result (Ok tt) mid.failed c.noted.new.failed _ c.in_ok-noted.ensures c.in_ok-begin.ensures.not_failed (λ works. works);
      each = λ image may. subst (λ (i : Image). IsAt c.other-slot.result true c.copy-self.result i) (sym (durable image may)) now;
    }

-- no root but the two stands behind an open gate once it has begun
readers : (g : _) (c : After-noted g) (honest : g.D.Disk.honest c.fill_slot-answer.new.disk) (ready : IsReady g.D.Disk c.args.self.now)
    → LeavesOnly g.D.Disk c.args.self.now.disk c.fill_slot-answer.new.disk (KeepsEarlierYet c.args.self.now.root c.args.root.now (g.D.Disk.may c.args.self.now.disk))
readers g c honest ready =
    let d = g.D.Disk in
    let old = c.args.self.now in
    let mid = c.begin.new.self in
    let mid_honest = c.fill_slot-answer.ensures.honest honest in
    let each : (i : Image) → d.may mid.disk i → IsAt mid.slot false mid.root i = λ i may. subst (λ (b : Bool). IsAt mid.slot b mid.root i) (mid.shut c.in_ok-begin.ensures.begun) ((c.in_ok-begin.ensures.ready mid_honest ready).each i may) in
    then_filled d old.disk mid.disk old.root (c.begin.ensures.readers mid_honest ready) mid.slot c.other-slot.result mid.root c.args.root.now c.fill_slot-answer.new.disk c.begin.ensures.root c.other-slot.ensures each
    (g.met.D.Disk.seen_may mid.disk mid_honest) (c.fill_slot-answer.ensures.any_moment honest)

pub returns-in_err-noted-clause-readers : goal.returns-in_err-noted-clause-readers
returns-in_err-noted-clause-readers g c honest ready = readers g (goal.at.returns-in_err-noted-clause-readers g c).After-noted honest ready

pub returns-clause-readers : goal.returns-clause-readers
returns-clause-readers g c honest ready = readers g (goal.at.returns-clause-readers g c).After-noted honest ready

pub returns-in_err-begin-clause-readers : goal.returns-in_err-begin-clause-readers
returns-in_err-begin-clause-readers g c honest ready =
    kept_yet g.D.Disk c.args.self.now.disk c.begin.new.self.disk c.args.self.now.root (c.begin.ensures.readers honest ready) c.args.root.now
