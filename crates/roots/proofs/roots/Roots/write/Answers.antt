use Rattle.std.proofs.Common.{◌≡◌, Bool, false, refl, subst}
use Rattle.disk.specs.Disk.{Image, TornAt}
use Rattle.disk.specs.Stops.{LeavesOnly, by_call}
use Rattle.page_codec.specs.Roots.{RootValue}
use Rattle.roots.specs.Slots.{KeepsBut, KeepsEarlier, IsAt}
use Rattle.roots.proofs.Begun.{then_written}
use Rattle.roots.proofs.Answered.{noted_works}
use Rattle.roots.proofs.Turns.{page_torn, page_kept}
use Rattle.roots.proofs.Readers.{none_earlier, then_kept}
use Rattle.roots.proofs.roots.Roots.write.Goals as goal

pub returns-clause-any_moment : goal.returns-clause-any_moment
returns-clause-any_moment g c honest ready =
    let d = g.D.Disk in
    let p = c.args.p in
    let mid = c.begin.new.self in
    let mid_honest = c.write-answer.ensures.honest honest in
    let begun = c.in_ok-begin.ensures.ready mid_honest ready in
    let P : Image → Type 0 = KeepsBut p mid.root (d.may mid.disk) in
    let torn_leaves : (i : Image) → TornAt p (d.may mid.disk) i → P i = λ i torn.
    ((mid.slot, page_torn mid.slot mid.root p torn.0 i c.requires.page torn.2 (begun.each torn.0 torn.1).current), (torn.0, torn.1, λ k le other. torn.2 k other)) in
    let second : LeavesOnly d mid.disk c.write-answer.new.self P = by_call d mid.disk c.write-answer.new.self P (TornAt p (d.may mid.disk))
    (λ i left. let may = g.met.D.Disk.only_now mid.disk i mid_honest left in ((mid.slot, (begun.each i may).current), (i, may, λ k le other. refl)))
    torn_leaves
    (λ i may. torn_leaves i (c.write-answer.ensures.may honest i may))
    (c.write-answer.ensures.time honest) in
    then_written d c.args.self.now.disk mid.disk c.args.self.now.root (c.begin.ensures.any_moment mid_honest ready) c.write-answer.new.self p
    (subst (λ (root : RootValue). LeavesOnly d mid.disk c.write-answer.new.self (KeepsBut p root (d.may mid.disk))) c.begin.ensures.root second)

pub returns-clause-ready : goal.returns-clause-ready
returns-clause-ready g c honest ready =
    let d = g.D.Disk in
    let mid = c.begin.new.self in
    let begun = c.in_ok-begin.ensures.ready (c.write-answer.ensures.honest honest) ready in
    noted_works c.write-answer.result c.noted.result mid.failed c.noted.new.failed _ c.noted.ensures begun.works
    (λ works. record {
      works = works;
      each = λ i may. let torn = c.write-answer.ensures.may honest i may in page_kept mid.slot mid.other_open mid.root c.args.p torn.0 i c.requires.page torn.2 (begun.each torn.0 torn.1);
    })

-- once the commit has begun the other gate is closed
pub returns-clause-readers : goal.returns-clause-readers
returns-clause-readers g c honest ready =
    let d = g.D.Disk in
    let mid = c.begin.new.self in
    let root = c.args.self.now.root in
    let mid_honest = c.write-answer.ensures.honest honest in
    let begun = c.in_ok-begin.ensures.ready mid_honest ready in
    let P : Image → Type 0 = KeepsEarlier root (d.may mid.disk) in
    let at : (i : Image) → d.may mid.disk i → IsAt mid.slot false root i = λ i may.
    subst (λ (r : RootValue). IsAt mid.slot false r i) c.begin.ensures.root (subst (λ (b : Bool). IsAt mid.slot b mid.root i) (mid.shut c.in_ok-begin.ensures.begun) (begun.each i may)) in
    let closed : (i : Image) → IsAt mid.slot false root i → P i = λ i is. none_earlier mid.slot root (d.may mid.disk) i is.current.here (is.shut refl) in
    let torn_leaves : (i : Image) → TornAt c.args.p (d.may mid.disk) i → P i = λ i torn.
    closed i (page_kept mid.slot false root c.args.p torn.0 i c.requires.page torn.2 (at torn.0 torn.1)) in
    then_kept d c.args.self.now.disk mid.disk root (c.begin.ensures.readers mid_honest ready) c.write-answer.new.self
    (by_call d mid.disk c.write-answer.new.self P (TornAt c.args.p (d.may mid.disk))
    (λ i left. closed i (at i (g.met.D.Disk.only_now mid.disk i mid_honest left)))
    torn_leaves
    (λ i may. torn_leaves i (c.write-answer.ensures.may honest i may))
    (c.write-answer.ensures.time honest))
