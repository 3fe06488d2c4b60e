use Rattle.std.proofs.Common.{◌≡◌, ◌≤◌, inr, ℕ, subst, sym, ◌∙◌, arith}
use Rattle.disk.specs.Disk.{Image}
use Rattle.roots.specs.declared.opening.Found.{Found}
use Rattle.roots.specs.declared.slot.Slot.TheVariants.{A, B}
use Rattle.roots.specs.Found.{found_as}
use Rattle.roots.specs.Opening.{Holds, chosen, fitting}
use Rattle.roots.specs.Slots.{IsAt}
use Rattle.roots.proofs.Answered.{on_ok, on_any, if_ok, if_ok_map}
use Rattle.roots.proofs.Choice.{found_at}
use Rattle.roots.proofs.Scanned.{seen_old}
use Rattle.roots.proofs.opening.scan.Goals as goal

pub returns-clause-found : goal.returns-clause-found
returns-clause-found g c honest =
    let d = g.D.Disk in
    let seen = d.seen c.sync.new.self in
    let reads = c.read_slots.ensures.only_reads in
    let first : Holds A seen c.in_ok-first.first = if_ok c.read_slots.result _ (λ held. Holds A seen held.0) c.in_ok-first.ensures (c.read_slots.ensures.first honest) in
    let second : Holds B seen c.in_ok-first.second = if_ok c.read_slots.result _ (λ held. Holds B seen held.1) c.in_ok-first.ensures (c.read_slots.ensures.second honest) in
    if_ok_map c.judge.result _ _
    (λ (f : Found) is. subst (λ (i : Image). IsAt f.slot f.other_open f.root i) (sym (reads.seen honest)) (found_at f.slot f.other_open f.root _ _ seen is first second))
    c.judge.ensures.found

pub returns-clause-opens : goal.returns-clause-opens
returns-clause-opens g c honest =
    let d = g.D.Disk in
    let mid = c.sync.new.self in
    let seen = d.seen mid in
    let reads = c.read_slots.ensures.only_reads in
    let still = (reads.nothing honest).honest in
    let only = on_ok c.sync.result _ _ c.in_ok-device.ensures (c.sync.ensures.durable still) in
    let was = seen_old d c.args.disk.now mid only (g.met.D.Disk.seen_may mid still) in
    let first : Holds A seen c.in_ok-first.first = if_ok c.read_slots.result _ (λ held. Holds A seen held.0) c.in_ok-first.ensures (c.read_slots.ensures.first honest) in
    let second : Holds B seen c.in_ok-first.second = if_ok c.read_slots.result _ (λ held. Holds B seen held.1) c.in_ok-first.ensures (c.read_slots.ensures.second honest) in
    let size : c.sectors-2.result ≡ d.size c.args.disk.now = c.sectors-2.ensures ∙ reads.size ∙ c.sync.ensures.size in
    let large : 4 ≤ d.size c.args.disk.now = omega (arith, c.if-sectors-lt-FIXED_SECTORS.false, c.sectors.ensures, c.sync.ensures.size) in
    inr (inr (
      large,
      (
        c.in_ok-first.first,
        c.in_ok-first.second,
        subst (λ (i : Image). Holds A i c.in_ok-first.first) was first,
        subst (λ (i : Image). Holds B i c.in_ok-first.second) was second,
        subst (λ (n : ℕ). found_as c.judge.result ≡ fitting n (chosen c.in_ok-first.first c.in_ok-first.second)) size c.judge.ensures.answer,
      ),
    ))

pub returns-clause-seen : goal.returns-clause-seen
returns-clause-seen g c honest =
    let d = g.D.Disk in
    let mid = c.sync.new.self in
    let reads = c.read_slots.ensures.only_reads in
    let still = (reads.nothing honest).honest in
    let only = on_ok c.sync.result _ _ c.in_ok-device.ensures (c.sync.ensures.durable still) in
    on_any c.judge.result _ (reads.seen honest ∙ seen_old d c.args.disk.now mid only (g.met.D.Disk.seen_may mid still))

pub returns-clause-durable : goal.returns-clause-durable
returns-clause-durable g c honest =
    let d = g.D.Disk in
    let mid = c.sync.new.self in
    let reads = c.read_slots.ensures.only_reads in
    let added = reads.nothing honest in
    let only = on_ok c.sync.result _ _ c.in_ok-device.ensures (c.sync.ensures.durable added.honest) in
    let was = seen_old d c.args.disk.now mid only (g.met.D.Disk.seen_may mid added.honest) in
    on_any c.judge.result _ (λ image may. only image (added.run.now image may) ∙ sym was ∙ sym (reads.seen honest))
