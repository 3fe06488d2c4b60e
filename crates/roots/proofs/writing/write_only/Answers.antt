use Rattle.std.proofs.Common.{◌≡◌, ◌∙◌, ℕ, false, ap, subst}
use Rattle.disk.specs.Disk.{SameBut}
use Rattle.roots.specs.Slots.{is_open}
use Rattle.roots.proofs.Answered.{on_ok_map}
use Rattle.roots.proofs.Filled.{formatted_at, formatted_pages}
use Rattle.roots.proofs.writing.write_only.Goals as goal

pub returns-clause-formatted : goal.returns-clause-formatted
returns-clause-formatted g c honest =
    let d = g.D.Disk in
    let mid = c.sync.new.self in
    let still = c.fill_slot.ensures.honest honest in
    let closed = d.seen c.write-2.new.self in
    let same : d.seen mid ≡ closed = c.in_ok-sync.ensures.durable still (d.seen mid) (g.met.D.Disk.seen_may mid still) in
    let bytes : closed 2 ≡ c.closed_gate-2.result = subst (λ (k : ℕ). closed k ≡ c.closed_gate-2.result) c.gate-2.ensures (c.in_ok-write-2.ensures.written (c.in_ok-sync.ensures.honest still)) in
    let shut : is_open (closed 2) ≡ false = ap is_open bytes ∙ c.closed_gate-2.ensures.shut in
    on_ok_map c.fill_slot.result _ _ _ _
    (λ opened spelled others. formatted_at c.args.root.now closed (d.seen mid) (d.seen c.fill_slot.new.disk) shut same others spelled opened)
    (c.fill_slot.ensures.opened honest) (c.fill_slot.ensures.root honest) (c.fill_slot.ensures.others honest)

pub returns-clause-pages : goal.returns-clause-pages
returns-clause-pages g c honest =
    let d = g.D.Disk in
    let mid = c.sync.new.self in
    let still = c.fill_slot.ensures.honest honest in
    let before = c.in_ok-sync.ensures.honest still in
    let same : d.seen mid ≡ d.seen c.write-2.new.self = c.in_ok-sync.ensures.durable still (d.seen mid) (g.met.D.Disk.seen_may mid still) in
    let one : SameBut 0 (d.seen c.args.disk.now) (d.seen c.write.new.self) = subst (λ (k : ℕ). SameBut k (d.seen c.args.disk.now) (d.seen c.write.new.self)) c.gate.ensures (c.in_ok-write.ensures.others (c.in_ok-write-2.ensures.honest before)) in
    let two : SameBut 2 (d.seen c.write.new.self) (d.seen c.write-2.new.self) = subst (λ (k : ℕ). SameBut k (d.seen c.write.new.self) (d.seen c.write-2.new.self)) c.gate-2.ensures (c.in_ok-write-2.ensures.others before) in
    on_ok_map c.fill_slot.result _ _ _ _
    (λ others again more. formatted_pages (d.seen c.args.disk.now) (d.seen c.write.new.self) (d.seen c.write-2.new.self) (d.seen mid) (d.seen c.fill_slot.new.disk) one two same others)
    (c.fill_slot.ensures.others honest) (c.fill_slot.ensures.others honest) (c.fill_slot.ensures.others honest)
