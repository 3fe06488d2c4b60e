use Rattle.std.proofs.Common.{◌≡◌, Bool, true, sym, ◌∙◌, ap, subst, List, ℕ}
use Rattle.std.proofs.lemmas.Bool.{false≢true}
use Rattle.std.proofs.lemmas.Slice.Eq.{bytes_eq-Decides}
use Rattle.disk.specs.declared.disk.Disk.{Ghosts}
use Rattle.page_codec.specs.Roots.{RootValue}
use Rattle.roots.specs.RootTests.{HasTested}
use Rattle.roots.specs.Roots.{disk_of}
use Rattle.roots.specs.Slots.{is_open, gate, root_sector, IsSpelledBy}
use Rattle.roots.specs.declared.slot.Slot.{Slot}
use Rattle.roots.proofs.roots.Roots.confirm.Goals as goal

-- two reads, in their order
tested : {D : Type 0} (g : Ghosts D) (root : RootValue) (old mid new : D) (slot : Slot) (gate_at root_at : ℕ) (gate_bytes root_bytes : List ℕ) → gate_at ≡ gate slot → root_at ≡ root_sector slot
    → g.has_read old gate_at true gate_bytes mid → g.has_read mid root_at true root_bytes new → (answer : Bool) → (answer ≡ true → is_open gate_bytes ≡ true) → (answer ≡ true → IsSpelledBy root root_bytes) → HasTested g slot root old answer new
tested g root old mid new slot gate_at root_at gate_bytes root_bytes at_gate at_root first second answer opened there = record {
  mid = mid;
  gate_bytes = gate_bytes;
  root_bytes = root_bytes;
  gate_first = subst (λ (s : ℕ). g.has_read old s true gate_bytes mid) at_gate first;
  then_root = subst (λ (s : ℕ). g.has_read mid s true root_bytes new) at_root second;
  was_open = opened;
  was_there = there;
}

pub returns-then-is_open_gate-clause-tested : goal.returns-then-is_open_gate-clause-tested
returns-then-is_open_gate-clause-tested g c =
    let old = c.args.self.now in
    let root_is : c.read-2.new.self.root ≡ old.root = c.read-2.ensures.root ∙ c.read.ensures.root in
    let spelled : IsSpelledBy old.root c.spelling-wanted.result = subst (λ (r : RootValue). IsSpelledBy r c.spelling-wanted.result) root_is c.spelling-wanted.ensures in
    tested g.D.Disk old.root old.disk c.read.new.self.disk c.read-2.new.self.disk old.slot c.gate.result c.root_sector.result c.read.new.into c.read-2.new.into c.gate.ensures c.root_sector.ensures c.in_ok-read.ensures.has_read c.in_ok-read-2.ensures.has_read c.eq.result
    (λ is. sym c.is_open_gate.ensures ∙ c.if-is_open_gate.true)
    (λ is. subst (λ (l : List ℕ). IsSpelledBy old.root l) (sym ((bytes_eq-Decides c.read-2.new.into c.spelling-wanted.result).0 (sym c.eq.ensures ∙ is))) spelled)

pub returns-else-is_open_gate-clause-tested : goal.returns-else-is_open_gate-clause-tested
returns-else-is_open_gate-clause-tested g c =
    let old = c.args.self.now in
    tested g.D.Disk old.root old.disk c.read.new.self.disk c.read-2.new.self.disk old.slot c.gate.result c.root_sector.result c.read.new.into c.read-2.new.into c.gate.ensures c.root_sector.ensures c.in_ok-read.ensures.has_read c.in_ok-read-2.ensures.has_read c.is_open_gate.result
    (λ is. absurd (false≢true (sym c.if-is_open_gate.false ∙ is)))
    (λ is. absurd (false≢true (sym c.if-is_open_gate.false ∙ is)))

-- the gate was open, and then the root's own bytes were there
pub returns-then-is_open_gate-clause-stands : goal.returns-then-is_open_gate-clause-stands
returns-then-is_open_gate-clause-stands g c honest is =
    let d = g.D.Disk in
    let old = c.args.self.now in
    let seen = d.seen (disk_of old) in
    let mid_honest = (c.read-2.ensures.nothing honest).honest in
    let gate_bytes : c.read.new.into ≡ seen (gate old.slot) = c.in_ok-read.ensures.read mid_honest ∙ ap seen c.gate.ensures in
    let opened : is_open (seen (gate old.slot)) ≡ true = ap is_open (sym gate_bytes) ∙ sym c.is_open_gate.ensures ∙ c.if-is_open_gate.true in
    let root_bytes : c.read-2.new.into ≡ seen (root_sector old.slot) = c.in_ok-read-2.ensures.read honest ∙ ap (d.seen (disk_of c.read.new.self)) c.root_sector.ensures ∙ ap (λ (i : ℕ → List ℕ). i (root_sector old.slot)) (c.read.ensures.seen mid_honest) in
    let same : c.read-2.new.into ≡ c.spelling-wanted.result = (bytes_eq-Decides c.read-2.new.into c.spelling-wanted.result).0 (sym c.eq.ensures ∙ cc is) in
    let root_is : c.read-2.new.self.root ≡ old.root = c.read-2.ensures.root ∙ c.read.ensures.root in
    let spelled : IsSpelledBy old.root c.spelling-wanted.result = subst (λ (r : RootValue). IsSpelledBy r c.spelling-wanted.result) root_is c.spelling-wanted.ensures in
    (old.slot, opened, subst (λ (l : List ℕ). IsSpelledBy old.root l) (sym same ∙ root_bytes) spelled)
