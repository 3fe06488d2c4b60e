use Rattle.std.proofs.Common.{◌≡◌, Bool, ℕ, ap, ◌∙◌, subst}
use Rattle.disk.specs.Disk.{Image}
use Rattle.disk.specs.Disk.{TornAt}
use Rattle.disk.specs.Stops.{LeavesOnly, nothing_done, weaker}
use Rattle.roots.specs.Slots.{gate, other, IsAt, KeepsEarlier}
use Rattle.roots.proofs.Filled.{kept_all, closing}
use Rattle.roots.proofs.Readers.{stays_earlier, closing_earlier}
use Rattle.roots.proofs.roots.Roots.begin.Goals as goal

pub returns-then-not-self-clause-any_moment : goal.returns-then-not-self-clause-any_moment
returns-then-not-self-clause-any_moment g c honest ready =
    let d = g.D.Disk in
    let roots = c.args.self.now in
    kept_all d roots.slot roots.other_open roots.root roots.disk roots.disk ready.each (nothing_done d roots.disk (g.met.D.Disk.only_now roots.disk) honest)

pub returns-in_err-noted-clause-any_moment : goal.returns-in_err-noted-clause-any_moment
returns-in_err-noted-clause-any_moment g c honest ready =
    let d = g.D.Disk in
    let roots = c.args.self.now in
    let s = roots.slot in
    let gate_at : c.gate.result ≡ gate (other s) = c.gate.ensures ∙ ap gate c.other.ensures in
    closing d s roots.root roots.disk c.write_through-answer.new.disk
    (λ i may. subst (λ (b : Bool). IsAt s b roots.root i) c.if-not-self.false (ready.each i may))
    (subst (λ (k : ℕ). LeavesOnly d roots.disk c.write_through-answer.new.disk (TornAt k (d.may roots.disk))) gate_at (c.write_through-answer.ensures.any_moment honest))

pub returns-clause-any_moment : goal.returns-clause-any_moment
returns-clause-any_moment g c honest ready =
    let d = g.D.Disk in
    let roots = c.args.self.now in
    let s = roots.slot in
    let gate_at : c.gate.result ≡ gate (other s) = c.gate.ensures ∙ ap gate c.other.ensures in
    closing d s roots.root roots.disk c.write_through-answer.new.disk
    (λ i may. subst (λ (b : Bool). IsAt s b roots.root i) c.if-not-self.false (ready.each i may))
    (subst (λ (k : ℕ). LeavesOnly d roots.disk c.write_through-answer.new.disk (TornAt k (d.may roots.disk))) gate_at (c.write_through-answer.ensures.any_moment honest))

pub returns-then-not-self-clause-readers : goal.returns-then-not-self-clause-readers
returns-then-not-self-clause-readers g c honest ready =
    let d = g.D.Disk in
    let roots = c.args.self.now in
    weaker d roots.disk roots.disk (d.may roots.disk) (KeepsEarlier roots.root (d.may roots.disk)) (λ i may. stays_earlier roots.root (d.may roots.disk) i may)
    (nothing_done d roots.disk (g.met.D.Disk.only_now roots.disk) honest).run

pub returns-in_err-noted-clause-readers : goal.returns-in_err-noted-clause-readers
returns-in_err-noted-clause-readers g c honest ready =
    let d = g.D.Disk in
    let roots = c.args.self.now in
    let s = roots.slot in
    let gate_at : c.gate.result ≡ gate (other s) = c.gate.ensures ∙ ap gate c.other.ensures in
    let new = c.write_through-answer.new.disk in
    weaker d roots.disk new (TornAt (gate (other s)) (d.may roots.disk)) (KeepsEarlier roots.root (d.may roots.disk))
    (λ i torn. closing_earlier s roots.root (d.may roots.disk) i (λ j may. subst (λ (b : Bool). IsAt s b roots.root j) c.if-not-self.false (ready.each j may)) torn)
    (subst (λ (k : ℕ). LeavesOnly d roots.disk new (TornAt k (d.may roots.disk))) gate_at (c.write_through-answer.ensures.any_moment honest))

pub returns-clause-readers : goal.returns-clause-readers
returns-clause-readers g c honest ready =
    let d = g.D.Disk in
    let roots = c.args.self.now in
    let s = roots.slot in
    let gate_at : c.gate.result ≡ gate (other s) = c.gate.ensures ∙ ap gate c.other.ensures in
    let new = c.write_through-answer.new.disk in
    weaker d roots.disk new (TornAt (gate (other s)) (d.may roots.disk)) (KeepsEarlier roots.root (d.may roots.disk))
    (λ i torn. closing_earlier s roots.root (d.may roots.disk) i (λ j may. subst (λ (b : Bool). IsAt s b roots.root j) c.if-not-self.false (ready.each j may)) torn)
    (subst (λ (k : ℕ). LeavesOnly d roots.disk new (TornAt k (d.may roots.disk))) gate_at (c.write_through-answer.ensures.any_moment honest))
