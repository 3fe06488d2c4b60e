use Rattle.store.proofs.Prelude.{One, Tree, Two, Version, ap, disk_of, has_failed, if◌then◌else◌, is_none, nat_eq, number_of, refl, root_of, subst, ◌*◌, ◌+◌, ◌∙◌, ◌≡◌, ◌≤◌}
use Rattle.page_codec.specs.Sizes.{index_pages_by, pages_of}
use Rattle.engine.specs.declared.event.Event.TheVariants as ask
use Rattle.engine.specs.declared.event.Reply.TheVariants as reply
use Rattle.engine.proofs.Questions.{step_answered}
use Rattle.store.proofs.Calls.StoreCalls.{ended}
use Rattle.store.proofs.Reading.WaterHeld.{stepped_holding}
use Rattle.store.proofs.store.Store.step.Goals as goal

by_number : (v : Version) → v ≡ (if nat_eq (number_of v) 1 then One else Two)
by_number One = refl
by_number Two = refl

pub returns-clause-call : goal.returns-clause-call
returns-clause-call g c =
    let d = g.D.Disk in
    let old = c.args.self.now.tree in
    let new = c.step_tree.new.tree in
    let failed = c.step_tree.ensures.failed in
    ended d g.met.D.Disk.only_now c.args.self.now _ ask.Step reply.Stepped step_answered is_none c.step_tree.result (stepped_holding d old new c.args.self.now.held c.step_tree.result c.step_tree.ensures.stepped)
    (subst (λ (v : Version). d.writes (disk_of new) ≤ d.writes (disk_of old) + (2 * (1 + index_pages_by v (pages_of (root_of old).side) + pages_of (root_of old).side) + 3)) (by_number (root_of old).version) c.step_tree.ensures.writes)
    (λ fails. ((failed fails).0, (ap (λ (t : Tree _ d). disk_of t) (failed fails).1, ap (λ (t : Tree _ d). has_failed t) (failed fails).1 ∙ fails)))
