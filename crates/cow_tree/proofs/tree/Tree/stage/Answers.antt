use Rattle.cow_tree.proofs.Prelude.{All-cons, All-nil, Contains, Format, PageMapValue, RootValue, ℕ, [], ap, corners_of_locations, entry_of, format_of, index_page_by, length, map, pages_due, pages_of, reached, subst, sym, ◌+◌, ◌<◌, ◌∙◌, ◌∷◌, ◌≤◌}
use Rattle.cow_tree.proofs.Steps.{corners_same, stage_pages, stage_stays, page_unreached, ok_where_works, on_ok_both, ok_where}
use Rattle.cow_tree.proofs.Cached.{written_agrees}
use Rattle.cow_tree.proofs.Listed.Due.{written_due, written_due_same, written_due_before, written_here, written_still}
use Rattle.cow_tree.proofs.Writes.PageWrites.{one_written}
use Rattle.cow_tree.proofs.Uncommitted.{wrote}
use Rattle.cow_tree.proofs.tree.Tree.stage.Goals as goal

pub returns-clause-corners : goal.returns-clause-corners
returns-clause-corners g c =
    let rw = c.in_ok-number.ensures.written in
    ap (λ (page_map : PageMapValue). corners_of_locations page_map.staged) rw.changed ∙ corners_same c.args.c c.args.i c.in_ok-number.number rw.index_page rw.record_page c.args.self.now.page_map.staged

pub returns-clause-staged : goal.returns-clause-staged
returns-clause-staged g c honest s is =
    let d = g.D.Disk in
    let old = c.args.self.now in
    let rw = c.in_ok-number.ensures.written in
    let index : c.args.i < pages_of old.page_map.format.side = subst (λ (n : ℕ). c.args.i < pages_of n) (sym (ap (λ (f : Format). f.side) old.format)) c.requires.index in
    on_ok_both c.write.result
    (stage_pages old.page_map c.page_for_writing.new.self c.args.c c.args.i c.in_ok-number.number c.args.page.now (d.seen old.roots.disk) (d.seen c.write.new.self.disk) c.rules.ensures c.in_ok-number.ensures.rules rw c.requires.present index)
    (c.write.ensures.others honest) (c.write.ensures.written honest)

pub returns-clause-uncommitted : goal.returns-clause-uncommitted
returns-clause-uncommitted g c =
    let d = g.D.Disk in
    let old = c.args.self.now in
    let new_page_map = c.page_for_writing.new.self in
    let rw = c.in_ok-number.ensures.written in
    let index : c.args.i < pages_of old.page_map.format.side = subst (λ (n : ℕ). c.args.i < pages_of n) (sym (ap (λ (f : Format). f.side) old.format)) c.requires.index in
    let wrote_it = c.write.ensures in
    let unreached = page_unreached old.page_map new_page_map c.args.c c.args.i c.in_ok-number.number c.args.page.now (d.seen old.roots.disk) (d.seen c.write.new.self.disk) c.rules.ensures c.in_ok-number.ensures.rules rw in
    wrote d old _ c.write.result (c.in_ok-number.number ∷ [])
    (one_written d old.roots c.write.new.self c.in_ok-number.number c.write.result wrote_it.size wrote_it.cause wrote_it.refused wrote_it.writes wrote_it.begun wrote_it.honest wrote_it.root wrote_it.not_failed wrote_it.failed wrote_it.ready wrote_it.others wrote_it.any_moment)
    (All-cons (λ p. ¬ Contains (reached old.page_map.committed) p) c.in_ok-number.number [] unreached (All-nil (λ p. ¬ Contains (reached old.page_map.committed) p)))
    (ap (λ (page_map : PageMapValue). page_map.committed) rw.changed)
    (λ honest s is.
    on_ok_both c.write.result
    (λ same written. stage_stays old.page_map new_page_map c.args.c c.args.i c.in_ok-number.number c.args.page.now (d.seen old.roots.disk) (d.seen c.write.new.self.disk) c.rules.ensures c.in_ok-number.ensures.rules rw (format_of old.roots.root) c.requires.present index same written is.staged)
    (wrote_it.others honest) (wrote_it.written honest))

pub returns-clause-due : goal.returns-clause-due
returns-clause-due g c =
    let old = c.args.self.now in
    subst (λ (f : Format). length (pages_due c.page_for_writing.new.self) ≤ length (pages_due old.page_map) + (1 + index_page_by f.version)) old.format
    (written_due old.page_map c.page_for_writing.new.self c.args.c c.args.i c.in_ok-number.number c.rules.ensures c.in_ok-number.ensures.written c.requires.present)

pub returns-clause-due_same : goal.returns-clause-due_same
returns-clause-due_same g c had =
    let old = c.args.self.now in
    subst (λ (f : Format). length (pages_due c.page_for_writing.new.self) ≤ length (pages_due old.page_map) + index_page_by f.version) old.format
    (written_due_same old.page_map c.page_for_writing.new.self c.args.c c.args.i c.in_ok-number.number c.rules.ensures c.in_ok-number.ensures.written c.requires.present had)

pub returns-clause-due_before : goal.returns-clause-due_before
returns-clause-due_before g c = written_due_before c.args.self.now.page_map c.page_for_writing.new.self c.args.c c.args.i c.in_ok-number.number c.rules.ensures c.in_ok-number.ensures.written c.requires.present

pub returns-clause-has_staged : goal.returns-clause-has_staged
returns-clause-has_staged g c = ok_where c.write.result (written_here c.args.self.now.page_map c.page_for_writing.new.self c.args.c c.args.i c.in_ok-number.number c.rules.ensures c.in_ok-number.ensures.written c.requires.present)

pub returns-clause-still_staged : goal.returns-clause-still_staged
returns-clause-still_staged g c = written_still c.args.self.now.page_map c.page_for_writing.new.self c.args.c c.args.i c.in_ok-number.number c.rules.ensures c.in_ok-number.ensures.written

pub invariant_of-self-2-clause-entries : goal.invariant_of-self-2-clause-entries
invariant_of-self-2-clause-entries g c = ap (λ (page_map : PageMapValue). map entry_of page_map.committed) c.in_ok-number.ensures.written.changed ∙ c.args.self.now.entries ∙ ap (λ (r : RootValue). r.entries) (sym c.write.ensures.root)

pub invariant_of-self-2-clause-cached : goal.invariant_of-self-2-clause-cached
invariant_of-self-2-clause-cached g c honest works =
    let d = g.D.Disk in
    let old = c.args.self.now in
    let new = c.write.new.self in
    let write = c.write.ensures in
    written_agrees old.cache c.forget.new.self (d.seen old.roots.disk) (d.seen new.disk) c.in_ok-number.number c.forget.ensures.kept c.forget.ensures.gone
    (ok_where_works c.write.result new.failed write.failed works (write.others honest)) (old.cached (write.honest honest) c.requires.not_failed)
