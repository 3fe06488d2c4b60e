use Rattle.cow_tree.proofs.Prelude.{AddsNothing, All, Device, HasRecords, Image, RootValue, format_of, nothing_twice, subst, sym, ◌∙◌, ◌≡◌}
use Rattle.cow_tree.proofs.Clean.{is_clean}
use Rattle.cow_tree.proofs.Opened.{opened, page_map_refuses, stands_opens}
use Rattle.cow_tree.proofs.ReadOnly.{works_ok, never_refused}
use Rattle.cow_tree.proofs.tree.Tree.reopen.Goals as goal

pub returns-in-Ok-clause-at : goal.returns-in-Ok-clause-at
returns-in-Ok-clause-at g c honest =
    let d = g.D.Disk in
    let start = c.args.self.now.roots in
    let reads = c.in-Ok.ensures.reads in
    let roots = c.read_page_map.new.roots in
    let opening = c.in_ok-reopen.ensures in
    let opened_honest = reads.honest honest in
    let seen_is : d.seen roots.disk ≡ d.seen start.disk = reads.seen honest ∙ opening.seen opened_honest in
    opened d _ (d.size start.disk) (d.seen start.disk) (reads.ready honest (opening.ready opened_honest) (works_ok c.in-Ok.page_map roots.failed reads.works)) (reads.size ∙ c.reopen.ensures.size) seen_is
    (λ image may. opening.durable opened_honest image ((reads.nothing honest).run.now image may) ∙ opening.seen opened_honest)
    (g.met.D.Disk.seen_may roots.disk honest) c.in-Ok.ensures.rules c.in-Ok.ensures.clean
    (subst (λ (r : RootValue). All (HasRecords (format_of r) (d.seen start.disk)) c.in-Ok.page_map.committed) (c.copy-root.ensures ∙ c.current-2.ensures ∙ sym reads.root)
    (subst (λ (i : Image). All (HasRecords (format_of c.copy-root.result) i) c.in-Ok.page_map.committed) (opening.seen opened_honest) (c.in-Ok.ensures.records honest)))

pub returns-in-Ok-clause-clean : goal.returns-in-Ok-clause-clean
returns-in-Ok-clause-clean g c = is_clean _ c.in-Ok.ensures.clean

pub returns-in-Err-clause-refused : goal.returns-in-Err-clause-refused
returns-in-Err-clause-refused g c honest =
    let d = g.D.Disk in
    let start = c.args.self.now.roots in
    let opening = c.in_ok-reopen.ensures in
    let now_honest = subst d.honest c.fail.ensures.disk honest in
    let opened_honest = c.in-Err.ensures.reads.honest now_honest in
    page_map_refuses (d.size start.disk) (d.size c.reopen.new.self.disk) (d.seen start.disk) (d.seen c.reopen.new.self.disk) c.copy-root.result c.reopen.new.self.root c.in-Err.refusal _
    c.reopen.ensures.size (opening.seen opened_honest) (c.copy-root.ensures ∙ c.current-2.ensures) (never_refused tt Device) (opening.opens opened_honest) (c.in-Err.ensures.refused now_honest)

pub returns-in-Err-clause-sure : goal.returns-in-Err-clause-sure
returns-in-Err-clause-sure g c honest s is =
    let start = c.args.self.now.roots in
    stands_opens (g.D.Disk.size start.disk) (g.D.Disk.seen start.disk) s c.in-Err.refusal is (returns-in-Err-clause-refused g c honest)

pub returns-in-Ok-clause-nothing : goal.returns-in-Ok-clause-nothing
returns-in-Ok-clause-nothing g c honest =
    let reads = c.in-Ok.ensures.reads in
    nothing_twice g.D.Disk c.args.self.now.roots.disk c.reopen.new.self.disk c.read_page_map.new.roots.disk (c.in_ok-reopen.ensures.nothing (reads.honest honest)) (reads.nothing honest)

pub returns-in-Err-clause-nothing : goal.returns-in-Err-clause-nothing
returns-in-Err-clause-nothing g c honest =
    let d = g.D.Disk in
    let reads = c.in-Err.ensures.reads in
    let now_honest = subst d.honest c.fail.ensures.disk honest in
    subst (AddsNothing d c.args.self.now.roots.disk) (sym c.fail.ensures.disk)
    (nothing_twice d c.args.self.now.roots.disk c.reopen.new.self.disk c.read_page_map.new.roots.disk (c.in_ok-reopen.ensures.nothing (reads.honest now_honest)) (reads.nothing now_honest))
