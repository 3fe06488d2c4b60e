use Rattle.cow_tree.proofs.Prelude.{All, HasRecords, Image, RootValue, format_of, nothing_twice, subst, sym, ◌∙◌, ◌≡◌}
use Rattle.cow_tree.proofs.Clean.{is_clean}
use Rattle.cow_tree.proofs.Opened.{opened, page_map_refuses, stands_opens}
use Rattle.cow_tree.proofs.ReadOnly.{works_ok}
use Rattle.cow_tree.proofs.tree.Tree.open.Goals as goal

pub returns-in-Ok-read_page_map-clause-at : goal.returns-in-Ok-read_page_map-clause-at
returns-in-Ok-read_page_map-clause-at g c honest =
    let d = g.D.Disk in
    let reads = c.in-Ok-read_page_map.ensures.reads in
    let roots = c.read_page_map.new.roots in
    let opening = c.in_ok-roots.ensures in
    let opened_honest = reads.honest honest in
    let seen_is : d.seen roots.disk ≡ d.seen c.args.disk = reads.seen honest ∙ opening.seen opened_honest in
    opened d _ (d.size c.args.disk) (d.seen c.args.disk) (reads.ready honest (opening.ready opened_honest) (works_ok c.in-Ok-read_page_map.page_map roots.failed reads.works)) (reads.size ∙ opening.size) seen_is
    (λ image may. opening.durable opened_honest image ((reads.nothing honest).run.now image may) ∙ opening.seen opened_honest)
    (g.met.D.Disk.seen_may roots.disk honest) c.in-Ok-read_page_map.ensures.rules c.in-Ok-read_page_map.ensures.clean
    (subst (λ (r : RootValue). All (HasRecords (format_of r) (d.seen c.args.disk)) c.in-Ok-read_page_map.page_map.committed) (c.copy-root.ensures ∙ c.current.ensures ∙ sym reads.root)
    (subst (λ (i : Image). All (HasRecords (format_of c.copy-root.result) i) c.in-Ok-read_page_map.page_map.committed) (opening.seen opened_honest) (c.in-Ok-read_page_map.ensures.records honest)))

pub returns-in-Ok-read_page_map-clause-clean : goal.returns-in-Ok-read_page_map-clause-clean
returns-in-Ok-read_page_map-clause-clean g c = is_clean _ c.in-Ok-read_page_map.ensures.clean

pub returns-in-Err-clause-refused : goal.returns-in-Err-clause-refused
returns-in-Err-clause-refused g c honest =
    let d = g.D.Disk in
    let opening = c.in_ok-roots.ensures in
    let now_honest = subst d.honest c.into_disk.ensures honest in
    let opened_honest = c.in-Err.ensures.reads.honest now_honest in
    page_map_refuses (d.size c.args.disk) (d.size c.in_ok-roots.roots.disk) (d.seen c.args.disk) (d.seen c.in_ok-roots.roots.disk) c.copy-root.result c.in_ok-roots.roots.root c.in-Err.refusal _
    opening.size (opening.seen opened_honest) (c.copy-root.ensures ∙ c.current.ensures) (λ fault. cc) (opening.opens opened_honest) (c.in-Err.ensures.refused now_honest)

pub returns-in-Err-clause-sure : goal.returns-in-Err-clause-sure
returns-in-Err-clause-sure g c honest s is = stands_opens (g.D.Disk.size c.args.disk) (g.D.Disk.seen c.args.disk) s c.in-Err.refusal is (returns-in-Err-clause-refused g c honest)

pub returns-in-Ok-read_page_map-clause-nothing : goal.returns-in-Ok-read_page_map-clause-nothing
returns-in-Ok-read_page_map-clause-nothing g c honest =
    let reads = c.in-Ok-read_page_map.ensures.reads in
    nothing_twice g.D.Disk c.args.disk c.in_ok-roots.roots.disk c.read_page_map.new.roots.disk (c.in_ok-roots.ensures.nothing (reads.honest honest)) (reads.nothing honest)
