use Rattle.cow_tree.proofs.Prelude.{Err, List, Ok, Refusal, Result, WritesPages, ℕ, [], ap, arith, below_more, disk_of, drop, drop-drop, ended_with, get_or, padded, subst, sym, take, take_all, take_more, ◌*◌, ◌++◌, ◌+◌, ◌∙◌, ◌∷◌, ◌≡◌}
use Rattle.page_map.proofs.Occurrences.{once_apart}
use Rattle.cow_tree.proofs.Listed.Counting.{take_few, times_first}
use Rattle.cow_tree.proofs.Writes.PageWrites.{HasWritten, one_written, then_written, refused_within}
use Rattle.cow_tree.proofs.Writes.WrittenPages.{all_written}
use Rattle.cow_tree.proofs.writing.write_plane.Goals as goal

pub returns-in_err-write-clause-writes : goal.returns-in_err-write-clause-writes
returns-in_err-write-clause-writes g c =
    let d = g.D.Disk in
    let pages = c.args.pages.now in
    let index : ℕ = c.loop-page.page-index in
    let page : ℕ = get_or pages index 0 in
    let why : Refusal = c.in_err-write.field-0.0 in
    let refused = c.in_err-write.ensures in
    let ended : c.from_residual.result ≡ Err why = ended_with c.from_residual.result why c.from_residual.ensures.1 in
    let more : take (index + 1) pages ≡ take index pages ++ page ∷ [] = take_more pages index 0 c.loop-page-test.true in
    let wrote = one_written d c.loop-page.roots c.write.new.self page (Err why) refused.size refused.cause refused.refused refused.writes refused.begun refused.honest refused.root refused.not_failed refused.failed refused.ready refused.others refused.any_moment in
    subst (λ (r : Result (Unit {0}) Refusal). WritesPages d pages c.args.roots.now c.write.new.self r) (sym ended)
    (refused_within d (take (index + 1) pages) pages c.args.roots.now c.write.new.self why (take_few (index + 1) pages) (times_first (index + 1) pages)
    (subst (λ (l : List ℕ). WritesPages {T = Unit {0}} d l c.args.roots.now c.write.new.self (Err why)) (sym more)
    (then_written d c.args.roots.now c.loop-page.roots c.write.new.self (take index pages) (page ∷ []) (Err why) c.loop-page.invariant.wrote wrote)))

pub loop-page-preserved : goal.loop-page-preserved
loop-page-preserved g c =
    let here = c.loop-page.invariant in
    let d = g.D.Disk in
    let mid = c.loop-page.roots in
    let pages = c.args.pages.now in
    let index : ℕ = c.loop-page.page-index in
    let page : ℕ = get_or pages index 0 in
    let done = c.in_ok-write.ensures in
    let wrote = one_written d mid c.write.new.self page (Ok tt) done.size done.cause done.refused done.writes done.begun done.honest done.root done.not_failed done.failed done.ready done.others done.any_moment in
    record {
      wrote = subst (λ (l : List ℕ). HasWritten d l c.args.roots.now c.write.new.self) (sym (take_more pages index 0 c.loop-page-test.true))
          (then_written d c.args.roots.now mid c.write.new.self (take index pages) (page ∷ []) (Ok tt) here.wrote wrote);
      rest = c.split_page.ensures.behind ∙ ap (drop 4096) here.rest ∙ drop-drop 4096 (4096 * index) c.args.bytes.now ∙ ap (λ (n : ℕ). drop n c.args.bytes.now) (let e : 4096 * index + 4096 ≡ 4096 * (index + 1) = omega arith in e);
      written = λ honest.
          below_more _ index
          (λ k lt. sym (done.others honest (get_or pages k 0) (c.requires.low k 0 (omega (arith, lt, c.loop-page-test.true)))
          (once_apart pages c.requires.distinct k index (omega (arith, lt, c.loop-page-test.true)) c.loop-page-test.true (omega (arith, lt))))
          ∙ here.written (done.honest honest) k lt)
          (done.written honest ∙ c.page_of.ensures ∙ ap (padded 4096) (c.split_page.ensures.front ∙ ap (take 4096) here.rest));
    }

pub returns-clause-writes : goal.returns-clause-writes
returns-clause-writes g c =
    subst (λ (l : List ℕ). HasWritten g.D.Disk l c.args.roots.now c.loop-page.roots) (take_all c.loop-page.page-index c.args.pages.now c.loop-page-test.false) c.loop-page.invariant.wrote

pub returns-clause-written : goal.returns-clause-written
returns-clause-written g c honest = all_written (g.D.Disk.seen (disk_of c.loop-page.roots)) c.args.pages.now c.args.bytes.now (λ k lt. c.loop-page.invariant.written honest k (omega (arith, lt, c.loop-page-test.false)))
